use Rattle.std.proofs.Common.{◌≡◌, ◌<◌, ◌≤◌, ◌^◌, ◌+◌, ◌-◌, ◌++◌, [], length, take, drop, refl, sym, ap, subst, ◌∙◌, arith, rules}
use Rattle.std.{proofs.lemmas.{Bool.eqb-true, List.length-take-le}, specs.Io.KnownBytes.{Appends, Keeps}}
use Rattle.memchr.specs.Find.{Nowhere, Passes, is_byte}
use Rattle.tq_host.specs.{Lines.IsLine, Told.{Told, IsTold, with_told, nothing_left, IsHalfOut}}
use Rattle.tq_host.specs.declared.fault.HostFault.TheVariants.{Memory}
use Rattle.tq_host.proofs.LineLaws.{line-found, no-feed-at-all, take-few}
use Rattle.tq_host.proofs.ServeLaws.{turning-opens, turn-line, turn-cut, turn-half, turn-last, turn-long, turn-read, turn-fails, turn-ends, turn-same, slice-rest}
use Rattle.tq_host.proofs.serving.serve.Goals as goal

pub loop-turn-init : goal.loop-turn-init
loop-turn-init g c =
    let kept = g.L.Log.kept in
    let synced = g.L.Log.synced in
    let taken = g.W.Sink.taken in
    let given = g.R.Source.given in
    record {
      going = turn-same g.P.Answers.reply g.P.Answers.after g.P.Wire.reads_ask g.P.Wire.reads g.P.Wire.entry_line g.P.Wire.told_line c.args.part (kept c.args.log.now) (taken c.args.writer.now) (given c.args.reader.now) 0
          (kept c.args.log.now) (synced c.args.log.now) (taken c.args.writer.now) (given c.args.reader.now) (nothing_left c.args.part) c.new-batch.result [] c.new-line.result.items [] []
          (turning-opens g.P.Answers.reply g.P.Answers.after g.P.Wire.reads_ask g.P.Wire.reads g.P.Wire.entry_line g.P.Wire.told_line c.args.part (kept c.args.log.now) (taken c.args.writer.now) (given c.args.reader.now) (synced c.args.log.now) c.requires.synced) c.new-batch.ensures c.new-line.ensures.items refl;
      within = (omega arith, omega arith);
      reads = refl;
      writes = refl;
      logs = refl;
    }

pub returns-in_default-end_line-clause-served : goal.returns-in_default-end_line-clause-served
returns-in_default-end_line-clause-served g c =
    let kept = g.L.Log.kept in
    let synced = g.L.Log.synced in
    let taken = g.W.Sink.taken in
    let given = g.R.Source.given in
    let unread = take (c.loop-turn.count - c.loop-turn.at) (drop c.loop-turn.at c.loop-turn.buffer) in
    turn-cut g.P.Answers.reply g.P.Answers.after g.P.Wire.reads_ask g.P.Wire.reads g.P.Wire.entry_line g.P.Wire.told_line c.args.part (kept c.args.log.now) (taken c.args.writer.now) (given c.args.reader.now) c.loop-turn._turn
    (kept c.loop-turn.log) (synced c.loop-turn.log) (taken c.loop-turn.writer) (given c.loop-turn.reader) c.loop-turn.batch c.loop-turn.line.items unread c.loop-turn.invariant.going Memory tt

pub returns-then-len-gt-LINE_LIMIT-clause-served : goal.returns-then-len-gt-LINE_LIMIT-clause-served
returns-then-len-gt-LINE_LIMIT-clause-served g c =
    let kept = g.L.Log.kept in
    let synced = g.L.Log.synced in
    let taken = g.W.Sink.taken in
    let given = g.R.Source.given in
    let unread = take (c.loop-turn.count - c.loop-turn.at) (drop c.loop-turn.at c.loop-turn.buffer) in
    let nowhere : Nowhere (Passes (is_byte 10) unread) 0 (length unread) = search rules in
    let long : 67108864 < length c.loop-turn.line.items = search rules in
    turn-long g.P.Answers.reply g.P.Answers.after g.P.Wire.reads_ask g.P.Wire.reads g.P.Wire.entry_line g.P.Wire.told_line c.args.part (kept c.args.log.now) (taken c.args.writer.now) (given c.args.reader.now) c.loop-turn._turn
    (kept c.loop-turn.log) (synced c.loop-turn.log) (taken c.loop-turn.writer) (given c.loop-turn.reader) c.loop-turn.batch c.loop-turn.line.items unread c.loop-turn.invariant.going (no-feed-at-all unread nowhere) long

pub returns-in_default-extend_from_slice-clause-served : goal.returns-in_default-extend_from_slice-clause-served
returns-in_default-extend_from_slice-clause-served g c =
    let kept = g.L.Log.kept in
    let synced = g.L.Log.synced in
    let taken = g.W.Sink.taken in
    let given = g.R.Source.given in
    let unread = take (c.loop-turn.count - c.loop-turn.at) (drop c.loop-turn.at c.loop-turn.buffer) in
    turn-cut g.P.Answers.reply g.P.Answers.after g.P.Wire.reads_ask g.P.Wire.reads g.P.Wire.entry_line g.P.Wire.told_line c.args.part (kept c.args.log.now) (taken c.args.writer.now) (given c.args.reader.now) c.loop-turn._turn
    (kept c.loop-turn.log) (synced c.loop-turn.log) (taken c.loop-turn.writer) (given c.loop-turn.reader) c.loop-turn.batch c.loop-turn.line.items unread c.loop-turn.invariant.going Memory tt

pub returns-clause-served : goal.returns-clause-served
returns-clause-served g c =
    let kept = g.L.Log.kept in
    let synced = g.L.Log.synced in
    let taken = g.W.Sink.taken in
    let given = g.R.Source.given in
    let unread = take (c.loop-turn.count - c.loop-turn.at) (drop c.loop-turn.at c.loop-turn.buffer) in
    let last : 2 ^ 64 ≤ c.loop-turn._turn + 1 = search rules in
    turn-last g.P.Answers.reply g.P.Answers.after g.P.Wire.reads_ask g.P.Wire.reads g.P.Wire.entry_line g.P.Wire.told_line c.args.part (kept c.args.log.now) (taken c.args.writer.now) (given c.args.reader.now) c.loop-turn._turn
    (kept c.loop-turn.log) (synced c.loop-turn.log) (taken c.loop-turn.writer) (given c.loop-turn.reader) c.loop-turn.batch c.loop-turn.line.items unread c.loop-turn.invariant.going last

pub returns-in-Err-clause-served : goal.returns-in-Err-clause-served
returns-in-Err-clause-served g c =
    let kept = g.L.Log.kept in
    let synced = g.L.Log.synced in
    let taken = g.W.Sink.taken in
    let given = g.R.Source.given in
    let unread = take (c.loop-turn.count - c.loop-turn.at) (drop c.loop-turn.at c.loop-turn.buffer) in
    let half : IsHalfOut c.loop-turn.batch.entries c.loop-turn.batch.answers (kept c.loop-turn.log) (kept c.flush.new.log) (synced c.loop-turn.log) (synced c.flush.new.log) (taken c.loop-turn.writer) (taken c.flush.new.writer) = search rules in
    turn-half g.P.Answers.reply g.P.Answers.after g.P.Wire.reads_ask g.P.Wire.reads g.P.Wire.entry_line g.P.Wire.told_line c.args.part (kept c.args.log.now) (taken c.args.writer.now) (given c.args.reader.now) c.loop-turn._turn
    (kept c.loop-turn.log) (synced c.loop-turn.log) (taken c.loop-turn.writer) (given c.loop-turn.reader) c.loop-turn.batch c.loop-turn.line.items unread c.loop-turn.invariant.going c.in-Err.fault c.in-Err.ensures.short
    (kept c.flush.new.log) (synced c.flush.new.log) (taken c.flush.new.writer) half

pub returns-in_default-read-clause-served : goal.returns-in_default-read-clause-served
returns-in_default-read-clause-served g c =
    let kept = g.L.Log.kept in
    let synced = g.L.Log.synced in
    let taken = g.W.Sink.taken in
    let given = g.R.Source.given in
    let unread = take (c.loop-turn.count - c.loop-turn.at) (drop c.loop-turn.at c.loop-turn.buffer) in
    let more : Appends (kept c.loop-turn.log) (kept c.flush.new.log) c.loop-turn.batch.entries = search rules in
    let same : synced c.flush.new.log ≡ kept c.flush.new.log = search rules in
    let said : Appends (taken c.loop-turn.writer) (taken c.flush.new.writer) c.loop-turn.batch.answers = search rules in
    let none : Keeps (given c.loop-turn.reader) (given c.read.new.self) = search rules in
    turn-fails g.P.Answers.reply g.P.Answers.after g.P.Wire.reads_ask g.P.Wire.reads g.P.Wire.entry_line g.P.Wire.told_line c.args.part (kept c.args.log.now) (taken c.args.writer.now) (given c.args.reader.now) c.loop-turn._turn
    (kept c.loop-turn.log) (synced c.loop-turn.log) (taken c.loop-turn.writer) (given c.loop-turn.reader) c.loop-turn.batch c.loop-turn.line.items unread c.loop-turn.invariant.going
    (kept c.flush.new.log) (synced c.flush.new.log) (taken c.flush.new.writer) (given c.read.new.self) more same said none

pub returns-then-more-eq0-clause-served : goal.returns-then-more-eq0-clause-served
returns-then-more-eq0-clause-served g c =
    let kept = g.L.Log.kept in
    let synced = g.L.Log.synced in
    let taken = g.W.Sink.taken in
    let given = g.R.Source.given in
    let unread = take (c.loop-turn.count - c.loop-turn.at) (drop c.loop-turn.at c.loop-turn.buffer) in
    let more : Appends (kept c.loop-turn.log) (kept c.flush.new.log) c.loop-turn.batch.entries = search rules in
    let same : synced c.flush.new.log ≡ kept c.flush.new.log = search rules in
    let said : Appends (taken c.loop-turn.writer) (taken c.flush.new.writer) c.loop-turn.batch.answers = search rules in
    let nowhere : Nowhere (Passes (is_byte 10) unread) 0 (length unread) = search rules in
    let free = no-feed-at-all unread nowhere in
    let bytes : Appends (given c.loop-turn.reader) (given c.read.new.self) (take c.in-Ok-read.more c.read.new.buffer) = search rules in
    let none : Appends (given c.loop-turn.reader) (given c.read.new.self) [] = subst (λ n. Appends (given c.loop-turn.reader) (given c.read.new.self) (take n c.read.new.buffer)) c.if-more-eq0.true bytes in
    turn-ends g.P.Answers.reply g.P.Answers.after g.P.Wire.reads_ask g.P.Wire.reads g.P.Wire.entry_line g.P.Wire.told_line c.args.part (kept c.args.log.now) (taken c.args.writer.now) (given c.args.reader.now) c.loop-turn._turn
    (kept c.loop-turn.log) (synced c.loop-turn.log) (taken c.loop-turn.writer) (given c.loop-turn.reader) c.loop-turn.batch c.loop-turn.line.items unread c.loop-turn.invariant.going
    (kept c.flush.new.log) (synced c.flush.new.log) (taken c.flush.new.writer) (given c.read.new.self) more same said free none

pub returns-in_default-read-clause-counts : goal.returns-in_default-read-clause-counts
returns-in_default-read-clause-counts g c =
    let reads : g.R.Source.failed c.read.new.self ≡ g.R.Source.failed c.loop-turn.reader + 1 = search rules in
    let writes : g.W.Sink.failed c.flush.new.writer ≡ g.W.Sink.failed c.loop-turn.writer = search rules in
    let logs : g.L.Log.failed c.flush.new.log ≡ g.L.Log.failed c.loop-turn.log = search rules in
    (reads ∙ ap (λ n. n + 1) c.loop-turn.invariant.reads, writes ∙ c.loop-turn.invariant.writes, logs ∙ c.loop-turn.invariant.logs)

pub returns-then-more-eq0-clause-counts : goal.returns-then-more-eq0-clause-counts
returns-then-more-eq0-clause-counts g c =
    let reads : g.R.Source.failed c.read.new.self ≡ g.R.Source.failed c.loop-turn.reader = search rules in
    let writes : g.W.Sink.failed c.flush.new.writer ≡ g.W.Sink.failed c.loop-turn.writer = search rules in
    let logs : g.L.Log.failed c.flush.new.log ≡ g.L.Log.failed c.loop-turn.log = search rules in
    (reads ∙ c.loop-turn.invariant.reads, writes ∙ c.loop-turn.invariant.writes, logs ∙ c.loop-turn.invariant.logs)

pub loop-turn-preserved-in-Some : goal.loop-turn-preserved-in-Some
loop-turn-preserved-in-Some g c =
    let kept = g.L.Log.kept in
    let synced = g.L.Log.synced in
    let taken = g.W.Sink.taken in
    let given = g.R.Source.given in
    let unread = take (c.loop-turn.count - c.loop-turn.at) (drop c.loop-turn.at c.loop-turn.buffer) in
    let place = c.in-Some.place in
    let found = c.in-Some.ensures in
    let few = take-few (c.loop-turn.count - c.loop-turn.at) (drop c.loop-turn.at c.loop-turn.buffer) in
    let room : place + 1 ≤ c.loop-turn.count - c.loop-turn.at = omega (arith, few, found.0.high) in
    let told : (answer : Told g.row.P-Ask.Denot g.row.P-Reply.Denot)
    × IsTold g.P.Answers.reply g.P.Answers.after g.P.Wire.reads_ask g.P.Wire.reads g.P.Wire.entry_line c.loop-turn.batch.standing (c.loop-turn.line.items ++ take (place + 1) unread) answer
    × (c.end_line.new.batch ≡ with_told g.P.Answers.after g.P.Wire.entry_line g.P.Wire.told_line c.loop-turn.batch answer) = search rules in
    let none : c.end_line.new.line.items ≡ [] = search rules in
    let whole : IsLine (c.loop-turn.line.items ++ take (place + 1) unread) = line-found c.loop-turn.line.items unread place c.loop-turn.invariant.going.unbroken found.0.high (eqb-true _ _ found.1) found.0.before in
    record {
      going = turn-same g.P.Answers.reply g.P.Answers.after g.P.Wire.reads_ask g.P.Wire.reads g.P.Wire.entry_line g.P.Wire.told_line c.args.part (kept c.args.log.now) (taken c.args.writer.now) (given c.args.reader.now) (c.loop-turn._turn + 1)
          (kept c.loop-turn.log) (synced c.loop-turn.log) (taken c.loop-turn.writer) (given c.loop-turn.reader) (with_told g.P.Answers.after g.P.Wire.entry_line g.P.Wire.told_line c.loop-turn.batch told.0) c.end_line.new.batch [] c.end_line.new.line.items (drop (place + 1) unread) _
          (turn-line g.P.Answers.reply g.P.Answers.after g.P.Wire.reads_ask g.P.Wire.reads g.P.Wire.entry_line g.P.Wire.told_line c.args.part (kept c.args.log.now) (taken c.args.writer.now) (given c.args.reader.now) c.loop-turn._turn
          (kept c.loop-turn.log) (synced c.loop-turn.log) (taken c.loop-turn.writer) (given c.loop-turn.reader) c.loop-turn.batch c.loop-turn.line.items unread c.loop-turn.invariant.going (place + 1) told.0 whole told.1) told.2 none (sym (slice-rest c.loop-turn.buffer c.loop-turn.at c.loop-turn.count (place + 1) room));
      within = (omega (arith, room, c.loop-turn.invariant.within.0), c.loop-turn.invariant.within.1);
      reads = c.loop-turn.invariant.reads;
      writes = c.loop-turn.invariant.writes;
      logs = c.loop-turn.invariant.logs;
    }

pub loop-turn-preserved : goal.loop-turn-preserved
loop-turn-preserved g c =
    let kept = g.L.Log.kept in
    let synced = g.L.Log.synced in
    let taken = g.W.Sink.taken in
    let given = g.R.Source.given in
    let unread = take (c.loop-turn.count - c.loop-turn.at) (drop c.loop-turn.at c.loop-turn.buffer) in
    let more : Appends (kept c.loop-turn.log) (kept c.flush.new.log) c.loop-turn.batch.entries = search rules in
    let same : synced c.flush.new.log ≡ kept c.flush.new.log = search rules in
    let said : Appends (taken c.loop-turn.writer) (taken c.flush.new.writer) c.loop-turn.batch.answers = search rules in
    let nowhere : Nowhere (Passes (is_byte 10) unread) 0 (length unread) = search rules in
    let free = no-feed-at-all unread nowhere in
    let more_bytes = c.in-Ok-read.more in
    let comes : Appends (given c.loop-turn.reader) (given c.read.new.self) (take more_bytes c.read.new.buffer) = search rules in
    let batch : c.flush.new.batch ≡ nothing_left c.loop-turn.batch.standing = search rules in
    let line : c.extend_from_slice.new.self.items ≡ c.loop-turn.line.items ++ unread = search rules in
    let size : more_bytes - 0 ≡ more_bytes = omega arith in
    let few : more_bytes ≤ 65536 = search rules in
    let some : 0 < more_bytes = search rules in
    let whole : length c.read.new.buffer ≡ 65536 = search rules in
    let piece : length (take more_bytes c.read.new.buffer) ≡ more_bytes = length-take-le more_bytes c.read.new.buffer (omega (arith, few, whole)) in
    let reads : g.R.Source.failed c.read.new.self ≡ g.R.Source.failed c.loop-turn.reader = search rules in
    let writes : g.W.Sink.failed c.flush.new.writer ≡ g.W.Sink.failed c.loop-turn.writer = search rules in
    let logs : g.L.Log.failed c.flush.new.log ≡ g.L.Log.failed c.loop-turn.log = search rules in
    record {
      going = turn-same g.P.Answers.reply g.P.Answers.after g.P.Wire.reads_ask g.P.Wire.reads g.P.Wire.entry_line g.P.Wire.told_line c.args.part (kept c.args.log.now) (taken c.args.writer.now) (given c.args.reader.now) (c.loop-turn._turn + 1)
          (kept c.flush.new.log) (synced c.flush.new.log) (taken c.flush.new.writer) (given c.read.new.self) (nothing_left c.loop-turn.batch.standing) c.flush.new.batch (c.loop-turn.line.items ++ unread) c.extend_from_slice.new.self.items (take more_bytes c.read.new.buffer) _
          (turn-read g.P.Answers.reply g.P.Answers.after g.P.Wire.reads_ask g.P.Wire.reads g.P.Wire.entry_line g.P.Wire.told_line c.args.part (kept c.args.log.now) (taken c.args.writer.now) (given c.args.reader.now) c.loop-turn._turn
          (kept c.loop-turn.log) (synced c.loop-turn.log) (taken c.loop-turn.writer) (given c.loop-turn.reader) c.loop-turn.batch c.loop-turn.line.items unread c.loop-turn.invariant.going
          (kept c.flush.new.log) (synced c.flush.new.log) (taken c.flush.new.writer) (given c.read.new.self) more same said free (take more_bytes c.read.new.buffer) (rw piece some) comes) batch line (ap (λ n. take n c.read.new.buffer) size);
      within = (omega arith, few);
      reads = reads ∙ c.loop-turn.invariant.reads;
      writes = writes ∙ c.loop-turn.invariant.writes;
      logs = logs ∙ c.loop-turn.invariant.logs;
    }
