use Rattle.std.proofs.Common.{◌≡◌, ◌≤◌, ◌-◌, ◌<◌, length, take, drop, refl, ◌∙◌, arith, rules}
use Rattle.std.proofs.lemmas.List.{length-take-le, length-drop, take_all}
use Rattle.tq_devices.specs.declared.fault.RunFault.TheVariants.{Memory}
use Rattle.tq_shell.{specs.Stream.taken_at_once, proofs.Pieces.{no-bytes, taken_some}}
use Rattle.tq_shell.proofs.SessionLaws.{by_fault, piece_splits, behind_some, said_alone, ends_read, ends_memory, ends_last, ends_piece, goes_on, ends_too_long, answering_ends, answering_on, answering_whole, answering_fails}
use Rattle.tq_shell.proofs.session.answer_pieces.Goals as goal

pub returns-in_default-clause-text : goal.returns-in_default-clause-text
returns-in_default-clause-text g c =
    let given = g.R.Source.given in
    let ended = g.R.Source.is_ended in
    let taken = g.W.Sink.taken in
    ends_read c.args.receiver.now.world (ended c.read.new.self) (given c.args.reader.now) (given c.loop-count.reader) (taken c.args.writer.now) (taken c.loop-count.writer) c.loop-count.receiver c.loop-count.left c.loop-count.invariant.going
    (given c.read.new.self) c.in_default.ensures.nothing

pub returns-in_err-finish-clause-text : goal.returns-in_err-finish-clause-text
returns-in_err-finish-clause-text g c =
    let given = g.R.Source.given in
    let ended = g.R.Source.is_ended in
    let taken = g.W.Sink.taken in
    by_fault c.from_residual.result Memory c.args.receiver.now.world (ended c.read.new.self) _ _ _ _ (search rules)
    (ends_memory c.args.receiver.now.world (ended c.read.new.self) (given c.args.reader.now) (given c.loop-count.reader) (taken c.args.writer.now) (taken c.loop-count.writer) c.loop-count.receiver c.loop-count.left c.loop-count.invariant.going
    (given c.read.new.self) (take c.in-Ok.count c.read.new.buffer) c.in-Ok.ensures.bytes)

pub returns-then-count-eq0-clause-text : goal.returns-then-count-eq0-clause-text
returns-then-count-eq0-clause-text g c =
    let given = g.R.Source.given in
    let ended = g.R.Source.is_ended in
    let taken = g.W.Sink.taken in
    let bytes = rw c.if-count-eq0.true at c.in-Ok.ensures.bytes in
    let text = rw c.loop-count.invariant.none at c.in_ok-finish.ensures in
    ends_last c.args.receiver.now.world (ended c.read.new.self) (given c.args.reader.now) (given c.loop-count.reader) (taken c.args.writer.now) (taken c.loop-count.writer) c.loop-count.receiver c.loop-count.left c.loop-count.invariant.going
    c.write_out.result (given c.read.new.self) (taken c.write_out.new.writer) c.as_slice.result.now _ _ (c.in-Ok.ensures.end.1 c.if-count-eq0.true) bytes (c.as_slice.ensures.value ∙ text) c.write_out.ensures

-- where the answers to a front of a piece are not written
pub returns-in_err-write_out-clause-text : goal.returns-in_err-write_out-clause-text
returns-in_err-write_out-clause-text g c =
    let given = g.R.Source.given in
    let ended = g.R.Source.is_ended in
    let taken = g.W.Sink.taken in
    let failed = g.W.Sink.failed in
    let piece = take c.min.result c.read.new.buffer in
    let split = piece_splits c.min.result c.in-Ok.count c.read.new.buffer (omega (arith, c.min.ensures)) in
    let bytes = rw split at c.in-Ok.ensures.bytes in
    let whole = c.receive-received.ensures.whole in
    let text = said_alone _ _ _ c.loop-piece.invariant.none whole.1 in
    by_fault c.from_residual-in_err-write_out.result c.in_err-write_out.field-0.0 c.args.receiver.now.world (ended c.read.new.self) _ _ _ _ (search rules)
    (ends_piece c.args.receiver.now.world (ended c.read.new.self) (given c.args.reader.now) (given c.loop-count.reader) (taken c.args.writer.now) (taken c.loop-count.writer) c.loop-count.receiver c.loop-count.left c.loop-count.invariant.going
    c.in_err-write_out.field-0.0 (given c.read.new.self) (taken c.write_out-in-loop-piece.new.writer) piece _ (failed c.loop-count.writer) (failed c.write_out-in-loop-piece.new.writer) bytes
    (answering_fails c.loop-count.receiver piece (taken c.loop-count.writer) (taken c.loop-piece.writer) c.loop-piece.receiver c.loop-piece.piece.now c.loop-piece.invariant.going
    c.in_err-write_out.field-0.0 (taken c.write_out-in-loop-piece.new.writer) c.as_slice-in-loop-piece.result.now whole.0 (failed c.loop-count.writer) (failed c.write_out-in-loop-piece.new.writer)
    (c.as_slice-in-loop-piece.ensures.value ∙ text) (rw c.loop-piece.invariant.writes at c.in_err-write_out.ensures)))

-- where memory is refused in a piece
pub returns-in_err-taken-clause-text : goal.returns-in_err-taken-clause-text
returns-in_err-taken-clause-text g c =
    let given = g.R.Source.given in
    let ended = g.R.Source.is_ended in
    let taken = g.W.Sink.taken in
    let failed = g.W.Sink.failed in
    let piece = take c.min.result c.read.new.buffer in
    let split = piece_splits c.min.result c.in-Ok.count c.read.new.buffer (omega (arith, c.min.ensures)) in
    let bytes = rw split at c.in-Ok.ensures.bytes in
    let whole = c.receive-received.ensures.whole in
    let text = said_alone _ _ _ c.loop-piece.invariant.none whole.1 in
    by_fault c.from_residual-in_err-taken.result Memory c.args.receiver.now.world (ended c.read.new.self) _ _ _ _ (search rules)
    (ends_piece c.args.receiver.now.world (ended c.read.new.self) (given c.args.reader.now) (given c.loop-count.reader) (taken c.args.writer.now) (taken c.loop-count.writer) c.loop-count.receiver c.loop-count.left c.loop-count.invariant.going
    Memory (given c.read.new.self) (taken c.write_out-in-loop-piece.new.writer) piece _ (failed c.loop-count.writer) (failed c.write_out-in-loop-piece.new.writer) bytes
    (answering_whole c.loop-count.receiver piece (taken c.loop-count.writer) (taken c.loop-piece.writer) c.loop-piece.receiver c.loop-piece.piece.now c.loop-piece.invariant.going
    (taken c.write_out-in-loop-piece.new.writer) c.as_slice-in-loop-piece.result.now whole.0 (failed c.loop-count.writer) (failed c.write_out-in-loop-piece.new.writer)
    (c.as_slice-in-loop-piece.ensures.value ∙ text) c.in_ok-write_out.ensures.0 (c.in_ok-write_out.ensures.1 ∙ c.loop-piece.invariant.writes)))

pub loop-piece-preserved : goal.loop-piece-preserved
loop-piece-preserved g c =
    let taken = g.W.Sink.taken in
    let left = c.loop-piece.piece.now in
    let count = c.in_ok-taken.taken in
    let size = length-drop count left in
    let rest : take (length left - count) (drop count left) ≡ drop count left = take_all _ (drop count left) (omega (arith, size)) in
    let text = said_alone _ _ _ c.loop-piece.invariant.none c.in_ok-taken.ensures.text in
    rw rest record {
      going = answering_on c.loop-count.receiver (take c.min.result c.read.new.buffer) (taken c.loop-count.writer) (taken c.loop-piece.writer) c.loop-piece.receiver left c.loop-piece.invariant.going
          (taken c.write_out-in-loop-piece.new.writer) c.as_slice-in-loop-piece.result.now c.receive-received.new.self count (c.as_slice-in-loop-piece.ensures.value ∙ text) c.in_ok-taken.ensures.after c.in_ok-write_out.ensures.0;
      none = c.clear.ensures.items;
      writes = c.in_ok-write_out.ensures.1 ∙ c.loop-piece.invariant.writes;
    }

pub loop-piece-smaller : goal.loop-piece-smaller
loop-piece-smaller g c =
    let left = c.loop-piece.piece.now in
    let count = c.in_ok-taken.taken in
    let there : 0 < length left = grind arith in
    let is : count ≡ taken_at_once (length c.loop-piece.text.items) c.loop-piece.receiver left = c.in_ok-taken.ensures.taken in
    let some : 0 < count = rw is (taken_some _ _ left there) in
    let size = length-drop count left in
    let rest : take (length left - count) (drop count left) ≡ drop count left = take_all _ (drop count left) (omega (arith, size)) in
    rw rest (omega (arith, size, some, c.in_ok-taken.ensures.within))

pub returns-then-count-left-clause-text : goal.returns-then-count-left-clause-text
returns-then-count-left-clause-text g c =
    let given = g.R.Source.given in
    let ended = g.R.Source.is_ended in
    let taken = g.W.Sink.taken in
    let piece = take c.min.result c.read.new.buffer in
    let zero : length c.loop-piece.piece.now ≡ 0 = grind arith in
    let none = no-bytes c.loop-piece.piece.now zero in
    let ends = answering_ends c.loop-count.receiver piece (taken c.loop-count.writer) (taken c.loop-piece.writer) c.loop-piece.receiver c.loop-piece.piece.now c.loop-piece.invariant.going none in
    let within : c.min.result ≡ c.loop-count.left = omega (arith, c.min.ensures, c.if-count-left.true) in
    let all : c.in-Ok.count ≤ length c.read.new.buffer = c.in-Ok.ensures.within in
    let split = piece_splits c.min.result c.in-Ok.count c.read.new.buffer (omega (arith, within, c.if-count-left.true)) in
    let bytes = rw split at c.in-Ok.ensures.bytes in
    let front = length-take-le c.min.result c.read.new.buffer (omega (arith, within, all, c.if-count-left.true)) in
    ends_too_long c.args.receiver.now.world (ended c.read.new.self) (given c.args.reader.now) (given c.loop-count.reader) (taken c.args.writer.now) (taken c.loop-count.writer) c.loop-count.receiver c.loop-count.left c.loop-count.invariant.going
    (given c.read.new.self) (taken c.loop-piece.writer) piece (take (c.in-Ok.count - c.min.result) (drop c.min.result c.read.new.buffer)) _ bytes refl ends.0
    (front ∙ within) (behind_some c.min.result c.in-Ok.count c.read.new.buffer (omega (arith, within, c.if-count-left.true)) all)

pub loop-count-preserved : goal.loop-count-preserved
loop-count-preserved g c =
    let given = g.R.Source.given in
    let ended = g.R.Source.is_ended in
    let taken = g.W.Sink.taken in
    let piece = take c.min.result c.read.new.buffer in
    let zero : length c.loop-piece.piece.now ≡ 0 = grind arith in
    let none = no-bytes c.loop-piece.piece.now zero in
    let ends = answering_ends c.loop-count.receiver piece (taken c.loop-count.writer) (taken c.loop-piece.writer) c.loop-piece.receiver c.loop-piece.piece.now c.loop-piece.invariant.going none in
    let within : c.min.result ≡ c.in-Ok.count = omega (arith, c.min.ensures, c.if-count-left.false) in
    let all : c.in-Ok.count ≤ length c.read.new.buffer = c.in-Ok.ensures.within in
    let bytes = rw (← within) at c.in-Ok.ensures.bytes in
    let front = length-take-le c.min.result c.read.new.buffer (omega (arith, within, all)) in
    record {
      going = goes_on c.args.receiver.now.world (ended c.read.new.self) (given c.args.reader.now) (given c.loop-count.reader) (taken c.args.writer.now) (taken c.loop-count.writer) c.loop-count.receiver c.loop-count.left c.loop-count.invariant.going
          (given c.read.new.self) (taken c.loop-piece.writer) piece _ c.loop-piece.receiver (c.loop-count.left - c.in-Ok.count)
          bytes refl ends.1 ends.0 (omega (arith, front, within, c.if-count-left.false));
      none = c.loop-piece.invariant.none;
      reads = c.in-Ok.ensures.counts ∙ c.loop-count.invariant.reads;
      writes = c.loop-piece.invariant.writes ∙ c.loop-count.invariant.writes;
    }
