use Rattle.std.proofs.Common.{◌≡◌, ◌≤◌, None, Some, length, arith, rules}
use Rattle.tq_host.{specs.Told.{entered, bad, full}, proofs.ServeLaws.{told-bad, told-full}}
use Rattle.tq_host.proofs.batch.Batch.answer.Goals as goal

pub returns-in_default-read-clause-told : goal.returns-in_default-read-clause-told
returns-in_default-read-clause-told g c =
    let none : g.P.Wire.reads_ask c.args.line.now None = search rules in
    (bad, none, told-bad g.P.Answers.after g.P.Wire.entry_line g.P.Wire.told_line c.args.self.now c.tell-in_default-read.new.self c.in_ok-tell-2.ensures.ok)

pub returns-then-is_full-clause-told : goal.returns-then-is_full-clause-told
returns-then-is_full-clause-told g c =
    let same : length c.args.self.now.standing.journal ≡ c.args.self.now.standing.limit = search rules in
    let many : c.args.self.now.standing.limit ≤ length c.args.self.now.standing.journal = omega (arith, same) in
    (full, many, told-full g.P.Answers.after g.P.Wire.entry_line g.P.Wire.told_line c.args.self.now c.tell-then-is_full.new.self c.in_ok-tell-3.ensures.ok)

pub returns-in-Ok-enter-clause-told : goal.returns-in-Ok-enter-clause-told
returns-in-Ok-enter-clause-told g c =
    let asked : g.P.Wire.reads_ask c.args.line.now (Some c.in-Some.ask) = search rules in
    let made = c.in-Ok-enter.ensures.ok c.args.line.now asked in
    (entered made.0, made.1, made.2)
