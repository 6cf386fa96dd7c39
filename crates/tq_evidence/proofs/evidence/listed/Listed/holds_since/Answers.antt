use Rattle.std.proofs.Common.{◌∙◌, ap}
use Rattle.std.specs.FinMap as fin
use Rattle.tq_evidence.{specs.Evidence.{holds_since, is_since}, proofs.HeldTable.is_since-least_since}
use Rattle.tq_evidence.proofs.evidence.listed.Listed.holds_since.Goals as goal

pub returns-in-Some : goal.returns-in-Some
returns-in-Some c =
    let file = c.args.file in
    let number = c.args.number in
    let held = c.self.inside.vote.now.held in
    c.holds.ensures
    ∙ ap (λ table. is_since (fin.get table file) number) (rw c.in-Some.is at c.self.invariant)
    ∙ is_since-least_since held file number
    ∙ ap (λ vote. holds_since vote file number) c.self.view_is
