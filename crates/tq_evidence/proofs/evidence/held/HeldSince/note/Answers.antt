use Rattle.std.proofs.Common.{ap, ◌∙◌}
use Rattle.std.specs.FinMap as fin
use Rattle.tq_evidence.proofs.HeldTable.{put_at}
use Rattle.tq_evidence.proofs.evidence.held.HeldSince.note.Goals as goal

pub returns : goal.returns
returns c =
    put_at c.self.inside.least c.insert.new.self c.args.file c.least_with-least.result c.in_ok-_replaced.ensures.updates
    ∙ ap (λ m. fin.insert m c.args.file c.least_with-least.result) c.self.view_is
    ∙ ap (fin.insert c.args.self.now c.args.file) c.least_with-least.ensures
