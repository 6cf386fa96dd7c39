use Rattle.std.proofs.Common.{ap, ◌∙◌}
use Rattle.std.specs.FinMap as fin
use Rattle.tq_evidence.proofs.HeldTable.{get_at}
use Rattle.tq_evidence.proofs.evidence.held.HeldSince.get.Goals as goal

pub returns : goal.returns
returns c = c.get.ensures.value ∙ get_at c.self.inside.least c.args.file ∙ ap (λ m. fin.get m c.args.file) c.self.view_is
