use Rattle.std.proofs.Common.{ap, ◌∙◌}
use Rattle.std.specs.FinMap as fin
use Rattle.tq_desk.proofs.DecisionLog.{desk_keeps}
use Rattle.tq_desk.proofs.desk.Desk.verdict.Goals as goal

pub returns-clause-journal : goal.returns-clause-journal
returns-clause-journal c bounds journal legal stands =
    c.get.ensures ∙ ap (λ d. fin.get d.finals c.args.txn) (c.self.view_is ∙ stands) ∙ (desk_keeps bounds journal legal).finals c.args.txn
