use Rattle.std.proofs.Common.{ap, ◌∙◌}
use Rattle.tq_desk.proofs.DecisionLog.{desk_keeps}
use Rattle.tq_desk.proofs.desk.Desk.begun.Goals as goal

pub returns-clause-journal : goal.returns-clause-journal
returns-clause-journal c bounds journal legal stands =
    ap (λ d. d.begun) (c.self.view_is ∙ stands) ∙ (desk_keeps bounds journal legal).begun
