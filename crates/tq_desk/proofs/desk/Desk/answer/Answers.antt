use Rattle.std.proofs.Common.{◌∙◌, ap}
use Rattle.tq_desk.{specs.DeskPlans.{desk_changed, change_leads}, proofs.DecisionLog.answers}
use Rattle.tq_desk.proofs.desk.Desk.answer.Goals as goal

pub returns-clause-after : goal.returns-clause-after
returns-clause-after c =
    let old = c.args.self.now in
    c.in_ok-apply.ensures.ok ∙ ap (desk_changed old) c.in_ok-plan.ensures.change ∙ change_leads old c.args.ask.now

pub returns-clause-journal : goal.returns-clause-journal
returns-clause-journal c bounds journal legal stands =
    answers _ _ _ _ c.in_ok-plan.ensures.reply (returns-clause-after c) bounds journal legal stands
