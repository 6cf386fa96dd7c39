use Rattle.tq_live.proofs.view.View.foresee.Goals as goal

pub returns : goal.returns
returns c = c.in_ok-plan.ensures.reply
