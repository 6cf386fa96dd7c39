use Rattle.tq_node.proofs.node.Node.foresee.Goals as goal

pub returns : goal.returns
returns c = c.in_ok-plan.ensures.reply
