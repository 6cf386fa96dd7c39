use Rattle.std.proofs.Common.{rules}
use Rattle.tq_node.proofs.node.plan_with.Goals as goal

pub returns-clause-reply : goal.returns-clause-reply
returns-clause-reply c = search rules

pub returns-clause-change : goal.returns-clause-change
returns-clause-change c = search rules
