use Rattle.std.proofs.Common.{rules}
use Rattle.tq_node.proofs.node.Node.work_refusal.Goals as goal

pub returns-else-version-get : goal.returns-else-version-get
returns-else-version-get c = search rules
