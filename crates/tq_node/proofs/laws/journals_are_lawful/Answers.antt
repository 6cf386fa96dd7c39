use Rattle.tq_node.proofs.Lawful.{node_laws}
use Rattle.tq_node.proofs.laws.journals_are_lawful.Goals as goal

pub returns : goal.returns
returns c = node_laws
