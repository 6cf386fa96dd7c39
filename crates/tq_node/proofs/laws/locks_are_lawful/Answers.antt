use Rattle.tq_node.proofs.Lawful.{lock_laws}
use Rattle.tq_node.proofs.laws.locks_are_lawful.Goals as goal

pub returns : goal.returns
returns c = lock_laws
