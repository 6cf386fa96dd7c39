use Rattle.tq_node.proofs.Lawful.{vote_laws}
use Rattle.tq_node.proofs.laws.votes_are_lawful.Goals as goal

pub returns : goal.returns
returns c = vote_laws
