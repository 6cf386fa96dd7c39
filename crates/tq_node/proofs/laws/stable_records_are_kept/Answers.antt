use Rattle.tq_node.proofs.Lawful.{stable_law}
use Rattle.tq_node.proofs.laws.stable_records_are_kept.Goals as goal

pub returns : goal.returns
returns c = stable_law
