use Rattle.tq_node.proofs.Sound.{sound-as, sound-opening}
use Rattle.tq_node.proofs.node.Node.new.Goals as goal

pub invariant_of-result : goal.invariant_of-result
invariant_of-result c = sound-as sound-opening c.new-3.ensures c.new.ensures c.new-2.ensures
