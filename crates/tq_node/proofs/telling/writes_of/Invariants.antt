use Rattle.std.proofs.Common.{◌≡◌, take}
use Rattle.tq_node.proofs.telling.writes_of.Given as goal

abbrev pub invariant-loop-write : goal.invariant-loop-write
invariant-loop-write l = l.writes.items ≡ take l.write-index l.newer
