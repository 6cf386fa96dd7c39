use Rattle.std.proofs.Common.{length}
use Rattle.tq_locks.specs.Locks.{ListsLoose}
use Rattle.tq_locks.proofs.lock_slab.last_loose.Given as goal

abbrev pub invariant-loop-key : goal.invariant-loop-key
invariant-loop-key l = ListsLoose l.slab l.loose.items

abbrev pub decreases-loop-key : goal.decreases-loop-key
decreases-loop-key l = length l.loose.items
