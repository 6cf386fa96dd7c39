use Rattle.std.proofs.Common.{◌≡◌, nat_eq, [], length}
use Rattle.tq_locks.specs.{Keys.keys_under, Locks.locks_after_release, Kept.{locks_in, Agrees}}
use Rattle.tq_locks.proofs.Partition.{with_list}
use Rattle.tq_locks.proofs.keyed.KeyedLocks.release.Given as goal

-- what is left to release comes to the same
abbrev pub invariant-loop-key : goal.invariant-loop-key
invariant-loop-key l = Agrees (with_list l.self l.fn.txn l.keys.items) (locks_in l.self) × (locks_after_release (locks_in l.self) l.fn.txn ≡ locks_after_release (locks_in l.fn.self) l.fn.txn) × (keys_under nat_eq l.self.by_txn l.fn.txn ≡ [])

abbrev pub decreases-loop-key : goal.decreases-loop-key
decreases-loop-key l = length l.keys.items
