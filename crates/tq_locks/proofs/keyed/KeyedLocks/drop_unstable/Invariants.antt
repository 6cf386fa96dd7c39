use Rattle.std.proofs.Common.{◌≡◌}
use Rattle.slab.specs.Slab.{slab_len}
use Rattle.tq_locks.specs.{Locks.only_stable, Kept.{locks_in, Agrees}}
use Rattle.tq_locks.proofs.keyed.KeyedLocks.drop_unstable.Given as goal

-- the stable ones stay
abbrev pub invariant-loop-key : goal.invariant-loop-key
invariant-loop-key l = Agrees l.self (locks_in l.self) × (only_stable (locks_in l.self) ≡ only_stable (locks_in l.fn.self))

abbrev pub decreases-loop-key : goal.decreases-loop-key
decreases-loop-key l = slab_len l.self.entries
