use Rattle.std.proofs.Common.{◌≡◌, ◌++◌, ℕ, map}
use Rattle.slab.specs.Slab.{values}
use Rattle.tq_locks.specs.{declared.mode.Lock.Lock, Locks.LockKey}
use Rattle.tq_locks.proofs.keyed.KeyedLocks.entries_by_key.Given as goal

abbrev pub invariant-loop-key : goal.invariant-loop-key
invariant-loop-key l = l.all.items ++ map (λ (e : ℕ × (LockKey × Lock)). e.1) l._key-iterator ≡ values l.self.entries
