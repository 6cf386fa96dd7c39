use Rattle.std.proofs.Common.{◌≡◌, ℕ, drop}
use Rattle.tq_locks.specs.Locks.{entry_after_steady}
use Rattle.tq_locks.proofs.keyed.stabilise_each.Given as goal

-- what is left to do comes to the same
abbrev pub invariant-loop-key : goal.invariant-loop-key
invariant-loop-key l = (key : ℕ) → entry_after_steady l.entries (drop l.key-index l.keys) key ≡ entry_after_steady l.fn.entries l.keys key
