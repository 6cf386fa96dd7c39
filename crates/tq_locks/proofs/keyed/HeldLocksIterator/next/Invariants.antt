use Rattle.std.proofs.Common.{◌≡◌, ◌-◌, drop, length}
use Rattle.tq_locks.specs.Keys.{entries_of}
use Rattle.tq_locks.proofs.keyed.HeldLocksIterator.next.Given as goal

-- the keys that were passed have no entry
abbrev pub invariant-loop-self : goal.invariant-loop-self
invariant-loop-self l = entries_of l.self-inside.entries.now (drop l.self-inside.at l.self-inside.keys) ≡ l.fn.self

abbrev pub decreases-loop-self : goal.decreases-loop-self
decreases-loop-self l = length l.self-inside.keys - l.self-inside.at
