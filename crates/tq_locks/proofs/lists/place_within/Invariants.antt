use Rattle.std.proofs.Common.{◌-◌, ◌≤◌, ◌<◌, length, List}
use lib.Dec.{T}
use Rattle.std.specs.FinMap as fin
use Rattle.tq_locks.specs.{declared.mode.Lock.Lock, Keys.place, Kept.AreKeysOf, Locks.{LockKey, lock_cmp}}
use Rattle.tq_locks.proofs.lists.place_within.Given as goal

-- the place is between, and so is where it's looked next
abbrev pub invariant-loop-low : goal.invariant-loop-low
invariant-loop-low l = record {
  ends : (l.low ≤ l.high) × (l.high ≤ length l.keys.items);
  next : l.low < l.high → (l.low ≤ l.at) × (l.at < l.high);
  between : (entries : List (LockKey × Lock)) → AreKeysOf l.entries l.keys.items entries → T (fin.is_sorted lock_cmp entries) → (l.low ≤ place lock_cmp (l.file, l.txn) entries) × (place lock_cmp (l.file, l.txn) entries ≤ l.high);
}

abbrev pub decreases-loop-low : goal.decreases-loop-low
decreases-loop-low l = l.high - l.low
