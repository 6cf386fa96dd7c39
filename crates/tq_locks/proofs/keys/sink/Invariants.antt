use Rattle.std.{proofs.Common.{◌≡◌, ◌<◌, ◌≤◌, ◌++◌, ℕ, List, [], ◌∷◌, length}, specs.List.insert}
use Rattle.tq_locks.proofs.keys.sink.Given as goal

-- the key is at a place that is not below its own
abbrev pub invariant-loop-at : goal.invariant-loop-at
invariant-loop-at l = ((front : List ℕ) (key : ℕ) → l.fn.keys ≡ front ++ key ∷ [] → l.keys ≡ insert front l.at key) × (l.fn.place ≤ l.at) × (l.at < length l.keys) × (length l.keys ≡ length l.fn.keys)

abbrev pub decreases-loop-at : goal.decreases-loop-at
decreases-loop-at l = l.at
