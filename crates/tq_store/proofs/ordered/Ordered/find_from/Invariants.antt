use Rattle.std.proofs.Common.{◌≡◌, ◌-◌, ◌<◌, ◌≤◌, ℕ, false, length, get_or}
use Rattle.tq_store.proofs.ordered.Ordered.find_from.Given as goal

abbrev pub invariant-loop-place : goal.invariant-loop-place
invariant-loop-place g l = (l.place ≤ length l.self-inside.keys.items) × ((j : ℕ) (d : g.row.K.Denot) → j < l.place → g.K.PartialEq.eq l.key (get_or l.self-inside.keys.items j d) ≡ false)

abbrev pub decreases-loop-place : goal.decreases-loop-place
decreases-loop-place g l = length l.self-inside.keys.items - l.place
