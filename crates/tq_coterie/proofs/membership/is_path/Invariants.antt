use Rattle.std.{proofs.Common.{◌∷◌, drop, length}, specs.List.Contains}
use Rattle.tq_coterie.specs.Coterie.{members}
use Rattle.tq_coterie.proofs.membership.is_path.Given as goal

-- what is left behind the top goes down from there, and if it is a member of the subtree there, all are one of the tree
abbrev pub invariant-loop-number : goal.invariant-loop-number
invariant-loop-number l =
    Contains (members (length (drop l.number-index l.below)) l.top) (l.top ∷ drop l.number-index l.below)
    → Contains (members (length l.below) 1) (1 ∷ l.below)
