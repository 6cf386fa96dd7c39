use Rattle.std.{proofs.Common.{◌≡◌, ◌+◌, ◌++◌, length}, specs.{List.IsDistinct, Map.keys_of}}
use Rattle.indexmap.specs.IndexMap.{spare}
use Rattle.tq_store.proofs.bounded.move_all.Given as goal

abbrev pub invariant-loop-key : goal.invariant-loop-key
invariant-loop-key g l =
    (goal.iterator-loop-key g).can_next l.key-iterator × (goal.iterator-loop-key g).is_finite l.key-iterator
    × (l.many.entries ++ l.key-iterator ≡ l.fn.few.entries) × (spare l.many + length l.many.entries ≡ spare l.fn.many)
    × IsDistinct g.K.PartialEq.eq (keys_of l.fn.few.entries)
