use Rattle.std.{proofs.Common.{◌≡◌, ◌++◌, map}, specs.Vec.Iter.into_iter_items}
use Rattle.tq_json_read.proofs.file.vecs_of.Given as goal

-- the lists that were made, before those that are left, are the lists that were given
abbrev pub invariant-loop-list : goal.invariant-loop-list
invariant-loop-list g l = map (λ vec. vec.items) l.vecs.items ++ into_iter_items l.list-iterator ≡ into_iter_items l.initial.list-iterator
