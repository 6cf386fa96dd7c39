use Rattle.std.proofs.Common.{◌≡◌, ◌∷◌, take, map, length}
use Rattle.tq_merge.proofs.lengths.counts.Given as goal

abbrev pub invariant-loop-entries : goal.invariant-loop-entries
invariant-loop-entries l = l.counts.items ≡ length l.journals.desk ∷ length l.journals.view ∷ 0 ∷ map (λ entries. length entries.items) (take l.entries-index l.servers)
