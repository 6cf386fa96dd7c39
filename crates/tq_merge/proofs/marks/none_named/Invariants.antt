use Rattle.std.{proofs.Common.{◌≡◌, take}, specs.Prelude.{false, map, replicate}}
use Rattle.tq_merge.proofs.marks.none_named.Given as goal

abbrev pub invariant-loop-count : goal.invariant-loop-count
invariant-loop-count l = l.marks.items ≡ map (λ count. replicate count false) (take l.count-index l.counts)
