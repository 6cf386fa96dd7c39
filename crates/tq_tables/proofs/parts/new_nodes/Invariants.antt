use Rattle.std.proofs.Common.{◌≡◌, [], replicate}
use Rattle.tq_tables.specs.Parts.{nodes_at}
use Rattle.tq_tables.proofs.parts.new_nodes.Given as goal

abbrev pub invariant-loop-below : goal.invariant-loop-below
invariant-loop-below l = l.nodes.items ≡ nodes_at l.levels 1 (replicate l.below [])
