use Rattle.std.proofs.Common.{◌≡◌}
use Rattle.tq_node.specs.Telling.{all_held}
use Rattle.tq_node.proofs.votes.all_held.Given as goal

abbrev pub invariant-loop-entry : goal.invariant-loop-entry
invariant-loop-entry l = all_held l.entry-iterator l.left ≡ all_held l.fn.held l.writes
