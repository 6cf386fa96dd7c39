use Rattle.std.proofs.Common.{◌≡◌}
use Rattle.tq_shape.specs.ServerSet.{have_same_numbers}
use Rattle.tq_shape.proofs.server_set.have_same_numbers.Given as goal

-- what is left of the one is what is left of the other exactly where they are the same
abbrev pub invariant-loop-server : goal.invariant-loop-server
invariant-loop-server l = have_same_numbers l.server-iterator l.left ≡ have_same_numbers l.fn.one l.fn.other
