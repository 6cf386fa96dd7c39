use Rattle.std.proofs.Common.{◌≡◌, map}
use Rattle.tq_cluster.proofs.close.told_to_all.Given as goal

abbrev pub invariant-loop-caller : goal.invariant-loop-caller
invariant-loop-caller l = l.told.items ≡ map (λ caller. caller.told) l.yielded
