use Rattle.std.proofs.Common.{◌≡◌}
use Rattle.tq_refused.proofs.cluster.ask_all.Given as goal

abbrev pub invariant-loop-place : goal.invariant-loop-place
invariant-loop-place g l = l.caller.levels ≡ l.fn.caller.levels
