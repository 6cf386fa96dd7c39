use Rattle.std.proofs.Common.{◌≡◌}
use Rattle.tq_refresh.proofs.Marked.{up_among}
use Rattle.tq_refresh.proofs.planning.servers_up.Given as goal

abbrev pub invariant-loop-below : goal.invariant-loop-below
invariant-loop-below l = l.up ≡ up_among l.tree l.below
