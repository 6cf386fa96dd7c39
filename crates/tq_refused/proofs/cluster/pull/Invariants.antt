use Rattle.std.proofs.Common.{◌≡◌}
use Rattle.tq_refused.proofs.cluster.pull.Given as goal

abbrev pub invariant-loop-server : goal.invariant-loop-server
invariant-loop-server g l = record {
  tree : l.caller.levels ≡ l.cluster.levels;
  levels : l.board.levels ≡ l.cluster.levels;
  limits : l.board.limits ≡ l.cluster.limits;
}
