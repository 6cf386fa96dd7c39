use Rattle.std.proofs.Common.{◌≡◌, ◌≤◌, false, []}
use Rattle.crossbeam_channel.specs.{Claims.view, Ends.sends_on}
use Rattle.tq_cluster.specs.Rounds.{AreRounds}
use Rattle.tq_cluster.proofs.rounds.run_rounds.Given as goal

-- the rounds so far were made; caller and board stay those of this cluster, and the caller asked nothing
abbrev pub invariant-loop-made : goal.invariant-loop-made
invariant-loop-made g l = record {
  rounds : l.memory ≡ false → AreRounds l.fn.cluster.levels l.fn.cluster.limits l.team.workers l.made l.board l.caller (view l.fn.putter.pass).put (view l.putter.pass).put;
  within : l.made ≤ l.team.rounds;
  told : l.caller.told ≡ [];
  tree : l.caller.levels ≡ l.fn.cluster.levels;
  levels : l.board.levels ≡ l.fn.cluster.levels;
  limits : l.board.limits ≡ l.fn.cluster.limits;
  channel : sends_on l.putter.sender ≡ sends_on l.fn.putter.sender;
  parts : (view l.putter.pass).parts ≡ (view l.fn.putter.pass).parts;
  taken : (view l.putter.pass).taken ≡ (view l.fn.putter.pass).taken;
}
