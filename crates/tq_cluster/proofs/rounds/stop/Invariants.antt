use Rattle.std.proofs.Common.{◌≡◌}
use Rattle.crossbeam_channel.specs.{Claims.view, Ends.sends_on}
use Rattle.tq_cluster.proofs.rounds.stop.Given as goal

abbrev pub invariant-loop : goal.invariant-loop
invariant-loop g l = record {
  channel : sends_on l.putter.sender ≡ sends_on l.fn.putter.sender;
  parts : (view l.putter.pass).parts ≡ (view l.fn.putter.pass).parts;
  taken : (view l.putter.pass).taken ≡ (view l.fn.putter.pass).taken;
}
