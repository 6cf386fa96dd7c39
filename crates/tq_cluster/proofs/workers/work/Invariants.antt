use Rattle.std.proofs.Common.{◌≡◌, false}
use Rattle.crossbeam_channel.specs.{Claims.view, Ends.receives_on}
use Rattle.tq_cluster.specs.Clients.{JobsBegin, JobsMake, jobs_in}
use Rattle.tq_cluster.proofs.workers.work.Given as goal

-- the caller was told what the jobs so far ask, or the first of it where memory ran out
abbrev pub invariant-loop : goal.invariant-loop
invariant-loop g l = record {
  told : l.memory ≡ false → JobsMake l.fn.cluster.levels (jobs_in (view l.taker.pass).taken) l.asking.told;
  began : JobsBegin l.fn.cluster.levels (jobs_in (view l.taker.pass).taken) l.asking.told;
  tree : l.asking.levels ≡ l.fn.cluster.levels;
  channel : receives_on l.taker.receiver ≡ receives_on l.fn.taker.receiver;
}
