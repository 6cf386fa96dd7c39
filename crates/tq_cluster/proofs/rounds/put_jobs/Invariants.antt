use Rattle.std.{proofs.Common.{◌≡◌, drop}, specs.List.flat_map}
use Rattle.crossbeam_channel.specs.{Claims.view, Ends.sends_on}
use Rattle.tq_refresh.specs.Plan.{jobs_in}
use Rattle.tq_cluster.specs.Rounds.{with_jobs}
use Rattle.tq_cluster.proofs.rounds.put_jobs.Given as goal

-- with the jobs of the files that are left there are those of all
abbrev pub invariant-loop-of_file : goal.invariant-loop-of_file
invariant-loop-of_file g l = record {
  left : with_jobs (view l.putter.pass).put (flat_map (jobs_in l.plan.up) (drop l.of_file-index l.of_file-items))
      ≡ with_jobs (view l.fn.putter.pass).put (flat_map (jobs_in l.plan.up) l.of_file-items);
  channel : sends_on l.putter.sender ≡ sends_on l.fn.putter.sender;
  parts : (view l.putter.pass).parts ≡ (view l.fn.putter.pass).parts;
  taken : (view l.putter.pass).taken ≡ (view l.fn.putter.pass).taken;
}
