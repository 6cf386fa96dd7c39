use Rattle.std.{proofs.Common.{◌≡◌, Some, filter}, specs.List.All}
use Rattle.crossbeam_channel.specs.{Claims.view, Ends.sends_on}
use Rattle.tq_shape.specs.ServerSet.{has_number}
use Rattle.tq_refresh.specs.Plan.{jobs_from, jobs_in}
use Rattle.tq_cluster.specs.Rounds.{with_jobs}
use Rattle.tq_cluster.proofs.rounds.put_jobs_of.Given as goal

-- with the jobs of the servers that are left there are those of all
abbrev pub invariant-loop-stale : goal.invariant-loop-stale
invariant-loop-stale g l = record {
  of_tree : All (λ server. server.levels ≡ l.up.levels) l.stale-iterator;
  left : with_jobs (view l.putter.pass).put (jobs_from l.of_file.file (filter (λ server. has_number l.up.numbers server.number) l.stale-iterator) (Some l.of_file.source))
      ≡ with_jobs (view l.fn.putter.pass).put (jobs_in l.up l.of_file);
  channel : sends_on l.putter.sender ≡ sends_on l.fn.putter.sender;
  parts : (view l.putter.pass).parts ≡ (view l.fn.putter.pass).parts;
  taken : (view l.putter.pass).taken ≡ (view l.fn.putter.pass).taken;
}
