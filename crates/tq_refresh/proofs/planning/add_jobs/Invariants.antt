use Rattle.std.{proofs.Common.{◌≡◌, ◌++◌, filter, Some}, specs.List.All}
use Rattle.tq_shape.specs.ServerSet.{has_number}
use Rattle.tq_refresh.specs.Plan.{servers_in, jobs_from}
use Rattle.tq_refresh.proofs.planning.add_jobs.Given as goal

abbrev pub invariant-loop-stale : goal.invariant-loop-stale
invariant-loop-stale l = record {
  of_tree : All (λ server. server.levels ≡ l.up.levels) l.stale-iterator;
  left : l.jobs.items ++ jobs_from l.of_file.file (filter (λ server. has_number l.up.numbers server.number) l.stale-iterator) (Some l.of_file.source)
      ≡ l.fn.jobs.items ++ jobs_from l.of_file.file (filter (λ server. has_number l.up.numbers server.number) (servers_in l.fn.of_file.stale)) (Some l.of_file.source);
}
