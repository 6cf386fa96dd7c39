use Rattle.std.{proofs.Common.{◌≡◌, ◌++◌, drop}, specs.List.flat_map}
use Rattle.tq_refresh.specs.Plan.{jobs_in}
use Rattle.tq_refresh.proofs.planning.plan.Given as goal

abbrev pub invariant-loop-of_file : goal.invariant-loop-of_file
invariant-loop-of_file l = l.jobs.items ++ flat_map (jobs_in l.up) (drop l.of_file-index l.of_file-items) ≡ flat_map (jobs_in l.up) l.of_file-items
