use Rattle.std.{proofs.Common.{◌≡◌, ◌++◌, drop}, specs.List.{All, flat_map}}
use Rattle.tq_refresh.specs.Plan.{IsPlanned, jobs_in, jobs_of}
use Rattle.tq_refresh.proofs.planning.plan_rows.Given as goal

abbrev pub invariant-loop-row : goal.invariant-loop-row
invariant-loop-row l = record {
  left : flat_map (jobs_in l.up) l.files.items ++ flat_map (jobs_of l.tree) (drop l.row-index l.rows) ≡ flat_map (jobs_of l.tree) l.rows;
  of_tree : All (IsPlanned l.tree.levels) l.files.items;
}
