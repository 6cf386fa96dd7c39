use Rattle.std.{proofs.Common.{◌≡◌, map, replicate}, specs.Prelude.vec_len}
use Rattle.tq_cluster.proofs.cluster.passes.Given as goal

-- a pass for each cell so far, with nothing seen
abbrev pub invariant-loop-cell : goal.invariant-loop-cell
invariant-loop-cell l = record {
  one_each : vec_len l.passes ≡ l.cell-index;
  unseen : map (λ pass. pass.seen) l.passes.items ≡ replicate l.cell-index 0;
}
