use Rattle.std.proofs.Common.{◌≡◌, ◌++◌, map, filter, drop}
use Rattle.tq_evidence.specs.Evidence.{is_write}
use Rattle.tq_evidence.proofs.evidence.writes.write_ops.Given as goal

abbrev pub invariant-loop-op : goal.invariant-loop-op
invariant-loop-op l = map (λ op. op.now) l.writes.items ++ filter is_write (drop l.op-index l.ops) ≡ filter is_write l.ops
