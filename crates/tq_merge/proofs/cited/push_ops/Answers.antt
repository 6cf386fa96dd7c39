use Rattle.std.proofs.Common.{List, ap, ◌++◌, map, ◌∙◌}
use Rattle.tq_core.specs.Founded.{cited_grant}
use Rattle.tq_evidence.specs.declared.grant.Grant.{Grant}
use Rattle.tq_merge.specs.Placing as spec
use Rattle.tq_merge.proofs.Founding.{ops_next}
use Rattle.tq_merge.proofs.cited.push_ops.Goals as goal

pub loop-op-preserved : goal.loop-op-preserved
loop-op-preserved c =
    ops_next _ _ _ c.args.ops.now c.loop-op.op-index c.op-item.result c.loop-op-test.true c.op-item.is c.loop-op.invariant
    (c.in_ok-push_grants.ensures ∙ ap (λ (grants : List Grant). map spec.entry_cited c.loop-op.wanted.items ++ map cited_grant grants) c.as_slice.ensures)
