use Rattle.std.proofs.Common.{◌∙◌, ap, map, List, Bor}
use Rattle.tq_evidence.{specs.{declared.op.Op.Op, Evidence.are_in_order}, proofs.HeldTable.in_order-writes}
use Rattle.tq_evidence.proofs.evidence.writes.have_writes.Goals as goal

pub are_voted-requires : goal.are_voted-requires
are_voted-requires c =
    ap (λ (list : List (Bor Op)). are_in_order (map (λ op. op.now) list)) c.as_slice.ensures.value
    ∙ ap are_in_order c.in_ok-writes.ensures
    ∙ in_order-writes c.args.ops.now c.requires
