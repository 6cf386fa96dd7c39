use Rattle.std.{proofs.Common.{◌∙◌, ap}, specs.{List.insert, Ordering.is_lt}}
use Rattle.tq_store.specs.Copies.{name_cmp}
use Rattle.tq_evidence.specs.declared.op.Op.{Op}
use Rattle.tq_txn_states.{specs.Open.place_before, proofs.Puts.insert_before}
use Rattle.tq_txn_states.proofs.open.put_in_order.Goals as goal

pub returns : goal.returns
returns c =
    let later = λ (other : Op). is_lt (name_cmp c.args.op.file other.file) in
    c.put_at.ensures.items
    ∙ ap (λ place. insert c.args.ops.now.items place c.args.op) (c.place_of-place.ensures.value ∙ ap (place_before later) c.as_slice.ensures.value)
    ∙ insert_before later c.args.op c.args.ops.now.items
