use Rattle.std.proofs.Common.{sym, ◌∙◌}
use Rattle.tq_evidence.specs.{Evidence.writes_file, declared.op.Op.Op}
use Rattle.tq_txn_states.proofs.Puts.{set-changed, found-placed}
use Rattle.tq_txn_states.proofs.open.rewrite_in.Goals as goal

pub unreachable-requires : goal.unreachable-requires
unreachable-requires c =
    let placed = rw c.as_slice.ensures.value at c.write_place.ensures.value in
    found-placed (writes_file c.args.file.now) (λ (op : Op). op) c.args.ops.now.items c.requires (sym placed ∙ c.in-None.is)

pub returns : goal.returns
returns c =
    let placed = rw c.as_slice.ensures.value at c.write_place.ensures.value in
    rw c.index_mut-op.ensures.value (set-changed (writes_file c.args.file.now) (λ (op : Op). record op { content = c.args.content }) c.args.ops.now.items c.in-Some.place _ (sym placed ∙ c.in-Some.is))
