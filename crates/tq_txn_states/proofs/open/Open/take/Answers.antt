use Rattle.std.proofs.Common.{◌≡◌, ◌∙◌, sym, ap}
use Rattle.tq_evidence.specs.Evidence.{granters}
use Rattle.tq_txn_states.specs.Open.{OpenView, with_op, with_numbers}
use Rattle.tq_txn_states.proofs.{GoodOps.IsOpen-with, GoodGrants.quorum_found}
use Rattle.tq_txn_states.proofs.open.Open.take.Goals as goal

pub grow-requires-clause-quorum : goal.grow-requires-clause-quorum
grow-requires-clause-quorum c =
    let levels : c.args.self.now.levels ≡ c.make_room.new.self.levels = ap (λ (v : OpenView). v.levels) (sym c.self.view_is) ∙ sym c.self.invariant.1.0 ∙ sym c.make_room.ensures.levels in
    quorum_found c.args.self.now.levels c.make_room.new.self.levels c.args.op.grants c.as_slice-3.result.now c.requires.quorum c.as_slice-3.ensures levels

pub grow-requires-2-clause-quorum : goal.grow-requires-2-clause-quorum
grow-requires-2-clause-quorum c =
    let levels : c.args.self.now.levels ≡ c.make_room-2.new.self.levels = ap (λ (v : OpenView). v.levels) (sym c.self.view_is) ∙ sym c.self.invariant.1.1 ∙ sym c.make_room-2.ensures.levels in
    quorum_found c.args.self.now.levels c.make_room-2.new.self.levels c.args.op.grants c.as_slice-4.result.now c.requires.quorum c.as_slice-4.ensures levels

pub invariant_of-self-2 : goal.invariant_of-self-2
invariant_of-self-2 c =
    let f = c.self.inside in
    let good = rw (← c.self.view_is) at c.requires in
    let ops = c.put_in_order.ensures ∙ ap (λ ops. with_op ops c.args.op) c.reserve.ensures.items in
    let voters : c.grow.new.self.servers ≡ with_numbers f.voters.servers (granters c.args.op.grants) = c.grow.ensures.servers ∙ λ i. with_numbers (c.make_room.ensures.servers i) (granters (c.as_slice-3.ensures i)) in (
      IsOpen-with record { levels = f.levels; limits = f.limits; txn = f.txn; ops = f.ops.items; voters = f.voters.servers; touched = f.touched.servers } c.args.op _ _ _ ops voters good c.self.invariant.0,
      (c.grow.ensures.levels ∙ c.make_room.ensures.levels ∙ c.self.invariant.1.0, c.grow-2.ensures.levels ∙ c.make_room-2.ensures.levels ∙ c.self.invariant.1.1),
    )
