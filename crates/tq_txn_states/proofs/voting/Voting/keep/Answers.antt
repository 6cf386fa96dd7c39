use Rattle.std.proofs.Common.{◌≡◌, ◌∙◌, true, List, sym, ap}
use Rattle.tq_asks.specs.declared.ask.{NodeAsk.TheVariants.Work, WorkAsk.TheVariants.Prepare}
use Rattle.tq_store.specs.declared.write.Write.{Write}
use Rattle.tq_evidence.specs.declared.op.Op.{Op}
use Rattle.tq_txn_states.{specs.Voting.{writes_all_at, writes_at}, proofs.GoodEvidence.writes_all}
use Rattle.tq_txn_states.proofs.voting.Voting.keep.Goals as goal

pub invariant_of-self-then-is_ask_at-4 : goal.invariant_of-self-then-is_ask_at-4
invariant_of-self-then-is_ask_at-4 c =
    let f = c.self.inside in
    let server = c.args.server in
    let all : writes_all_at f.txn.ops server ≡ true = ap (λ (ops : List Op). writes_all_at ops server) (sym c.ops-ops.ensures.value) ∙ sym c.writes_all_at.ensures ∙ c.if-not-writes_all_at.false in
    let asked = c.is_ask_at.ensures c.if-is_ask_at.true in
    let writes = writes_all f.txn.ops server all in (
      c.self.invariant.0,
      asked ∙ (λ i. Work (Prepare (c.txn.ensures i) (writes_at (c.ops-ops.ensures.value i) server))) ∙ ap (λ (ws : List Write). Work (Prepare f.txn.txn ws)) writes,
    )
