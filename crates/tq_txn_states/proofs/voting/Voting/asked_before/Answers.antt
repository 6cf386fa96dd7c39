use Rattle.std.proofs.Common.{◌≡◌, ◌∙◌, true, List, map, sym, ap, subst, rules}
use Rattle.tq_asks.specs.declared.ask.{NodeAsk.TheVariants.Work, WorkAsk.TheVariants.Prepare}
use Rattle.tq_store.specs.declared.write.Write.{Write}
use Rattle.tq_evidence.specs.declared.op.Op.{Op}
use Rattle.tq_txn_states.{specs.Voting.{HasWhole, writes_all_at, write_in, writes_in}, proofs.GoodEvidence.writes_all}
use Rattle.tq_txn_states.proofs.voting.Voting.asked_before.Goals as goal

pub returns : goal.returns
returns c =
    let f = c.self.inside in
    let whole : c.in-Some.ask ≡ Work (Prepare f.txn.txn (map write_in (writes_in f.txn.ops))) = subst (HasWhole f.txn) c.in-Some.is c.self.invariant.1 in
    let all : writes_all_at f.txn.ops c.args.server ≡ true = ap (λ (ops : List Op). writes_all_at ops c.args.server) (sym c.ops.ensures.value) ∙ sym c.writes_all_at.ensures ∙ c.if-not-writes_all_at.false in
    let kept : c.in_ok-clone.field-0 ≡ c.in-Some.ask = search rules in
    let writes = writes_all f.txn.ops c.args.server all in
    rw (← c.self.view_is) (kept ∙ whole ∙ ap (λ (ws : List Write). Work (Prepare f.txn.txn ws)) (sym writes))
