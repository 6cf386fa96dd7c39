use Rattle.std.proofs.Common.{◌∙◌, sym, rules}
use Rattle.tq_evidence.specs.Evidence.{are_writes_at}
use Rattle.tq_txn_states.{specs.Voting.writes_in, proofs.GoodEvidence.writes_at-are}
use Rattle.tq_txn_states.proofs.votes.is_ask_at.Goals as goal

pub returns : goal.returns
returns c is =
    let writes = writes_at-are c.args.server c.in-Prepare.writes c.args.ops.now
    ((λ i. are_writes_at c.args.server (sym c.as_slice.ensures i) (writes_in c.args.ops.now)) ∙ sym c.are_writes_at.ensures ∙ is) in
    search (rules, writes)
