use Rattle.std.proofs.Common.{subst, ◌∙◌, ap, rules}
use Rattle.tq_txn_states.{specs.Open.{OpenView, IsOpen}, proofs.{CitedLaws.evidence_cited, GoodEvidence.good_evidence}}
use Rattle.tq_txn_states.proofs.ready.Ready.evidence.Goals as goal

pub returns-in_err-ops-clause-good : goal.returns-in_err-ops-clause-good
returns-in_err-ops-clause-good c =
    rw (← c.self.view_is) (good_evidence c.self.inside.voting (subst IsOpen c.txn-txn.ensures c.shared_ops.ensures.good) c.votes-all_votes.ensures.good c.self.invariant)

pub returns-in_err-votes-clause-good : goal.returns-in_err-votes-clause-good
returns-in_err-votes-clause-good c =
    rw (← c.self.view_is) (good_evidence c.self.inside.voting (subst IsOpen c.txn-txn.ensures c.shared_ops.ensures.good) c.votes-all_votes.ensures.good c.self.invariant)

pub returns-clause-good : goal.returns-clause-good
returns-clause-good c =
    rw (← c.self.view_is) (good_evidence c.self.inside.voting (subst IsOpen c.txn-txn.ensures c.shared_ops.ensures.good) c.votes-all_votes.ensures.good c.self.invariant)

pub returns-clause-cited : goal.returns-clause-cited
returns-clause-cited c =
    rw (← c.self.view_is)
    (evidence_cited c.self.inside.voting c.txn.result c.in_ok-ops.ops c.in_ok-votes.votes (c.txn.ensures ∙ ap (λ (v : OpenView). v.txn) c.txn-txn.ensures) (c.in_ok-ops.ensures.value ∙ ap (λ (v : OpenView). v.ops) c.txn-txn.ensures) (c.in_ok-votes.ensures ∙ c.votes-all_votes.ensures.value))

pub returns-clause-value : goal.returns-clause-value
returns-clause-value c = search rules
