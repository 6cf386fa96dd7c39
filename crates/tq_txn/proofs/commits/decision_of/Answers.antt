use Rattle.std.proofs.Common.{◌∙◌, List, sym, ap}
use Rattle.tq_asks.specs.declared.ask.CitedVote.{CitedVote}
use Rattle.tq_asks.specs.declared.ask.Verdict.TheVariants as verdicts
use Rattle.tq_txn_states.specs.Ended.{commit_verdict, ended_with}
use Rattle.tq_txn.{specs.Commits.resolved_by, proofs.EndLaws.commit_told}
use Rattle.tq_txn.specs.declared.txn.Txn.TheVariants as states
use Rattle.tq_txn.proofs.commits.decision_of.Goals as goal

pub returns-in-Committed-clause-txn : goal.returns-in-Committed-clause-txn
returns-in-Committed-clause-txn c =
    let told = c.args.told in
    let ready = c.args.ready in
    let verdict = commit_told ready told c.requires.asked ∙ ap (commit_verdict ready.votes) c.in-Committed.is in
    ap states.Ended c.end_by.ensures ∙ ap (λ (votes : List CitedVote). states.Ended (ended_with ready.txn told.number (verdicts.Commit votes))) c.requires.cited
    ∙ sym (ap (resolved_by (states.Voting ready) ready.txn told.number) verdict)

pub returns-in-Refused-clause-txn : goal.returns-in-Refused-clause-txn
returns-in-Refused-clause-txn c =
    let told = c.args.told in
    let ready = c.args.ready in
    let verdict = commit_told ready told c.requires.asked ∙ ap (commit_verdict ready.votes) c.in-Refused.is in
    c.refused.ensures.txn ∙ sym (ap (resolved_by (states.Voting ready) ready.txn told.number) verdict)
