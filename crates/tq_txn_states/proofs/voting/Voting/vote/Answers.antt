use Rattle.std.{proofs.Common.subst, specs.Prelude.IfErr}
use Rattle.tq_txn_states.specs.{declared.told.NodeTold.NodeTold, Voting.{TakesVote, vote_fault}, Open.ComesOf}
use Rattle.tq_txn_states.proofs.voting.Voting.vote.Goals as goal

pub returns-clause-vote : goal.returns-clause-vote
returns-clause-vote c =
    let P : NodeTold → Type 0 = λ t. TakesVote c.args.self.now t c.vote_by.new.self c.vote_by.result in
    subst P c.in_ok-answer.ensures c.vote_by.ensures.vote

pub returns-clause-fault : goal.returns-clause-fault
returns-clause-fault c =
    let P : NodeTold → Type 0 = λ t. IfErr c.vote_by.result (ComesOf (vote_fault c.args.self.now t)) in
    subst P c.in_ok-answer.ensures c.vote_by.ensures.fault
