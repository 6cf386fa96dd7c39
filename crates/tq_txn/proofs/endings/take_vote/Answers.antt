use Rattle.std.proofs.Common.{◌∙◌, refl, sym}
use Rattle.tq_txn.proofs.{KnownLaws.knows_voted, EndLaws.{voted_on_same, voted_on_after}, LineLaws.vote_refused}
use Rattle.tq_txn.proofs.endings.take_vote.Goals as goal

pub returns-in-Err-clause-asks : goal.returns-in-Err-clause-asks
returns-in-Err-clause-asks c = λ told.
    vote_refused c.args.voting.now c.vote_by.new.self c.args.told c.in-Err.fault c.from.result told (sym c.refusal_in.ensures ∙ c.in_default.is) c.in-Err.ensures.fault c.in-Err.ensures.vote.err c.from.ensures

pub returns-in-Some-clause-kept : goal.returns-in-Some-clause-kept
returns-in-Some-clause-kept c = λ none. voted_on_same c.args.voting.now c.args.voting.now refl

pub returns-in-Err-clause-kept : goal.returns-in-Err-clause-kept
returns-in-Err-clause-kept c = λ none. voted_on_same c.args.voting.now c.vote_by.new.self c.in-Err.ensures.vote.err

pub returns-in-Ok-clause-kept : goal.returns-in-Ok-clause-kept
returns-in-Ok-clause-kept c = λ none. voted_on_after c.args.voting.now c.vote_by.new.self c.args.told c.in-Ok.ensures.vote.after none

pub returns-in-Some-clause-cited : goal.returns-in-Some-clause-cited
returns-in-Some-clause-cited c = λ before is. knows_voted before c.args.told c.args.voting.now c.args.voting.now refl is

pub returns-in-Err-clause-cited : goal.returns-in-Err-clause-cited
returns-in-Err-clause-cited c = λ before is. knows_voted before c.args.told c.args.voting.now c.vote_by.new.self c.in-Err.ensures.vote.err is
