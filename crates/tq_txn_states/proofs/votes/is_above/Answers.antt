use Rattle.std.{proofs.Common.{◌∙◌, sym, ap}, specs.Option.option_copied}
use Rattle.tq_evidence.specs.declared.vote.Vote.{Vote}
use Rattle.tq_txn_states.proofs.{Searched.below_last, GoodVotes.votes_rise-map}
use Rattle.tq_txn_states.proofs.votes.is_above.Goals as goal

pub returns-in-Some : goal.returns-in-Some
returns-in-Some c = λ less.
    below_last (λ (vote : Vote). vote.server) c.args.votes.now c.in-Some.vote.now c.args.server (sym (votes_rise-map c.args.votes.now) ∙ c.requires) (sym c.last.ensures.value ∙ ap option_copied c.in-Some.is) less
