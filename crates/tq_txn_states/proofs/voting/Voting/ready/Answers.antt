use Rattle.std.{proofs.{Common.{◌≡◌, ◌∙◌, false, sym, ap, refl}, lemmas.List.Folds.list_all-map}, specs.List.list_all}
use Rattle.tq_shape.specs.Tree.{Server}
use Rattle.tq_txn_states.specs.Voting.{has_vote, has_votes}
use Rattle.tq_txn_states.proofs.voting.Voting.ready.Goals as goal

pub returns-then-not-has_votes-clause-fault : goal.returns-then-not-has_votes-clause-fault
returns-then-not-has_votes-clause-fault c =
    let tested = rw c.as_slice.ensures.value at c.has_votes.ensures in
    let votes = c.self.inside.votes.items in
    let missing : has_votes c.args.self ≡ false = rw (← c.self.view_is)
    (ap (list_all (has_vote votes)) (sym c.voters.ensures.numbers) ∙ list_all-map (has_vote votes) (λ (voter : Server). voter.number) c.voters.result.now ∙ sym tested ∙ c.if-not-has_votes.true) in
    (refl, rw missing refl)

pub new-requires : goal.new-requires
new-requires c =
    let tested = rw c.as_slice.ensures.value at c.has_votes.ensures in
    let votes = c.self.inside.votes.items in
    rw (← c.self.view_is)
    (ap (list_all (has_vote votes)) (sym c.voters.ensures.numbers) ∙ list_all-map (has_vote votes) (λ (voter : Server). voter.number) c.voters.result.now ∙ sym tested ∙ c.if-not-has_votes.false)
