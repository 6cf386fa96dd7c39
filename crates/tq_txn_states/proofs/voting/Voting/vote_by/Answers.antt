use Rattle.std.proofs.Common.{◌≡◌, ◌∙◌, refl, sym, ap, subst}
use Rattle.tq_txn_states.specs.Voting.{VotingView, IsGoodVote, KeepsVotes, txn_after_vote, with_vote}
use Rattle.tq_txn_states.proofs.{CitedLaws.vote_cited, GoodVotes.{kept_with_vote, IsVoting-with_vote}}
use Rattle.tq_txn_states.proofs.voting.Voting.vote_by.Goals as goal

pub invariant_of-self-2 : goal.invariant_of-self-2
invariant_of-self-2 c =
    let f = c.self.inside in
    let vote = c.in_ok-cast.cast.vote in
    let old : VotingView = record { txn = f.txn; votes = f.votes.items } in
    let good = subst (λ (v : VotingView). IsGoodVote v.txn.ops vote) (sym c.self.view_is) c.in_ok-cast.ensures.good in
    let votes = c.put_vote.ensures ∙ ap (with_vote vote) c.reserve.ensures.items in
    (rw votes (IsVoting-with_vote old vote good c.self.invariant.0), c.self.invariant.1)

pub returns-clause-vote : goal.returns-clause-vote
returns-clause-vote c =
    let f = c.self.inside in
    let old = c.args.self.now in
    let vote = c.in_ok-cast.cast.vote in
    let found = c.in_ok-cast.ensures.vote in
    let votes = c.put_vote.ensures ∙ ap (with_vote vote) c.reserve.ensures.items in
    let put : record { txn = f.txn; votes = c.put_vote.new.votes.items } ≡ record { txn = f.txn; votes = with_vote vote f.votes.items } = λ i. record { txn = f.txn; votes = votes i } in
    let is : c.keep.new.self ≡ record old { votes = with_vote vote old.votes } = c.keep.ensures ∙ put ∙ ap (λ (v : VotingView). record v { votes = with_vote vote v.votes }) c.self.view_is in
    record {
      succeeds = c.in_ok-cast.ensures.succeeds;
      after = is ∙ sym (ap (txn_after_vote old) found);
      cited = vote_cited old c.keep.new.self c.args.told old.txn.txn vote refl found is;
      txn = ap (λ (v : VotingView). v.txn) is;
      kept = subst (λ (v : VotingView). KeepsVotes old.votes v.votes) (sym is) (kept_with_vote vote old.votes);
      err = tt;
    }
