use Rattle.std.proofs.Common.{◌∙◌, sym}
use Rattle.tq_txn_states.proofs.GoodVotes.{found_vote}
use Rattle.tq_txn_states.proofs.votes.has_vote.Goals as goal

pub returns : goal.returns
returns c = c.stands_at.ensures.value ∙ sym (found_vote c.args.server c.args.votes.now c.place_of_vote.result c.requires c.place_of_vote.ensures.place)
