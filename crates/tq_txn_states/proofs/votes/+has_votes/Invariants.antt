use Rattle.std.proofs.Common.{length}
use Rattle.tq_txn_states.proofs.votes.+has_votes.Given as goal

abbrev pub decreases-has_votes : goal.decreases-has_votes
decreases-has_votes l = length l.voters.now
