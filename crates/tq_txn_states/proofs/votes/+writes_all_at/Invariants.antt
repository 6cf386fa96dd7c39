use Rattle.std.proofs.Common.{length}
use Rattle.tq_txn_states.proofs.votes.+writes_all_at.Given as goal

abbrev pub decreases-writes_all_at : goal.decreases-writes_all_at
decreases-writes_all_at l = length l.ops.now
