use Rattle.std.proofs.Common.{length}
use Rattle.tq_txn_states.proofs.votes.+are_writes_at.Given as goal

abbrev pub decreases-are_writes_at : goal.decreases-are_writes_at
decreases-are_writes_at l = length l.ops.now
