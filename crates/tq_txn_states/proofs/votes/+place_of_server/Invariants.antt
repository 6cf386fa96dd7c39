use Rattle.std.proofs.Common.{length}
use Rattle.tq_txn_states.proofs.votes.+place_of_server.Given as goal

abbrev pub decreases-place_of_server : goal.decreases-place_of_server
decreases-place_of_server l = length l.ops.now
