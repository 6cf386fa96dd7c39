use Rattle.std.proofs.Common.{◌+◌, length}
use Rattle.tq_txn_states.proofs.servers.+has_all.Given as goal

abbrev pub decreases-has_all : goal.decreases-has_all
decreases-has_all l = length l.ids.now + length l.grants.now
