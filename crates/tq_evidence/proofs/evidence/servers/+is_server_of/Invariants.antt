use Rattle.std.proofs.Common.{length}
use Rattle.tq_evidence.proofs.evidence.servers.+is_server_of.Given as goal

abbrev pub decreases-is_server_of : goal.decreases-is_server_of
decreases-is_server_of l = length l.ops.now
