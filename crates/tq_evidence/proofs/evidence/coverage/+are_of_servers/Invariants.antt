use Rattle.std.proofs.Common.{length}
use Rattle.tq_evidence.proofs.evidence.coverage.+are_of_servers.Given as goal

abbrev pub decreases-are_of_servers : goal.decreases-are_of_servers
decreases-are_of_servers l = length l.votes.now
