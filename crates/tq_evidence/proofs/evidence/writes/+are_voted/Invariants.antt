use Rattle.std.proofs.Common.{length}
use Rattle.tq_evidence.proofs.evidence.writes.+are_voted.Given as goal

abbrev pub decreases-are_voted : goal.decreases-are_voted
decreases-are_voted l = length l.votes.now
