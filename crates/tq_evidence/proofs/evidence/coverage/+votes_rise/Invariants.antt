use Rattle.std.proofs.Common.{length}
use Rattle.tq_evidence.proofs.evidence.coverage.+votes_rise.Given as goal

abbrev pub decreases-votes_rise : goal.decreases-votes_rise
decreases-votes_rise l = length l.votes.now
