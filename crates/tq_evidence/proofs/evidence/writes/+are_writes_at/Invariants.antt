use Rattle.std.proofs.Common.{length}
use Rattle.tq_evidence.proofs.evidence.writes.+are_writes_at.Given as goal

abbrev pub decreases-are_writes_at : goal.decreases-are_writes_at
decreases-are_writes_at l = length l.writes.now
