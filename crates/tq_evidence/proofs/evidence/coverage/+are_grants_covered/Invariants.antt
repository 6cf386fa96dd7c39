use Rattle.std.proofs.Common.{length}
use Rattle.tq_evidence.proofs.evidence.coverage.+are_grants_covered.Given as goal

abbrev pub decreases-are_grants_covered : goal.decreases-are_grants_covered
decreases-are_grants_covered l = length l.ops.now
