use Rattle.std.proofs.Common.{length}
use Rattle.tq_evidence.proofs.evidence.coverage.+are_covered_in_order.Given as goal

abbrev pub decreases-are_covered_in_order : goal.decreases-are_covered_in_order
decreases-are_covered_in_order l = length l.lists.now
