use Rattle.std.proofs.Common.{length}
use Rattle.tq_core.proofs.founded.+are_cited.Given as goal

abbrev pub decreases-are_cited : goal.decreases-are_cited
decreases-are_cited l = length l.cited.now
