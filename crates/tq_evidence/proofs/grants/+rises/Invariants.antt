use Rattle.std.proofs.Common.{length}
use Rattle.tq_evidence.proofs.grants.+rises.Given as goal

abbrev pub decreases-rises : goal.decreases-rises
decreases-rises l = length l.numbers.now
