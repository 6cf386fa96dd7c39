use Rattle.std.proofs.Common.{length}
use Rattle.tq_evidence.proofs.evidence.versions.+ops_rise.Given as goal

abbrev pub decreases-ops_rise : goal.decreases-ops_rise
decreases-ops_rise l = length l.ops.now
