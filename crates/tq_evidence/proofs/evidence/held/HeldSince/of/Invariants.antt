use Rattle.std.proofs.Common.{◌≡◌, drop}
use Rattle.tq_evidence.specs.Evidence.{least_since, noted_all}
use Rattle.tq_evidence.proofs.evidence.held.HeldSince.of.Given as goal

abbrev pub invariant-loop-lock : goal.invariant-loop-lock
invariant-loop-lock l = noted_all l.table (drop l.lock-index l.held) ≡ least_since l.held
