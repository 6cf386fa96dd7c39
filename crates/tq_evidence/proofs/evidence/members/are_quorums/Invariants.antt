use Rattle.std.proofs.Common.{◌≡◌, drop}
use Rattle.tq_evidence.specs.Evidence.{are_quorums}
use Rattle.tq_evidence.proofs.evidence.members.are_quorums.Given as goal

abbrev pub invariant-loop-op : goal.invariant-loop-op
invariant-loop-op l = are_quorums l.levels (drop l.op-index l.ops) ≡ are_quorums l.levels l.ops
