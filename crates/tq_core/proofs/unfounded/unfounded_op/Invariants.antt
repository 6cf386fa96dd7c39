use Rattle.std.proofs.Common.{◌≡◌, drop}
use Rattle.tq_core.specs.Founded as spec
use Rattle.tq_core.proofs.unfounded.unfounded_op.Given as goal

-- what the ops that are left cite is what all of them do
abbrev pub invariant-loop-op : goal.invariant-loop-op
invariant-loop-op g l =
    spec.unfounded_op (g.E.CitedEntries.journals l.entries) l.txn (drop l.op-index l.ops)
    ≡ spec.unfounded_op (g.E.CitedEntries.journals l.entries) l.txn l.ops
