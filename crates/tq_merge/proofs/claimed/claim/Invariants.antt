use Rattle.std.proofs.Common.{take}
use Rattle.tq_merge.{specs.Told.AreDifferent, proofs.Marked.KeepsMarks}
use Rattle.tq_merge.proofs.claimed.claim.Given as goal

abbrev pub invariant-loop-name : goal.invariant-loop-name
invariant-loop-name l = record {
  keeps : KeepsMarks l.counts l.marks.items (take l.name-index l.names);
  different : AreDifferent (take l.name-index l.names);
}
