use Rattle.std.proofs.Common.{◌<◌, ◌^◌}
use Rattle.tq_coterie.proofs.Marked.{IsLookedAt}
use Rattle.tq_coterie.proofs.marks.Marks.last_below.Given as goal

abbrev pub invariant-loop-word : goal.invariant-loop-word
invariant-loop-word l = record {
  within : l.place < 16;
  small : l.word < 2 ^ 64;
  looked : IsLookedAt l.self.words l.server l.place l.word;
}

abbrev pub decreases-loop-word : goal.decreases-loop-word
decreases-loop-word l = l.place
