use Rattle.std.proofs.Common.{take}
use Rattle.tq_coterie.specs.Parts.{AreMarksOf}
use Rattle.tq_coterie.proofs.marks.Marks.of.Given as goal

abbrev pub invariant-loop-server : goal.invariant-loop-server
invariant-loop-server l = AreMarksOf l.marks.words (take l.server-index l.servers)
