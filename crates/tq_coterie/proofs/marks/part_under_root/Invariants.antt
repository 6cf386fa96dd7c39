use Rattle.tq_coterie.proofs.Marked.{AreRaised}
use Rattle.tq_coterie.proofs.marks.part_under_root.Given as goal

abbrev pub invariant-loop-server : goal.invariant-loop-server
invariant-loop-server l = AreRaised l.root.levels l.servers l.members.words l.server

abbrev pub decreases-loop-server : goal.decreases-loop-server
decreases-loop-server l = l.server
