use Rattle.std.proofs.Common.{subst}
use Rattle.tq_intents.{specs.Kept.AreInOrder, proofs.Votes.in_order}
use Rattle.tq_intents.proofs.record.OpenVotes.iter.Goals as goal

pub returns-clause-ordered : goal.returns-clause-ordered
returns-clause-ordered c = subst AreInOrder c.self.view_is (in_order c.self.inside.alone c.self.inside.others.entries c.iter.ensures.ordered)
