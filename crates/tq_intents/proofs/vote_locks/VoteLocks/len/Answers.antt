use Rattle.std.proofs.Common.{length, ap, sym, ◌∙◌}
use Rattle.tq_intents.proofs.KeptLocks.{length-kept_each}
use Rattle.tq_intents.proofs.vote_locks.VoteLocks.len.Goals as goal

pub returns : goal.returns
returns c = c.len.ensures.value ∙ sym (length-kept_each c.self.inside.held c.self.inside.versions.items c.self.invariant) ∙ ap length c.self.view_is
