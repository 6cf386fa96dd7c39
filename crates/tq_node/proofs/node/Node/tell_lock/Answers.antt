use Rattle.std.proofs.Common.{sym, subst, rules}
use Rattle.tq_locks.specs.Locks.{Locks}
use Rattle.tq_node.{specs.Node.IsSound, proofs.Sound.sound-asked}
use Rattle.tq_node.proofs.node.Node.tell_lock.Goals as goal

pub invariant_of-self-in_default : goal.invariant_of-self-in_default
invariant_of-self-in_default c =
    let inside = c.self.inside in
    subst (λ (table : Locks). IsSound inside.intents.records inside.last inside.copies.files table) (sym c.in_ok-outcome.ensures.after)
    (sound-asked inside.intents.records inside.last inside.copies.files inside.locks.locks c.self.invariant c.args.file.now c.args.txn c.args.mode c.args.number _ (search rules))
