use Rattle.std.proofs.Common.{ap, sym, subst, ◌∙◌}
use Rattle.std.specs.FinMap as fin
use Rattle.tq_locks.specs.Locks.{Locks}
use Rattle.tq_node.{specs.Node.IsSound, proofs.Sound.sound-granted}
use Rattle.tq_node.proofs.node.Node.lock.Goals as goal

pub invariant_of-self-2 : goal.invariant_of-self-2
invariant_of-self-2 c =
    let inside = c.self.inside in
    subst (λ (table : Locks). IsSound inside.intents.records inside.last inside.copies.files table) (sym c.in_ok-grant.ensures.ok)
    (sound-granted inside.intents.records inside.last inside.copies.files inside.locks.locks c.self.invariant c.args.file c.args.txn c.args.mode c.args.number _
    (ap (λ v. fin.get v.state.records.votes c.args.txn) c.self.view_is ∙ c.requires.closed))
