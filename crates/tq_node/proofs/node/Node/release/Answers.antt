use Rattle.std.proofs.Common.{ap, sym, subst, ◌∙◌}
use Rattle.std.specs.FinMap as fin
use Rattle.tq_locks.specs.Locks.{Locks}
use Rattle.tq_node.{specs.Node.IsSound, proofs.Sound.sound-released}
use Rattle.tq_node.proofs.node.Node.release.Goals as goal

pub invariant_of-self : goal.invariant_of-self
invariant_of-self c =
    let inside = c.self.inside in
    subst (λ (table : Locks). IsSound inside.intents.records inside.last inside.copies.files table) (sym c.release.ensures)
    (sound-released inside.intents.records inside.last inside.copies.files inside.locks.locks c.self.invariant c.args.txn
    (ap (λ v. fin.get v.state.records.votes c.args.txn) c.self.view_is ∙ c.requires))
