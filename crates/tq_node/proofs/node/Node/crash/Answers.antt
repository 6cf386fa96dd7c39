use Rattle.std.proofs.Common.{sym, subst, rules}
use Rattle.tq_locks.specs.Locks.{Locks}
use Rattle.tq_node.{specs.Node.IsSound, proofs.Sound.sound-crashed}
use Rattle.tq_node.proofs.node.Node.crash.Goals as goal

pub invariant_of-self : goal.invariant_of-self
invariant_of-self c =
    let inside = c.self.inside in
    subst (λ (table : Locks). IsSound inside.intents.records inside.last inside.copies.files table) (sym c.drop_unstable.ensures)
    (sound-crashed inside.intents.records inside.last inside.copies.files inside.locks.locks c.self.invariant)

pub returns : goal.returns
returns c = search rules
