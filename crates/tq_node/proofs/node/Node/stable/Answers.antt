use Rattle.std.proofs.Common.{subst}
use Rattle.tq_node.{specs.Node.{IsKept, NodeView}, proofs.Sound.kept_is}
use Rattle.tq_node.proofs.node.Node.stable.Goals as goal

pub returns-clause-kept : goal.returns-clause-kept
returns-clause-kept c =
    let inside = c.self.inside in
    subst (λ (v : NodeView). IsKept v.state) c.self.view_is (kept_is inside.intents.records inside.last inside.copies.files inside.locks.locks c.self.invariant inside.down)
