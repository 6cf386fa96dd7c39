use Rattle.std.proofs.Common.{Bool, ap, sym, subst, ◌∙◌}
use Rattle.tq_node.{specs.{Node.{IsKept, NodeView}, NodeChanges.server_at_stop}, proofs.Sound.{kept_is, left_is}}
use Rattle.tq_node.proofs.node.Node.leave.Goals as goal

pub returns-then-stops-clause-after : goal.returns-then-stops-clause-after
returns-then-stops-clause-after c =
    let inside = c.self.inside in
    let kept = subst (λ (v : NodeView). IsKept v.state) c.self.view_is (kept_is inside.intents.records inside.last inside.copies.files inside.locks.locks c.self.invariant inside.down) in
    c.crash.ensures ∙ left_is c.args.self.now inside.last kept ∙ ap (λ (b : Bool). server_at_stop b c.args.self.now) (sym c.if-stops.true)
