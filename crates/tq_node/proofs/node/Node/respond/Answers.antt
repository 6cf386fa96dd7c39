use Rattle.std.proofs.Common.{ap, sym, subst, ◌∙◌}
use Rattle.tq_node.specs.{NodeChanges.{node_changed, NodeFits}, NodePlans.{change_fits, change_leads}}
use Rattle.tq_node.proofs.node.Node.respond.Goals as goal

pub apply-requires : goal.apply-requires
apply-requires c =
    let old = c.args.self.now in
    subst (λ change. NodeFits old change) (sym c.in_ok-plan.ensures.change) (change_fits old c.args.number c.args.ask.now c.requires)

pub returns-clause-after : goal.returns-clause-after
returns-clause-after c =
    let old = c.args.self.now in
    c.in_ok-apply.ensures.ok ∙ ap (λ change. node_changed old change) c.in_ok-plan.ensures.change ∙ change_leads old c.args.number c.args.ask.now
