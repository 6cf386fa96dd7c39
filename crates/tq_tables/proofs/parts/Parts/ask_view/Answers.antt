use Rattle.std.proofs.Common.{ap, sym, subst, ◌∙◌}
use Rattle.tq_live.specs.{View.view_after, ViewLaws.{ViewFits, view_changed, change_fits, change_leads}}
use Rattle.tq_live.specs.declared.view.ViewChange.{ViewChange}
use Rattle.tq_tables.specs.Parts.{PartsView}
use Rattle.tq_tables.proofs.parts.Parts.ask_view.Goals as goal

pub apply-requires : goal.apply-requires
apply-requires c =
    subst (λ (change : ViewChange). ViewFits c.self.inside.view change) (sym c.in_ok-plan.ensures.change) (change_fits c.self.inside.view c.args.ask.now)

pub returns-clause-after : goal.returns-clause-after
returns-clause-after c =
    let live = c.self.inside.view in
    let view_is = c.apply.ensures ∙ ap (view_changed live) c.in_ok-plan.ensures.change ∙ change_leads live c.args.ask.now in
    (λ i. record { nodes = c.self.inside.nodes.items; desk = c.self.inside.desk; view = view_is i })
    ∙ ap (λ (p : PartsView). record p { view = view_after p.view c.args.ask.now }) c.self.view_is
