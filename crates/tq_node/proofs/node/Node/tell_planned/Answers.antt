use Rattle.std.{proofs.Common.{ap, sym, subst, ◌∙◌, rules}, specs.List.list_any}
use Rattle.tq_node.specs.{NodeChanges.{node_changed, records_after_step, NodeFits}, Telling.{AreReached, raised_files}}
use Rattle.tq_node.specs.{NodePlans.{change_fits, change_leads}, declared.change.NodeChange.NodeChange}
use Rattle.tq_node.{specs.declared.telling.Raised.Raised, proofs.Installed.{step-keeps, step-reaches}}
use Rattle.tq_store.specs.{Copies.{Files, copy_of}, Names.same_name}
use Rattle.tq_node.proofs.node.Node.tell_planned.Goals as goal

pub apply-requires : goal.apply-requires
apply-requires c =
    let old = c.args.self.now in
    subst (λ (change : NodeChange). NodeFits old change) (sym c.in_ok-plan.ensures.change) (change_fits old c.args.number c.args.ask.now c.requires)

pub returns-clause-told : goal.returns-clause-told
returns-clause-told c =
    let old = c.args.self.now in
    record {
      entered = search rules;
      told = search rules;
      after = c.in_ok-apply.ensures.ok ∙ ap (λ (change : NodeChange). node_changed old change) c.in_ok-plan.ensures.change ∙ change_leads old c.args.number c.args.ask.now;
      raised = λ file none.
          ap (λ (files : Files). copy_of files file) c.in_ok-apply.ensures.copies
          ∙ step-keeps c.args.ask.now _ _ _ file (sym (ap (λ (raised : Raised). list_any (same_name file) (raised_files c.args.ask.now raised)) c.in_ok-raised.ensures) ∙ none);
      reached =
          subst (λ (files : Files). AreReached c.args.ask.now c.in_ok-raised.raised files) (sym c.in_ok-apply.ensures.copies)
          (subst (λ (raised : Raised). AreReached c.args.ask.now raised (records_after_step old.state.records c.in_ok-plan.plan.change.number c.in_ok-plan.plan.change.step).copies) (sym c.in_ok-raised.ensures) (step-reaches c.args.ask.now _ _ _));
    }
