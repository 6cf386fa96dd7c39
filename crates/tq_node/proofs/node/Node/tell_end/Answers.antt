use Rattle.std.proofs.Common.{[], ap, sym, subst, ◌∙◌, rules}
use Rattle.tq_asks.specs.declared.ask.{NodeAsk.TheVariants.Work, WorkAsk.TheVariants.Decide}
use Rattle.tq_node.specs.{Node.{NodeView, with_last}, declared.change.NodeStep.TheVariants.Install, Telling.AreReached}
use Rattle.tq_node.{specs.declared.telling.Raised.TheVariants.Written, proofs.Installed.{step-keeps, step-reaches}}
use Rattle.tq_store.specs.Copies.{copy_of}
use Rattle.tq_node.proofs.node.Node.tell_end.Goals as goal

pub returns-clause-told : goal.returns-clause-told
returns-clause-told c =
    let ask = Work (Decide c.args.txn c.args.verdict.now c.args._cite) in
    let old = c.args.self.now.state.records in
    let after = c.note-2.ensures ∙ ap (with_last c.args.number) c.in_ok-install.ensures.after in
    record {
      entered = search rules;
      told = search rules;
      after = search rules;
      raised = λ file none.
          ap (λ (v : NodeView). copy_of v.state.records.copies file) after
          ∙ step-keeps ask old c.args.number (Install c.args.txn 0 c.in_ok-writes.writes []) file none;
      reached =
          subst (λ (v : NodeView). AreReached ask (Written c.in_ok-writes.writes) v.state.records.copies) (sym after)
          (step-reaches ask old c.args.number (Install c.args.txn 0 c.in_ok-writes.writes []));
    }
