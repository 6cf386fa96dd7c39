use Rattle.std.proofs.Common.{Option, subst, sym, ◌∙◌}
use Rattle.tq_asks.specs.declared.ask.{NodeAsk.NodeAsk, NodeAsk.TheVariants.Work, WorkAsk.TheVariants.Peek}
use Rattle.tq_txn_states.specs.declared.told.NodeTold.{NodeTold}
use Rattle.tq_refresh.{specs.Plan.IsAnswered, proofs.Walked.mended}
use Rattle.tq_refresh.proofs.mending.mend.Goals as goal

pub returns-clause-asked : goal.returns-clause-asked
returns-clause-asked g c =
    let job = c.args.job.now in
    let old = g.A.Asker.told c.args.asker.now in
    let mid = g.A.Asker.told c.answer_of.new.asker in
    let first =
    subst (λ (o : Option NodeTold). IsAnswered job.source.number (Work (Peek job.file)) o old mid) c.in-Some.is
    (subst (λ (a : NodeAsk). IsAnswered job.source.number a c.in_ok-told.field-0 old mid) c.in_ok-peek.ensures c.in_ok-told.ensures.told) in
    mended job c.in-Some.told c.in-Some-2.ask c.in_ok-_taken._taken old mid (g.A.Asker.told c.answer_of-2.new.asker)
    first (sym c.in_ok-ask.ensures.value ∙ c.in-Some-2.is) c.in_ok-_taken.ensures.told
