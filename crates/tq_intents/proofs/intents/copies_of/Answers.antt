use Rattle.std.proofs.Common.{ap, sym, ◌∙◌}
use Rattle.tq_intents.{specs.Kept.with_record, proofs.CopiesPush.kept_copies-more}
use Rattle.tq_intents.proofs.intents.copies_of.Goals as goal

pub loop-written-preserved : goal.loop-written-preserved
loop-written-preserved c =
    c.in_ok-install_record.ensures
    ∙ ap (λ files. with_record files c.written-item.result) c.loop-written.invariant
    ∙ sym (kept_copies-more c.args.records.now c.loop-written.written-index c.written-item.result c.loop-written-test.true c.written-item.is)
