use Rattle.std.proofs.Common.{◌∙◌, ap, sym}
use Rattle.tq_tables.specs.Tables.{tables_of}
use Rattle.tq_core.proofs.{Legal.legal_run, Committed.seen_run}
use Rattle.tq_core.proofs.service.Service.resume.Goals as goal

pub of-requires : goal.of-requires
of-requires c = legal_run c.args.journals c.requires

pub invariant_of-result : goal.invariant_of-result
invariant_of-result c =
    let journals = c.in_ok-tabled.ensures.journals in
    record {
      journals = c.in_ok-tabled.ensures.form;
      ran = seen_run _ _ (sym journals) c.requires;
      stand = c.in_ok-tabled.ensures.tables ∙ ap tables_of (sym journals);
    }
