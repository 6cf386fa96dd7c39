use Rattle.std.proofs.Common.{◌≡◌, ap, subst, sym}
use Rattle.tq_tables.specs.{Journals.{AreJournals, JournalsView}, Tabled.journals_of}
use Rattle.tq_tables.proofs.tabled_journals.TabledJournals.of.Goals as goal

pub returns-clause-journals : goal.returns-clause-journals
returns-clause-journals c =
    let stand = c.in_ok-tables.ensures in
    let entries = c.into_entries-servers.ensures in
    λ i. record { levels = (stand i).levels; limits = c.limits-limits.ensures i; servers = entries.servers i; desk = entries.desk i; view = entries.view i }

pub returns-clause-form : goal.returns-clause-form
returns-clause-form c = subst AreJournals (sym (returns-clause-journals c)) c.into_entries-servers.ensures.form
