use Rattle.std.proofs.Common.{ap, ◌∙◌}
use Rattle.tq_tables.specs.Tables.{tables_of}
use Rattle.tq_core.proofs.{Legal.headline, Committed.{reads_of_run, seen_run}}
use Rattle.tq_core.proofs.service.Service.tables.Goals as goal

pub returns-clause-value : goal.returns-clause-value
returns-clause-value c = c.self.invariant.stand ∙ ap tables_of c.self.view_is

pub returns-clause-headline : goal.returns-clause-headline
returns-clause-headline c = headline _ _ (returns-clause-value c) (reads_of_run _ (seen_run _ _ c.self.view_is c.self.invariant.ran))
