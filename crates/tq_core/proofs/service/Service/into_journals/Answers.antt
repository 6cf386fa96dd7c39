use Rattle.std.proofs.Common.{◌∙◌, rules, sym}
use Rattle.tq_core.proofs.{Legal.legal_run, Committed.{reads_of_run, seen_run}}
use Rattle.tq_core.proofs.service.Service.into_journals.Goals as goal

pub returns-clause-value : goal.returns-clause-value
returns-clause-value c = search rules

pub returns-clause-committed_reads : goal.returns-clause-committed_reads
returns-clause-committed_reads c = reads_of_run _ (seen_run _ _ (c.self.view_is ∙ sym (returns-clause-value c)) c.self.invariant.ran)

pub returns-clause-legal : goal.returns-clause-legal
returns-clause-legal c = legal_run _ (seen_run _ _ (c.self.view_is ∙ sym (returns-clause-value c)) c.self.invariant.ran)
