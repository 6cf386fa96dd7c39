use Rattle.tq_core.proofs.Committed.{reads_of_run, seen_run}
use Rattle.tq_core.proofs.service.Service.show_run.Goals as goal

pub returns : goal.returns
returns c = reads_of_run _ (seen_run _ _ c.self.view_is c.self.invariant.ran)
