use Rattle.tq_core.proofs.Legal.{all_offered}
use Rattle.tq_core.proofs.service.Service.run.Goals as goal

pub returns-clause-offered : goal.returns-clause-offered
returns-clause-offered c = all_offered _ _ _ c.in_ok-results.ensures.told
