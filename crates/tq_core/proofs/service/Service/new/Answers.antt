use Rattle.tq_core.proofs.Standing.{opened}
use Rattle.tq_core.proofs.service.Service.new.Goals as goal

pub invariant_of-result : goal.invariant_of-result
invariant_of-result c = opened c.in_ok-tabled.tabled.tables c.args.levels c.args.limits _ c.in_ok-tabled.ensures.journals c.in_ok-tabled.ensures.tables
