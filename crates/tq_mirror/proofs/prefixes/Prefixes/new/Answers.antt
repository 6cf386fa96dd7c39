use Rattle.tq_mirror.proofs.Standing.{opened_is}
use Rattle.tq_mirror.proofs.prefixes.Prefixes.new.Goals as goal

pub invariant_of-result : goal.invariant_of-result
invariant_of-result c = ((opened_is c.in_ok-tabled.tabled.tables c.args.levels c.args.limits _ c.in_ok-tabled.ensures.journals c.in_ok-tabled.ensures.tables).keeps, tt)

pub returns : goal.returns
returns c = c.in_ok-tabled.ensures.journals
