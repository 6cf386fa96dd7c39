use Rattle.std.proofs.Common.{rules}
use Rattle.tq_shape.proofs.Tree.{found_here, found_higher, none_at_root, none_higher}
use Rattle.tq_shape.proofs.server.ServerId.+side_towards.Goals as goal

pub returns-in-None-clause-none : goal.returns-in-None-clause-none
returns-in-None-clause-none t c = none_at_root c.args.self.number c.args.below.number (search rules) (search rules)

pub returns-in-Some-clause-side : goal.returns-in-Some-clause-side
returns-in-Some-clause-side t c = found_here c.args.self c.args.below c.requires (search rules)

pub returns-in-Some-2-clause-side : goal.returns-in-Some-2-clause-side
returns-in-Some-2-clause-side t c = found_higher c.args.self c.args.below.number c.side_towards.result (search rules)

pub returns-in-Some-2-clause-none : goal.returns-in-Some-2-clause-none
returns-in-Some-2-clause-none t c = none_higher c.args.self.number c.args.below.number c.side_towards.result (search rules) (search rules)
