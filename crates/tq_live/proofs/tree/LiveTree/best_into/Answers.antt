use Rattle.tq_live.proofs.Either.{first-found, has-either_under, none-found}
use Rattle.tq_live.proofs.tree.LiveTree.best_into.Goals as goal

pub returns-in-Some-clause-first : goal.returns-in-Some-clause-first
returns-in-Some-clause-first c = first-found c.args.self.now c.args.purpose c.args.server.number c.gather_into.new.set.numbers c.gather_into.ensures.found

pub returns-in-Some-clause-either : goal.returns-in-Some-clause-either
returns-in-Some-clause-either c = has-either_under c.args.self.now c.args.purpose c.args.server.number

pub returns-in-None-clause-none : goal.returns-in-None-clause-none
returns-in-None-clause-none c = none-found c.args.self.now c.args.purpose c.args.server.number c.in-None.ensures

pub returns-in-None-clause-either : goal.returns-in-None-clause-either
returns-in-None-clause-either c = has-either_under c.args.self.now c.args.purpose c.args.server.number
