use Rattle.tq_live.proofs.Either.{first-found, has-either_under, none-found}
use Rattle.tq_live.proofs.tree.LiveTree.best.Goals as goal

pub returns-in_err-least-in-Some-clause-either : goal.returns-in_err-least-in-Some-clause-either
returns-in_err-least-in-Some-clause-either c = has-either_under c.args.self.now c.args.purpose c.args.server.number

pub returns-in_ok-least-in-Some-clause-first : goal.returns-in_ok-least-in-Some-clause-first
returns-in_ok-least-in-Some-clause-first c = first-found c.args.self.now c.args.purpose c.args.server.number c.gather_into.new.set.numbers c.gather_into.ensures.found

pub returns-in_ok-least-in-Some-clause-either : goal.returns-in_ok-least-in-Some-clause-either
returns-in_ok-least-in-Some-clause-either c = has-either_under c.args.self.now c.args.purpose c.args.server.number

pub returns-in-None-clause-first : goal.returns-in-None-clause-first
returns-in-None-clause-first c = none-found c.args.self.now c.args.purpose c.args.server.number c.in-None.ensures

pub returns-in-None-clause-either : goal.returns-in-None-clause-either
returns-in-None-clause-either c = has-either_under c.args.self.now c.args.purpose c.args.server.number
