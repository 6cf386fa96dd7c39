use Rattle.std.proofs.Common.{rules}
use Rattle.tq_desk.proofs.desk.Desk.plan.Goals as goal

pub returns-in-Begin-clause-reply : goal.returns-in-Begin-clause-reply
returns-in-Begin-clause-reply g c = search rules

pub returns-in-Begin-clause-change : goal.returns-in-Begin-clause-change
returns-in-Begin-clause-change g c = search rules
