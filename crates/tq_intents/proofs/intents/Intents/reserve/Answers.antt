use Rattle.std.proofs.Common.{rules}
use Rattle.tq_intents.proofs.intents.Intents.reserve.Goals as goal

pub invariant_of-self : goal.invariant_of-self
invariant_of-self c = search rules

pub returns-clause-records : goal.returns-clause-records
returns-clause-records c = search rules

pub returns-clause-room : goal.returns-clause-room
returns-clause-room c = search rules
