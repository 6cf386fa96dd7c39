use Rattle.std.proofs.Common.{rules}
use Rattle.tq_desk.proofs.desk.Desk.new.Goals as goal

pub returns-clause-value : goal.returns-clause-value
returns-clause-value c = search rules
