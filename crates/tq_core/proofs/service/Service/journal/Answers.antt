use Rattle.std.proofs.Common.{rules}
use Rattle.tq_core.proofs.service.Service.journal.Goals as goal

pub returns-in-Desk : goal.returns-in-Desk
returns-in-Desk c = search rules
