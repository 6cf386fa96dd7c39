use Rattle.std.proofs.Common.{rules}
use Rattle.tq_core.proofs.founded.is_ended.Goals as goal

pub returns-then-asked-txn : goal.returns-then-asked-txn
returns-then-asked-txn c = search rules
