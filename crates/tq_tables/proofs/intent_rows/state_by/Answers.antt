use Rattle.std.proofs.Common.{rules}
use Rattle.tq_tables.proofs.intent_rows.state_by.Goals as goal

pub returns-in-Commit : goal.returns-in-Commit
returns-in-Commit c = search rules

pub returns-in-Commit-2 : goal.returns-in-Commit-2
returns-in-Commit-2 c = search rules
