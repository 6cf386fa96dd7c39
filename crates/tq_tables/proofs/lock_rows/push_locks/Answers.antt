use Rattle.std.proofs.{lemmas.Grind.common_steps, Common.arith}
use Rattle.tq_tables.proofs.lock_rows.push_locks.Goals as goal

pub loop-entry-preserved : goal.loop-entry-preserved
loop-entry-preserved c = grind (arith, common_steps)
