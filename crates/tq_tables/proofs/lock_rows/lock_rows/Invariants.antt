use Rattle.std.proofs.Common.{◌≡◌, take}
use Rattle.tq_tables.specs.Rows.{lock_rows}
use Rattle.tq_tables.proofs.lock_rows.lock_rows.Given as goal

abbrev pub invariant-loop-node : goal.invariant-loop-node
invariant-loop-node l = l.rows.items ≡ lock_rows (take l.node-index l.nodes)
