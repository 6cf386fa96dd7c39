use Rattle.std.{proofs.Common.{◌≡◌, ◌++◌, map}, specs.Vec.Iter.into_iter_items}
use Rattle.std.specs.FinMap as fin
use Rattle.tq_tables.specs.Rows.{lock_row}
use Rattle.tq_tables.proofs.lock_rows.push_locks.Given as goal

abbrev pub invariant-loop-entry : goal.invariant-loop-entry
invariant-loop-entry l =
    l.rows.items ++ map (lock_row l.node) (into_iter_items l.entry-iterator)
    ≡ l.fn.rows.items ++ map (lock_row l.node) (fin.entries l.node.state.records.locks)
