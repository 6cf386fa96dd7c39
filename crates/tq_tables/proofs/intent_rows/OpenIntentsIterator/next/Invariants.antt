use Rattle.std.proofs.Common.{◌≡◌, ◌++◌, length}
use Rattle.tq_tables.specs.Rows.{intent_state_at, intent_rows, left_at}
use Rattle.tq_tables.proofs.intent_rows.OpenIntentsIterator.next.Given as goal

-- the servers that were passed have no vote left
abbrev pub invariant-loop-intent : goal.invariant-loop-intent
invariant-loop-intent l =
    left_at (intent_state_at l.self-inside.desk.now) l.self-inside.here ++ intent_rows (intent_state_at l.self-inside.desk.now) l.self-inside.nodes.now
    ≡ l.fn.self

abbrev pub decreases-loop-intent : goal.decreases-loop-intent
decreases-loop-intent l = length l.self-inside.nodes.now
