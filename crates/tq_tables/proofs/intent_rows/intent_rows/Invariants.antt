use Rattle.std.proofs.Common.{◌≡◌, ◌++◌}
use Rattle.tq_tables.proofs.intent_rows.intent_rows.Given as goal

-- the rows so far and those of the votes that are left are all rows
abbrev pub invariant-loop-intent : goal.invariant-loop-intent
invariant-loop-intent l = l.rows.items ++ l.intent-iterator ≡ l.initial.intent-iterator
