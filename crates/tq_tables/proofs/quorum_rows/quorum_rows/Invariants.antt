use Rattle.std.proofs.Common.{◌≡◌, map}
use Rattle.tq_live.specs.View.{upwards}
use Rattle.tq_tables.specs.Rows.{quorum_row}
use Rattle.tq_tables.proofs.quorum_rows.quorum_rows.Given as goal

abbrev pub invariant-loop-below : goal.invariant-loop-below
invariant-loop-below l = l.rows.items ≡ map (quorum_row l.tree) (upwards 1 l.below)
