use Rattle.std.proofs.Common.{◌≡◌}
use Rattle.tq_cells.specs.Passes.{receipts_of}
use Rattle.tq_cells.proofs.cell.receipts_in_order.Given as goal

abbrev pub invariant-loop-pass : goal.invariant-loop-pass
invariant-loop-pass g l = l.all.items ≡ receipts_of l.yielded
