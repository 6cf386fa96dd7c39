use Rattle.std.proofs.Common.{◌≡◌, take}
use Rattle.tq_cells.proofs.held.entry_copies.Given as goal

abbrev pub invariant-loop-entry : goal.invariant-loop-entry
invariant-loop-entry g l = l.copied.items ≡ take l.entry-index l.entries
