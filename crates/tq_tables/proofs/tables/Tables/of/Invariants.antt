use Rattle.std.proofs.Common.{◌≡◌, length}
use Rattle.tq_tables.{specs.Tables.tables_of, proofs.Again.until}
use Rattle.tq_tables.proofs.tables.Tables.of.Given as goal

abbrev pub invariant-loop-view_entry : goal.invariant-loop-view_entry
invariant-loop-view_entry l = l.tables ≡ tables_of (until l.journals l.view_entry-index 0 0 0)

abbrev pub invariant-loop-desk_entry : goal.invariant-loop-desk_entry
invariant-loop-desk_entry l = l.tables ≡ tables_of (until l.journals (length l.journals.view) l.desk_entry-index 0 0)

abbrev pub invariant-loop-entries : goal.invariant-loop-entries
invariant-loop-entries l = (l.tables ≡ tables_of (until l.journals (length l.journals.view) (length l.journals.desk) l.entries-index 0)) × (l.server ≡ l.entries-index)

abbrev pub invariant-loop-entry : goal.invariant-loop-entry
invariant-loop-entry l = (l.tables ≡ tables_of (until l.journals (length l.journals.view) (length l.journals.desk) l.entries-index l.entry-index)) × (l.number ≡ l.entry-index)
