use Rattle.std.{proofs.Common.{◌≡◌, ◌≤◌, List, length}, specs.Vec.Iter.into_iter_items}
use Rattle.tq_tables.specs.{Files.{AreOfLevels, FilesView, with_rows}, declared.file_row.FileRow.FileRow}
use Rattle.tq_tables.proofs.file_table.FileTable.put_all.Given as goal

-- what is left leads to the same rows, and has room
pub record LeadsOn (start now : FilesView) (all left : List FileRow) : Type 0 where
  pub levels : now.levels ≡ start.levels
  pub same : with_rows now.rows left ≡ with_rows start.rows all
  pub fits : length left ≤ now.room
  pub of_tree : AreOfLevels start.levels left

abbrev pub invariant-loop-row : goal.invariant-loop-row
invariant-loop-row l = LeadsOn l.initial.self l.self (into_iter_items l.initial.row-iterator) (into_iter_items l.row-iterator)
