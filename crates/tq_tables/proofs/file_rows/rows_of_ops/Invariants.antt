use Rattle.std.proofs.Common.{◌≡◌, ◌++◌, ◌+◌, map}
use Rattle.tq_tables.specs.{Rows.{names_of, row_at}, Files.version_in}
use Rattle.tq_tables.proofs.file_rows.rows_of_ops.Given as goal

abbrev pub invariant-loop-file : goal.invariant-loop-file
invariant-loop-file l =
    l.rows.items ++ map (λ file. row_at l.table.levels l.nodes file (version_in l.table.rows file + 1)) (map (λ entry. entry.0) l.file-iterator)
    ≡ map (λ file. row_at l.table.levels l.nodes file (version_in l.table.rows file + 1)) (names_of l.ops)
