use Rattle.std.proofs.Common.{◌+◌, ℕ, List, map, ap, sym, ◌∙◌}
use Rattle.tq_tables.{specs.Files.version_in, proofs.Written.names-none}
use Rattle.tq_tables.specs.Rows as spec
use Rattle.tq_tables.proofs.file_rows.rows_written.Goals as goal

pub returns-in-empty : goal.returns-in-empty
returns-in-empty c =
    let next = λ (file : List ℕ). spec.row_at c.args.table.now.levels c.args.nodes.now file (version_in c.args.table.now.rows file + 1) in
    c.new.ensures.items ∙ sym (ap (map next) (names-none c.args.ops.now c.in-empty.len_below))
