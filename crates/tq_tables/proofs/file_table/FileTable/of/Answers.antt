use Rattle.std.proofs.Common.{List, ap, ◌∙◌}
use Rattle.tq_tables.{specs.{Files.with_rows, declared.file_row.FileRow.FileRow}, proofs.Kept.with_rows-apart}
use Rattle.tq_tables.proofs.file_table.FileTable.of.Goals as goal

pub returns : goal.returns
returns c = (
  c.put_all.ensures.levels ∙ c.in_ok-reserve.ensures.levels ∙ c.new-table.ensures.levels,
  c.put_all.ensures.rows
      ∙ ap (λ (rows : List FileRow). with_rows rows c.args.rows.items) (c.in_ok-reserve.ensures.rows ∙ c.new-table.ensures.rows)
      ∙ with_rows-apart c.args.rows.items c.requires.apart,
)
