use Rattle.std.{proofs.Common.{ap, ◌∙◌}, specs.Map.lookup}
use Rattle.tq_store.specs.Names.{same_name}
use Rattle.tq_tables.specs.Files as spec
use Rattle.tq_tables.specs.Files.{FilesView}
use Rattle.tq_tables.proofs.file_table.FileTable.row.Goals as goal

pub returns : goal.returns
returns c =
    c.get.ensures.value
    ∙ ap (λ es. lookup (same_name c.args.file.now) es) c.self.invariant.named
    ∙ ap (λ (v : FilesView). spec.row_in v.rows c.args.file.now) c.self.view_is
