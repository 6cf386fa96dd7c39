use Rattle.std.proofs.Common.{◌≡◌, map, ap, sym, ◌∙◌}
use Rattle.indexmap.specs.IndexMap.{insert_entry}
use Rattle.tq_store.specs.Names.{same_name}
use Rattle.tq_tables.specs.Files as spec
use Rattle.tq_tables.specs.Files.{FilesView, by_file}
use Rattle.tq_tables.proofs.Kept.{are-files, are-rows, put-entries, Apart-with_row, of_tree-with_row}
use Rattle.tq_tables.proofs.file_table.FileTable.put.Goals as goal

pub invariant_of-self : goal.invariant_of-self
invariant_of-self c =
    let rows = map (λ entry. entry.1) c.self.inside.rows.entries in
    let entries = rw c.unwrap-replaced.ensures at c.insert.ensures.entries in
    let are : c.insert.new.self.entries ≡ by_file (spec.with_row rows c.args.row) =
    entries ∙ ap (λ es. insert_entry same_name es c.args.row.file c.args.row) c.self.invariant.named ∙ put-entries rows c.args.row in
    let levels : c.args.self.now.levels ≡ c.self.inside.levels = ap (λ (v : FilesView). v.levels) (sym c.self.view_is) in
    are-files c.self.inside.levels c.insert.new.self.entries (spec.with_row rows c.args.row) are (Apart-with_row rows c.args.row c.self.invariant.apart)
    (of_tree-with_row c.self.inside.levels rows c.args.row c.self.invariant.of_tree (c.requires.of_tree.0 ∙ levels, c.requires.of_tree.1 ∙ levels))

pub returns-clause-rows : goal.returns-clause-rows
returns-clause-rows c =
    let rows = map (λ entry. entry.1) c.self.inside.rows.entries in
    let entries = rw c.unwrap-replaced.ensures at c.insert.ensures.entries in
    let are : c.insert.new.self.entries ≡ by_file (spec.with_row rows c.args.row) =
    entries ∙ ap (λ es. insert_entry same_name es c.args.row.file c.args.row) c.self.invariant.named ∙ put-entries rows c.args.row in
    are-rows c.insert.new.self.entries (spec.with_row rows c.args.row) are ∙ ap (λ (v : FilesView). spec.with_row v.rows c.args.row) c.self.view_is
