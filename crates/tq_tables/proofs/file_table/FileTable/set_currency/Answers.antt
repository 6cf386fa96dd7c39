use Rattle.std.specs.{Prelude.{slice_get, IfSome}, Map.lookup}
use Rattle.std.proofs.{Common.{◌≡◌, ◌∙◌, ℕ, List, Option, is_some, map, ap, subst, sym, true}, lemmas.Bool.OnTrue_at}
use Rattle.indexmap.proofs.MapLemmas.{value_index}
use Rattle.tq_store.specs.Names.{same_name}
use Rattle.tq_tables.specs.{Files.{has_row, FilesView, stood_at}, declared.file_row.FileRow.FileRow}
use Rattle.tq_tables.proofs.{Kept.{absent-stood, has_row-found}, Placed.found-there}
use Rattle.tq_tables.proofs.file_table.FileTable.set_currency.Goals as goal

-- the row that is found is the file's
is-found : (c : goal.After-set_currency_at) → c.set_currency_at.result ≡ true
is-found c =
    let file = c.args.file.now in
    let place = c.in-Some.place in
    let entries = c.self.inside.rows.entries in
    let value : slice_get (map (λ entry. entry.1) entries) place ≡ lookup (same_name file) entries =
    subst (λ (o : Option ℕ). IfSome o (λ at. slice_get (map (λ entry. entry.1) entries) at ≡ lookup (same_name file) entries)) (sym c.in-Some.ensures.index) (value_index (same_name file) entries) in
    c.set_currency_at.ensures.there (found-there c.self.inside.levels file (map (λ entry. entry.1) entries) place c.self.invariant.of_tree
    (subst (λ (es : List (List ℕ × FileRow)). slice_get (map (λ entry. entry.1) es) place ≡ lookup (same_name file) es) c.self.invariant.named value)
    (c.in-Some.ensures.found ∙ ap (λ es. is_some (lookup (same_name file) es)) c.self.invariant.named))

pub returns-clause-found : goal.returns-clause-found
returns-clause-found c =
    is-found c ∙ sym (OnTrue_at (is-found c) c.set_currency_at.ensures.found) ∙ ap (λ (v : FilesView). has_row v.rows c.args.file.now) c.self.view_is

pub returns-clause-rows : goal.returns-clause-rows
returns-clause-rows c =
    OnTrue_at (is-found c) c.set_currency_at.ensures.rows ∙ ap (λ (v : FilesView). map (stood_at c.args.node.now c.args.file.now) v.rows) c.self.view_is

pub returns-in_default-clause-found : goal.returns-in_default-clause-found
returns-in_default-clause-found c =
    let file = c.args.file.now in
    sym (ap (λ (o : Option ℕ). is_some o) c.in_default.is)
    ∙ c.get_index_of.ensures.found
    ∙ ap (λ es. is_some (lookup (same_name file) es)) c.self.invariant.named
    ∙ has_row-found file (map (λ entry. entry.1) c.self.inside.rows.entries)
    ∙ ap (λ (v : FilesView). has_row v.rows file) c.self.view_is

pub returns-in_default-clause-rows : goal.returns-in_default-clause-rows
returns-in_default-clause-rows c = sym (absent-stood c.args.node.now c.args.file.now c.args.self.now.rows (sym (returns-in_default-clause-found c)))
