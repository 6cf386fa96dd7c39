use Rattle.std.specs.{Prelude.slice_get, Bool.{OnFalse, OnTrue}}
use Rattle.std.proofs.Common.{◌≡◌, ◌∙◌, ℕ, Bool, true, false, List, Some, map, ap, subst, sym}
use Rattle.std.proofs.lemmas.Bool.{OnFalse_at, OnFalse_from, OnTrue_at, OnTrue_from}
use Rattle.tq_node.specs.Node.{NodeView}
use Rattle.tq_tables.specs.Files.{AreFiles, FilesView, IsFileAt, StandsAt, by_file, stood_at}
use Rattle.tq_tables.{specs.declared.file_row.FileRow.FileRow, proofs.Placed.{named-at, placed, stand-entries-placed}}
use Rattle.tq_tables.proofs.Kept.{are-files, are-rows, Apart-stood, of_tree-stood}
use Rattle.tq_tables.proofs.file_table.FileTable.set_currency_at.Goals as goal

module _ (levels place : ℕ) (file : List ℕ) (node : NodeView) (entries new : List (List ℕ × FileRow)) (are : AreFiles levels entries) where
  abbrev stood_rows : List FileRow
  stood_rows = map (stood_at node file) (map (λ entry. entry.1) entries)

  -- a row of the file stands under its name
  named : (there : IsFileAt entries place file) → slice_get entries place ≡ Some (file, there.1)
  named there = there.2 ∙ ap (λ (n : List ℕ). Some (n, there.1)) (sym (placed levels entries place there.0 there.1 are there.2).0 ∙ there.3)

  -- where the server stands in it, it does in the rows of the file
  stood : StandsAt entries new place file node → new ≡ by_file stood_rows
  stood it = it.4 ∙ stand-entries-placed levels node entries place file it.1 are (named (it.0, it.1, it.2, it.3))

  kept : (found : Bool) → OnTrue found (StandsAt entries new place file node) → OnFalse found (new ≡ entries) → AreFiles levels new
  kept true stands same = are-files levels new stood_rows (stood stands) (Apart-stood node file (map (λ entry. entry.1) entries) are.apart) (of_tree-stood levels node file (map (λ entry. entry.1) entries) are.of_tree)
  kept false stands same = subst (AreFiles levels) (sym same) are

pub set_currency_in-requires-clause-levels : goal.set_currency_in-requires-clause-levels
set_currency_in-requires-clause-levels c = λ name row at.
    let has = (placed c.self.inside.levels c.self.inside.rows.entries c.args.place name row c.self.invariant at).1 in
    let levels : c.args.node.now.levels ≡ c.self.inside.levels = c.requires.levels ∙ sym (ap (λ (v : FilesView). v.levels) c.self.view_is) in
    (levels ∙ sym has.0, levels ∙ sym has.1)

pub invariant_of-self : goal.invariant_of-self
invariant_of-self c =
    kept c.self.inside.levels c.args.place c.args.file.now c.args.node.now c.self.inside.rows.entries c.set_currency_in.new.rows.entries c.self.invariant
    c.set_currency_in.result c.set_currency_in.ensures.rows c.set_currency_in.ensures.other

pub returns-clause-rows : goal.returns-clause-rows
returns-clause-rows c =
    let entries = c.self.inside.rows.entries in
    let new = c.set_currency_in.new.rows.entries in
    let node = c.args.node.now in
    let file = c.args.file.now in
    OnTrue_from c.set_currency_in.result _ (λ found.
    are-rows new (map (stood_at node file) (map (λ entry. entry.1) entries)) (stood c.self.inside.levels c.args.place file node entries new c.self.invariant (OnTrue_at found c.set_currency_in.ensures.rows))
    ∙ ap (λ (v : FilesView). map (stood_at node file) v.rows) c.self.view_is)

pub returns-clause-other : goal.returns-clause-other
returns-clause-other c = OnFalse_from c.set_currency_in.result _ (λ other.
    ap (λ (es : List (List ℕ × FileRow)). map (λ entry. entry.1) es) (OnFalse_at other c.set_currency_in.ensures.other) ∙ ap (λ (v : FilesView). v.rows) c.self.view_is)

pub returns-clause-found : goal.returns-clause-found
returns-clause-found c = OnTrue_from c.set_currency_in.result _ (λ found.
    let it = OnTrue_at found c.set_currency_in.ensures.rows in
    let at = named c.self.inside.levels c.args.place c.args.file.now c.args.node.now c.self.inside.rows.entries c.set_currency_in.new.rows.entries c.self.invariant (it.0, it.1, it.2, it.3) in
    named-at c.args.file.now it.1 c.args.self.now.rows c.args.place
    (ap (λ es. slice_get es c.args.place) (sym (c.self.invariant.named ∙ ap (λ (v : FilesView). by_file v.rows) c.self.view_is)) ∙ at))

pub returns-clause-there : goal.returns-clause-there
returns-clause-there c = λ there.
    let at : slice_get c.self.inside.rows.entries c.args.place ≡ Some (c.args.file.now, there.0) =
    ap (λ es. slice_get es c.args.place) (c.self.invariant.named ∙ ap (λ (v : FilesView). by_file v.rows) c.self.view_is) ∙ there.1 in
    c.set_currency_in.ensures.there (c.args.file.now, there.0, at, (placed c.self.inside.levels c.self.inside.rows.entries c.args.place c.args.file.now there.0 c.self.invariant at).0)
