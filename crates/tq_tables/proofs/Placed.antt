-- A row that is found by its place.
use Rattle.std.specs.{Prelude.{◌||◌, slice_get}, Map.lookup, Option.unwrap_or}
use Rattle.std.proofs.Common.{◌≡◌, ℕ, zero, suc, Bool, true, false, cond, List, [], ◌∷◌, map, Option, Some, None, is_some, true≢false, refl, ap, sym, subst, ◌∙◌}
use Rattle.std.proofs.lemmas.{List.Elements.{All-head, All-tail}, Option.same_Some}
use Rattle.indexmap.specs.IndexMap.{set_value_at}
use Rattle.tq_store.{specs.Names.same_name, proofs.Padded.{same_name-is, same_name-refl}}
use Rattle.tq_node.specs.Node.{NodeView}
use Rattle.tq_tables.specs.{declared.file_row.FileRow.FileRow, Rows.{is_in, Apart}}
use Rattle.tq_tables.specs.Files.{AreFiles, AreOfLevels, names_in, row_by_copy, stood_at, IsOfLevels, by_file, HasRowAt}
use Rattle.tq_tables.proofs.Kept.{file-found, absent-stood, stood-file}

-- ---- an entry by its place

-- what a value at a place says of the entry there
pub value-at : (entries : List (List ℕ × FileRow)) (place : ℕ) (value : FileRow) → slice_get (map (λ entry. entry.1) entries) place ≡ Some value → (name : List ℕ) × (slice_get entries place ≡ Some (name, value))
value-at [] zero value at = absurd (cc)
value-at [] (suc place) value at = absurd (cc)
value-at (first ∷ entries) zero value at =
    let same : first.1 ≡ value = ap (λ o. unwrap_or o value) at in
    (first.0, λ i. Some (first.0, same i))
value-at (first ∷ entries) (suc place) value at = value-at entries place value at

-- where there is no value there is no entry
pub no-value-at : (entries : List (List ℕ × FileRow)) (place : ℕ) (entry : List ℕ × FileRow) → slice_get (map (λ e. e.1) entries) place ≡ None → slice_get entries place ≡ Some entry → ⊥
no-value-at [] zero entry none at = absurd (cc)
no-value-at [] (suc place) entry none at = absurd (cc)
no-value-at (first ∷ entries) zero entry none at = absurd (cc)
no-value-at (first ∷ entries) (suc place) entry none at = no-value-at entries place entry none at

-- the value that is there, put there again
pub set-same : (entries : List (List ℕ × FileRow)) (place : ℕ) (value : FileRow) → slice_get (map (λ e. e.1) entries) place ≡ Some value → set_value_at entries place value ≡ entries
set-same [] place value at = refl
set-same (first ∷ entries) zero value at =
    let same : first.1 ≡ value = ap (λ o. unwrap_or o value) at in
    ap (λ (v : FileRow). (first.0, v) ∷ entries) (sym same)
set-same (first ∷ entries) (suc place) value at = ap (λ es. first ∷ es) (set-same entries place value at)

module _ (file : List ℕ) (row : FileRow) where
  -- it is a row of the file, of the tree
  pub at-row : (levels : ℕ) (rows : List FileRow) (place : ℕ) → AreOfLevels levels rows → slice_get (by_file rows) place ≡ Some (file, row) → (row.file ≡ file) × IsOfLevels levels row
  at-row levels [] zero of_tree at = absurd (cc)
  at-row levels [] (suc place) of_tree at = absurd (cc)
  at-row levels (first ∷ rows) zero of_tree at =
      let is = same_Some (first.file, first) (file, row) at in
      let same : first ≡ row = ap (λ (p : List ℕ × FileRow). p.1) is in
      (ap (λ (r : FileRow). r.file) (sym same) ∙ ap (λ (p : List ℕ × FileRow). p.0) is, subst (IsOfLevels levels) same (All-head (IsOfLevels levels) first rows of_tree))
  at-row levels (first ∷ rows) (suc place) of_tree at = at-row levels rows place (All-tail (IsOfLevels levels) first rows of_tree) at

  pub named-at : (rows : List FileRow) (place : ℕ) → slice_get (by_file rows) place ≡ Some (file, row) → is_in file (names_in rows) ≡ true
  named-at [] zero at = absurd (cc)
  named-at [] (suc place) at = absurd (cc)
  named-at (first ∷ rows) zero at =
      let is = same_Some (first.file, first) (file, row) at in
      let name : first.file ≡ file = ap (λ (p : List ℕ × FileRow). p.0) is in
      ap (λ b. b || is_in file (names_in rows)) (ap (same_name file) name ∙ same_name-refl file)
  named-at (first ∷ rows) (suc place) at = by (same_name file first.file) (named-at rows place at)
    where
      by : (b : Bool) → is_in file (names_in rows) ≡ true → (b || is_in file (names_in rows)) ≡ true
      by true rest = refl
      by false rest = rest

  -- the server stands in that row alone
  pub stand-placed : (node : NodeView) (rows : List FileRow) (place : ℕ) → Apart (names_in rows) → slice_get (by_file rows) place ≡ Some (file, row)
      → set_value_at (by_file rows) place (row_by_copy node row) ≡ by_file (map (stood_at node file) rows)
  stand-placed node [] zero apart at = absurd (cc)
  stand-placed node [] (suc place) apart at = absurd (cc)
  stand-placed node (first ∷ rows) zero apart at =
      let is = same_Some (first.file, first) (file, row) at in
      let same : first ≡ row = ap (λ (p : List ℕ × FileRow). p.1) is in
      let name : first.file ≡ file = ap (λ (p : List ℕ × FileRow). p.0) is in
      let here : same_name file first.file ≡ true = ap (same_name file) name ∙ same_name-refl file in
      let none : is_in file (names_in rows) ≡ false = ap (λ (o : List ℕ). is_in o (names_in rows)) (sym name) ∙ apart.0 in
      let stands : stood_at node file first ≡ row_by_copy node row = ap (λ b. cond b (row_by_copy node first) first) here ∙ ap (row_by_copy node) same in
      (λ i. (first.file, row_by_copy node row) ∷ by_file (sym (absent-stood node file rows none) i))
      ∙ (λ i. (sym (stood-file node first) i, row_by_copy node row) ∷ by_file (map (stood_at node file) rows))
      ∙ ap (λ (r : FileRow). ((row_by_copy node first).file, r) ∷ by_file (map (stood_at node file) rows)) (sym stands)
      ∙ ap (λ (n : List ℕ). (n, stood_at node file first) ∷ by_file (map (stood_at node file) rows)) (ap (λ (r : FileRow). r.file) (ap (row_by_copy node) same ∙ sym stands))
  stand-placed node (first ∷ rows) (suc place) apart at =
      let there = named-at rows place at in
      by (same_name file first.file) refl (stand-placed node rows place apart.1 at)
    where
      by : (b : Bool) → same_name file first.file ≡ b → set_value_at (by_file rows) place (row_by_copy node row) ≡ by_file (map (stood_at node file) rows)
          → (first.file, first) ∷ set_value_at (by_file rows) place (row_by_copy node row) ≡ ((cond b (row_by_copy node first) first).file, cond b (row_by_copy node first) first) ∷ by_file (map (stood_at node file) rows)
      by true s rest = absurd (
          let other : is_in file (names_in rows) ≡ false = ap (λ (o : List ℕ). is_in o (names_in rows)) (same_name-is file first.file s) ∙ apart.0 in
          let there = named-at rows place at in cc)
      by false s rest = λ i. (first.file, first) ∷ rest i

-- the same of entries that are kept under the names of their files
pub placed : (levels : ℕ) (entries : List (List ℕ × FileRow)) (place : ℕ) (file : List ℕ) (row : FileRow) → AreFiles levels entries → slice_get entries place ≡ Some (file, row) → (row.file ≡ file) × IsOfLevels levels row
placed levels entries place file row are at = at-row file row levels (map (λ entry. entry.1) entries) place are.of_tree (ap (λ es. slice_get es place) (sym are.named) ∙ at)

pub stand-entries-placed : (levels : ℕ) (node : NodeView) (entries : List (List ℕ × FileRow)) (place : ℕ) (file : List ℕ) (row : FileRow) → AreFiles levels entries → slice_get entries place ≡ Some (file, row)
    → set_value_at entries place (row_by_copy node row) ≡ by_file (map (stood_at node file) (map (λ entry. entry.1) entries))
stand-entries-placed levels node entries place file row are at =
    ap (λ es. set_value_at es place (row_by_copy node row)) are.named
    ∙ stand-placed file row node (map (λ entry. entry.1) entries) place are.apart (ap (λ es. slice_get es place) (sym are.named) ∙ at)

-- where the entry of the file is found at the place, its row stands there
pub found-there : (levels : ℕ) (file : List ℕ) (rows : List FileRow) (place : ℕ) → AreOfLevels levels rows → slice_get (map (λ entry. entry.1) (by_file rows)) place ≡ lookup (same_name file) (by_file rows)
    → true ≡ is_some (lookup (same_name file) (by_file rows)) → HasRowAt (by_file rows) place file
found-there levels file rows place of_tree at some = by (lookup (same_name file) (by_file rows)) refl at some
  where
    by : (o : Option FileRow) → lookup (same_name file) (by_file rows) ≡ o → slice_get (map (λ entry. entry.1) (by_file rows)) place ≡ o → true ≡ is_some o → HasRowAt (by_file rows) place file
    by None found at some = absurd (true≢false some)
    by (Some row) found at some =
        let there = value-at (by_file rows) place row at in
        let name : there.0 ≡ file = sym (at-row there.0 row levels rows place of_tree there.1).0 ∙ file-found file rows row found in
        (row, there.1 ∙ ap (λ (n : List ℕ). Some (n, row)) name)
