-- Lists of names in which none stands twice. Rows that are kept under the names of their files.
use Rattle.std.specs.{Prelude.{◌||◌, ◌&&◌, not}, Cmp.Lexicographic.texts_ties, FinMap.{is_sorted, Entries.below_all}}
use Rattle.std.specs.{Ordering.{is_lt, is_eq}, declared.cmp.Ordering.{Ordering, TheVariants.{Less, Equal, Greater}}}
use Rattle.std.proofs.Common.{◌≡◌, ℕ, Bool, true, false, cond, List, [], ◌∷◌, ◌++◌, map, filter, refl, ap, sym, ◌∙◌, get_or, Some, None, is_some, subst}
use Rattle.std.proofs.{lemmas.List.Folds.list_any-append, Math.Bool.and-false}
use lib.Dec.{T}
use mathlib.Core.Bool.{true≢false}
use Rattle.std.specs.FinMap as fin
use Rattle.tq_store.specs.{Copies.name_cmp, Names.same_name}
use Rattle.tq_store.proofs.Padded.{same_name-is, same_name-refl, same_name-sym}
pub use Rattle.std.proofs.{Math.Bool.{or-false, or-true, or_comm}, lemmas.{Bool.or_parts, List.Elements.filter_agree}}
pub use Rattle.tq_tables.specs.Rows.{is_in, Apart}
use mathlib.Core.List.{map-map}
use Rattle.std.specs.{List.{All, list_any}, Map.lookup, Option.unwrap_or}
use Rattle.std.proofs.lemmas.{List.{append-nil, append_assoc, map-id}, Map.Made.is_some-lookup}
use Rattle.std.proofs.lemmas.List.Elements.{All-nil, All-cons, All-head, All-map, All-tail}
use Rattle.indexmap.specs.IndexMap.{insert_entry}
use Rattle.tq_node.specs.Node.{NodeView}
use Rattle.tq_tables.specs.{declared.file_row.FileRow.FileRow, Rows.{count_in, version_of, has_version, row_at}}
use Rattle.tq_tables.specs.Files.{AreExact, AreFiles, AreOfLevels, all_stood, row_after_move, names_in, row_in, row_by_copy, stood_at, version_in, with_row, with_rows, IsOfLevels, by_file}

-- ---- booleans

pub either : (a b : Bool) → (a || (not a && b)) ≡ (a || b)
either true b = refl
either false b = refl

-- a name that stands there differs from one that does not
pub differ : (names : List (List ℕ)) (absent there : List ℕ) → is_in absent names ≡ false → is_in there names ≡ true → same_name absent there ≡ false
differ names absent there none one = by (same_name absent there) refl
  where
    by : (b : Bool) → same_name absent there ≡ b → same_name absent there ≡ false
    by false s = s
    by true s = absurd (true≢false (sym one ∙ ap (λ (o : List ℕ). is_in o names) (sym (same_name-is absent there s)) ∙ none))

-- ---- filters

-- a filter by names that keeps those that are not in a list
abbrev pub without : List (List ℕ) → List (List ℕ) → List (List ℕ)
without old names = filter (λ name. not (is_in name old)) names

-- a name that does not stand in the names makes no difference
pub without-more : (old : List (List ℕ)) (one : List ℕ) (names : List (List ℕ)) → is_in one names ≡ false → without (old ++ one ∷ []) names ≡ without old names
without-more old one [] apart = refl
without-more old one (name ∷ names) apart =
    let both = or_parts (same_name one name) (is_in one names) apart in
    let here : is_in name (old ++ one ∷ []) ≡ is_in name old =
    list_any-append (same_name name) old (one ∷ [])
    ∙ ap (λ b. is_in name old || (b || false)) (same_name-sym name one ∙ both.0)
    ∙ or-false (is_in name old) in
    ap (λ b. cond (not b) (name ∷ without (old ++ one ∷ []) names) (without (old ++ one ∷ []) names)) here
    ∙ ap (λ rest. cond (not (is_in name old)) (name ∷ rest) rest) (without-more old one names both.1)

-- a filter by a test of the name
pub is_in-filter : (p : List ℕ → Bool) (name : List ℕ) (names : List (List ℕ)) → is_in name (filter p names) ≡ (p name && is_in name names)
is_in-filter p name [] = sym (and-false (p name))
is_in-filter p name (other ∷ names) = by (same_name name other) refl (p other) refl (is_in-filter p name names)
  where
    by : (s : Bool) → same_name name other ≡ s → (b : Bool) → p other ≡ b → is_in name (filter p names) ≡ (p name && is_in name names)
        → is_in name (cond b (other ∷ filter p names) (filter p names)) ≡ (p name && (same_name name other || is_in name names))
    by true s true b ih =
        let same = same_name-is name other s in
        ap (λ c. c || is_in name (filter p names)) s
        ∙ sym (ap (λ c. p name && (c || is_in name names)) s ∙ ap (λ c. c && true) (ap p same ∙ b))
    by true s false b ih =
        let same = same_name-is name other s in
        let none : p name ≡ false = ap p same ∙ b in
        ih ∙ ap (λ c. c && is_in name names) none ∙ sym (ap (λ c. c && (same_name name other || is_in name names)) none)
    by false s true b ih = ap (λ c. c || is_in name (filter p names)) s ∙ ih ∙ sym (ap (λ c. p name && (c || is_in name names)) s)
    by false s false b ih = ih ∙ sym (ap (λ c. p name && (c || is_in name names)) s)

pub Apart-filter : (p : List ℕ → Bool) (names : List (List ℕ)) → Apart names → Apart (filter p names)
Apart-filter p [] apart = tt
Apart-filter p (name ∷ names) apart = by (p name) refl (Apart-filter p names apart.1)
  where
    by : (b : Bool) → p name ≡ b → Apart (filter p names) → Apart (cond b (name ∷ filter p names) (filter p names))
    by false b rest = rest
    by true b rest = (is_in-filter p name names ∙ ap (λ c. c && is_in name names) b ∙ apart.0, rest)

-- names apart, and others apart of which none is among them
pub Apart-append : (a b : List (List ℕ)) → Apart a → Apart b → ((name : List ℕ) → is_in name a ≡ true → is_in name b ≡ false) → Apart (a ++ b)
Apart-append [] b first second none = second
Apart-append (name ∷ a) b first second none = (
  list_any-append (same_name name) a b
      ∙ ap (λ c. c || is_in name b) first.0
      ∙ none name (ap (λ c. c || is_in name a) (same_name-refl name)),
  Apart-append a b first.1 second (λ other there. none other (ap (λ c. same_name other name || c) there ∙ or-true (same_name other name))),
)

-- ---- the names of a set

not_Equal : (r : Ordering) → T (is_lt r) → is_eq r ≡ false
not_Equal Less h = refl
not_Equal Equal h = absurd h
not_Equal Greater h = absurd h

and_parts : (a b : Bool) → T (a && b) → T a × T b
and_parts true b h = (tt, h)
and_parts false b h = absurd h

module _ {X : Type 0} where
  below-apart : (name : List ℕ) (es : List (List ℕ × X)) → T (below_all name_cmp name es) → is_in name (map (λ e. e.0) es) ≡ false
  below-apart name [] below = refl
  below-apart name (e ∷ es) below =
      let both = and_parts (is_lt (name_cmp name e.0)) (below_all name_cmp name es) below in
      ap (λ b. b || is_in name (map (λ e. e.0) es)) (texts_ties name e.0 ∙ not_Equal (name_cmp name e.0) both.0)
      ∙ below-apart name es both.1

  sorted-apart : (es : List (List ℕ × X)) → T (is_sorted name_cmp es) → Apart (map (λ e. e.0) es)
  sorted-apart [] sorted = tt
  sorted-apart (e ∷ es) sorted =
      let both = and_parts (below_all name_cmp e.0 es) (is_sorted name_cmp es) sorted in
      (below-apart e.0 es both.0, sorted-apart es both.1)

  pub Apart-keys : (m : fin.FinMap name_cmp X) → Apart (fin.keys m)
  Apart-keys m = sorted-apart (fin.entries m) (fin.entries_sorted m)

-- ---- kept

-- ---- rows by their names

rows-by_file : (rows : List FileRow) → map (λ entry. entry.1) (by_file rows) ≡ rows
rows-by_file rows = map-map (λ (entry : List ℕ × FileRow). entry.1) (λ (row : FileRow). (row.file, row)) rows ∙ map-id rows

pub are-files : (levels : ℕ) (entries : List (List ℕ × FileRow)) (rows : List FileRow) → entries ≡ by_file rows → Apart (names_in rows) → AreOfLevels levels rows → AreFiles levels entries
are-files levels entries rows is apart of_tree =
    let same : map (λ entry. entry.1) entries ≡ rows = ap (map (λ entry. entry.1)) is ∙ rows-by_file rows in
    record {
      named = is ∙ sym (ap by_file same);
      apart = subst (λ (r : List FileRow). Apart (names_in r)) (sym same) apart;
      of_tree = subst (λ (r : List FileRow). AreOfLevels levels r) (sym same) of_tree;
    }

pub are-rows : (entries : List (List ℕ × FileRow)) (rows : List FileRow) → entries ≡ by_file rows → map (λ entry. entry.1) entries ≡ rows
are-rows entries rows is = ap (map (λ entry. entry.1)) is ∙ rows-by_file rows

-- ---- a row that comes

pub put-entries : (rows : List FileRow) (row : FileRow) → insert_entry same_name (by_file rows) row.file row ≡ by_file (with_row rows row)
put-entries [] row = refl
put-entries (first ∷ rows) row = by (same_name row.file first.file) refl (put-entries rows row)
  where
    by : (b : Bool) → same_name row.file first.file ≡ b → insert_entry same_name (by_file rows) row.file row ≡ by_file (with_row rows row)
        → cond b ((first.file, row) ∷ by_file rows) ((first.file, first) ∷ insert_entry same_name (by_file rows) row.file row) ≡ by_file (cond b (row ∷ rows) (first ∷ with_row rows row))
    by true s rest = λ i. (sym (same_name-is row.file first.file s) i, row) ∷ by_file rows
    by false s rest = λ i. (first.file, first) ∷ rest i

is_in-with_row : (other : List ℕ) (rows : List FileRow) (row : FileRow) → is_in other (names_in rows) ≡ false → same_name other row.file ≡ false → is_in other (names_in (with_row rows row)) ≡ false
is_in-with_row other [] row none differs = ap (λ (b : Bool). b || false) differs
is_in-with_row other (first ∷ rows) row none differs =
    let both = or_parts (same_name other first.file) (is_in other (names_in rows)) none in
    by (same_name row.file first.file) both.0 both.1 (is_in-with_row other rows row both.1 differs)
  where
    by : (b : Bool) → same_name other first.file ≡ false → is_in other (names_in rows) ≡ false → is_in other (names_in (with_row rows row)) ≡ false
        → is_in other (names_in (cond b (row ∷ rows) (first ∷ with_row rows row))) ≡ false
    by true here rest all = (λ i. differs i || rest i)
    by false here rest all = (λ i. here i || all i)

pub Apart-with_row : (rows : List FileRow) (row : FileRow) → Apart (names_in rows) → Apart (names_in (with_row rows row))
Apart-with_row [] row apart = (refl, tt)
Apart-with_row (first ∷ rows) row apart = by (same_name row.file first.file) refl (Apart-with_row rows row apart.1)
  where
    by : (b : Bool) → same_name row.file first.file ≡ b → Apart (names_in (with_row rows row)) → Apart (names_in (cond b (row ∷ rows) (first ∷ with_row rows row)))
    by true s rest = (ap (λ (o : List ℕ). is_in o (names_in rows)) (same_name-is row.file first.file s) ∙ apart.0, apart.1)
    by false s rest = (is_in-with_row first.file rows row apart.0 (same_name-sym first.file row.file ∙ s), rest)

pub of_tree-with_row : (levels : ℕ) (rows : List FileRow) (row : FileRow) → AreOfLevels levels rows → IsOfLevels levels row → AreOfLevels levels (with_row rows row)
of_tree-with_row levels [] row of_tree is = All-cons (IsOfLevels levels) row [] is (All-nil (IsOfLevels levels))
of_tree-with_row levels (first ∷ rows) row of_tree is = by (same_name row.file first.file) (of_tree-with_row levels rows row (All-tail (IsOfLevels levels) first rows of_tree) is)
  where
    by : (b : Bool) → AreOfLevels levels (with_row rows row) → AreOfLevels levels (cond b (row ∷ rows) (first ∷ with_row rows row))
    by true rest = All-cons (IsOfLevels levels) row rows is (All-tail (IsOfLevels levels) first rows of_tree)
    by false rest = All-cons (IsOfLevels levels) first (with_row rows row) (All-head (IsOfLevels levels) first rows of_tree) rest

-- ---- a server that stands in a row

pub stood-file : (node : NodeView) (row : FileRow) → (row_by_copy node row).file ≡ row.file
stood-file node row = by (has_version row.file row.version node)
  where
    by : (b : Bool) → (row_after_move b node.server row).file ≡ row.file
    by true = refl
    by false = refl

pub stood-levels : (levels : ℕ) (node : NodeView) (row : FileRow) → IsOfLevels levels row → IsOfLevels levels (row_by_copy node row)
stood-levels levels node row has = by (has_version row.file row.version node)
  where
    by : (b : Bool) → IsOfLevels levels (row_after_move b node.server row)
    by true = has
    by false = has

stood_at-file : (node : NodeView) (file : List ℕ) (row : FileRow) → (stood_at node file row).file ≡ row.file
stood_at-file node file row = by (same_name file row.file)
  where
    by : (b : Bool) → (cond b (row_by_copy node row) row).file ≡ row.file
    by true = stood-file node row
    by false = refl

stood_at-levels : (levels : ℕ) (node : NodeView) (file : List ℕ) (row : FileRow) → IsOfLevels levels row → IsOfLevels levels (stood_at node file row)
stood_at-levels levels node file row has = by (same_name file row.file)
  where
    by : (b : Bool) → IsOfLevels levels (cond b (row_by_copy node row) row)
    by true = stood-levels levels node row has
    by false = has

pub names-stood : (node : NodeView) (file : List ℕ) (rows : List FileRow) → names_in (map (stood_at node file) rows) ≡ names_in rows
names-stood node file [] = refl
names-stood node file (row ∷ rows) = λ i. stood_at-file node file row i ∷ names-stood node file rows i

pub Apart-stood : (node : NodeView) (file : List ℕ) (rows : List FileRow) → Apart (names_in rows) → Apart (names_in (map (stood_at node file) rows))
Apart-stood node file rows apart = subst Apart (sym (names-stood node file rows)) apart

pub of_tree-stood : (levels : ℕ) (node : NodeView) (file : List ℕ) (rows : List FileRow) → AreOfLevels levels rows → AreOfLevels levels (map (stood_at node file) rows)
of_tree-stood levels node file rows of_tree =
    All-map (IsOfLevels levels) (stood_at node file) rows (λ k d h. stood_at-levels levels node file (get_or rows k d) (of_tree k d h))

-- where the file has no row, none changes
pub absent-stood : (node : NodeView) (file : List ℕ) (rows : List FileRow) → is_in file (names_in rows) ≡ false → map (stood_at node file) rows ≡ rows
absent-stood node file [] none = refl
absent-stood node file (row ∷ rows) none =
    let both = or_parts (same_name file row.file) (is_in file (names_in rows)) none in
    λ i. cond (both.0 i) (row_by_copy node row) row ∷ absent-stood node file rows both.1 i

-- a file has a row where one is found
pub has_row-found : (file : List ℕ) (rows : List FileRow) → is_some (lookup (same_name file) (by_file rows)) ≡ is_in file (names_in rows)
has_row-found file rows = is_some-lookup (same_name file) (by_file rows) ∙ ap (list_any (same_name file)) (map-map (λ (entry : List ℕ × FileRow). entry.0) (λ (row : FileRow). (row.file, row)) rows)

pub no_row : (file : List ℕ) (rows : List FileRow) → lookup (same_name file) (by_file rows) ≡ None → is_in file (names_in rows) ≡ false
no_row file rows none = sym (has_row-found file rows) ∙ ap (λ o. is_some o) none

-- ---- the row that is found

-- what holds of each row holds of the one of a file, and it is the file's
row-found : (P : FileRow → Type 0) (rows : List FileRow) (file : List ℕ) (row : FileRow) → All P rows → row_in rows file ≡ Some row → P row × (row.file ≡ file)
row-found P [] file row all found = cc
row-found P (first ∷ rows) file row all found = by (same_name file first.file) refl found (λ rest. row-found P rows file row (All-tail P first rows all) rest)
  where
    by : (b : Bool) → same_name file first.file ≡ b → cond b (Some first) (row_in rows file) ≡ Some row → (row_in rows file ≡ Some row → P row × (row.file ≡ file)) → P row × (row.file ≡ file)
    by true s h rest =
        let is : first ≡ row = ap (λ o. unwrap_or o first) h in
        (subst P is (All-head P first rows all), ap (λ (r : FileRow). r.file) (sym is) ∙ sym (same_name-is file first.file s))
    by false s h rest = rest h

pub file-found : (file : List ℕ) (rows : List FileRow) (row : FileRow) → lookup (same_name file) (by_file rows) ≡ Some row → row.file ≡ file
file-found file rows row found = let both = row-found (λ (r : FileRow). Unit {0}) rows file row (λ k d h. tt) found in both.1

pub exact-found : (levels : ℕ) (nodes : List NodeView) (rows : List FileRow) (file : List ℕ) (row : FileRow) → AreExact levels nodes rows → Some row ≡ row_in rows file
    → (row ≡ row_at levels nodes row.file row.version) × (row.file ≡ file)
exact-found levels nodes rows file row exact found =
    row-found (λ (r : FileRow). r ≡ row_at levels nodes r.file r.version) rows file row exact (sym found)

-- ---- the version that a row says

lookup-version : (file : List ℕ) (rows : List FileRow) → count_in (map version_of rows) file ≡ unwrap_or (Rattle.std.specs.Option.option_map (λ (row : FileRow). row.version) (lookup (same_name file) (by_file rows))) 0
lookup-version file [] = refl
lookup-version file (row ∷ rows) = by (same_name file row.file) (lookup-version file rows)
  where
    by : (b : Bool) → count_in (map version_of rows) file ≡ unwrap_or (Rattle.std.specs.Option.option_map (λ (r : FileRow). r.version) (lookup (same_name file) (by_file rows))) 0
        → unwrap_or (cond b (Some row.version) (lookup (same_name file) (map version_of rows))) 0 ≡ unwrap_or (Rattle.std.specs.Option.option_map (λ (r : FileRow). r.version) (cond b (Some row) (lookup (same_name file) (by_file rows)))) 0
    by true rest = refl
    by false rest = rest

pub version-some : (file : List ℕ) (rows : List FileRow) (row : FileRow) → lookup (same_name file) (by_file rows) ≡ Some row → row.version ≡ version_in rows file
version-some file rows row found = sym (lookup-version file rows ∙ ap (λ o. unwrap_or (Rattle.std.specs.Option.option_map (λ (r : FileRow). r.version) o) 0) found)

pub version-none : (file : List ℕ) (rows : List FileRow) → lookup (same_name file) (by_file rows) ≡ None → 0 ≡ version_in rows file
version-none file rows none = sym (lookup-version file rows ∙ ap (λ o. unwrap_or (Rattle.std.specs.Option.option_map (λ (r : FileRow). r.version) o) 0) none)

-- ---- one file more

pub all_stood-append : (node : NodeView) (rows : List FileRow) (files : List (List ℕ)) (file : List ℕ) → all_stood node rows (files ++ file ∷ []) ≡ map (stood_at node file) (all_stood node rows files)
all_stood-append node rows [] file = refl
all_stood-append node rows (first ∷ files) file = all_stood-append node (map (stood_at node first) rows) files file

-- ---- rows put where there is none of their files

with_row-new : (rows : List FileRow) (row : FileRow) → is_in row.file (names_in rows) ≡ false → with_row rows row ≡ rows ++ row ∷ []
with_row-new [] row none = refl
with_row-new (first ∷ rows) row none =
    let both = or_parts (same_name row.file first.file) (is_in row.file (names_in rows)) none in
    ap (λ (b : Bool). cond b (row ∷ rows) (first ∷ with_row rows row)) both.0 ∙ ap (λ (rest : List FileRow). first ∷ rest) (with_row-new rows row both.1)

still-fresh : (other : List ℕ) (done : List FileRow) (row : FileRow) → is_in other (names_in done) ≡ false → same_name other row.file ≡ false → is_in other (names_in (done ++ row ∷ [])) ≡ false
still-fresh other [] row none differs = ap (λ (b : Bool). b || false) differs
still-fresh other (first ∷ done) row none differs =
    let both = or_parts (same_name other first.file) (is_in other (names_in done)) none in
    λ i. both.0 i || still-fresh other done row both.1 differs i

with_rows-from : (done rows : List FileRow) → ((name : List ℕ) → is_in name (names_in rows) ≡ true → is_in name (names_in done) ≡ false) → Apart (names_in rows) → with_rows done rows ≡ done ++ rows
with_rows-from done [] fresh apart = sym (append-nil done)
with_rows-from done (row ∷ rows) fresh apart =
    ap (λ (all : List FileRow). with_rows all rows) (with_row-new done row (fresh row.file (ap (λ (b : Bool). b || is_in row.file (names_in rows)) (same_name-refl row.file))))
    ∙ with_rows-from (done ++ row ∷ []) rows still apart.1
    ∙ append_assoc done (row ∷ []) rows
  where
    still : (other : List ℕ) → is_in other (names_in rows) ≡ true → is_in other (names_in (done ++ row ∷ [])) ≡ false
    still other there =
        still-fresh other done row (fresh other (ap (λ (b : Bool). same_name other row.file || b) there ∙ or-true (same_name other row.file)))
        (same_name-sym other row.file ∙ differ (names_in rows) row.file other apart.0 there)

-- rows of files apart stand as they came
pub with_rows-apart : (rows : List FileRow) → Apart (names_in rows) → with_rows [] rows ≡ rows
with_rows-apart rows apart = with_rows-from [] rows (λ name there. refl) apart
