-- The rows of files with one commit more.
use Rattle.std.{specs.Prelude.◌||◌, proofs.lemmas.List.{map-id, Elements.All-map}}
use Rattle.std.proofs.Common.{◌≡◌, ℕ, ◌+◌, ◌<◌, ◌^◌, Bool, true, false, cond, List, [], ◌∷◌, length, map, refl, ap, sym, subst, ◌∙◌, arith}
use mathlib.Core.List.{map-map}
use mathlib.Core.Bool.{true≢false}
use Rattle.std.specs.FinMap as fin
use Rattle.indexmap.specs.IndexMap.{insert_entry}
use Rattle.tq_store.{specs.Names.same_name, proofs.Padded.{same_name-is, same_name-refl}}
use Rattle.tq_evidence.specs.declared.op.Op.{Op}
use Rattle.tq_desk.specs.{declared.ask.DeskAsk.DeskAsk, declared.ask.DeskReply.DeskReply, DeskStep.with_files}
use Rattle.tq_desk.specs.DeskJournal.{Commit, count, with_commit}
use Rattle.tq_desk.specs.declared.ask.DeskAsk.TheVariants as asks
use Rattle.tq_desk.specs.declared.ask.DeskReply.TheVariants as replies
use Rattle.tq_node.specs.Node.{NodeView}
use Rattle.tq_tables.specs.declared.file_row.FileRow.{FileRow}
use Rattle.tq_tables.specs.Rows.{count_in, commit_counts, names_of, version_of, with_each, with_one, is_in, Apart, file_rows, files_in, row_at}
use Rattle.tq_tables.specs.Files.{AreOfLevels, IsOfLevels, committed_ops, version_in, with_row, with_rows}
use Rattle.tq_tables.proofs.Counting.{is_in-names_of, count-most, count_in-counted, count_in-other, counted-more}
use Rattle.tq_tables.proofs.{Kept.{Apart-keys, differ, or-true}, RowLaws.rows-counted}

-- where no name is, there are none
no_names : (names : List (List ℕ)) → ((name : List ℕ) → is_in name names ≡ false) → names ≡ []
no_names [] none = refl
no_names (name ∷ names) none = absurd (true≢false (sym (ap (λ (b : Bool). b || is_in name names) (same_name-refl name)) ∙ none name))

no_ops : names_of [] ≡ []
no_ops = no_names (names_of []) (λ name. is_in-names_of name [])

module _ (levels : ℕ) (nodes : List NodeView) where
  -- the rows of files with a number each
  abbrev rows_of : List (List ℕ × ℕ) → List FileRow
  rows_of counts = map (λ (entry : List ℕ × ℕ). row_at levels nodes entry.0 entry.1) counts

  -- a row for each name, at the version that follows the one that these rows say
  abbrev pub rows_next : List FileRow → List (List ℕ) → List FileRow
  rows_next rows names = map (λ file. row_at levels nodes file (version_in rows file + 1)) names

  put-counted : (counts : List (List ℕ × ℕ)) (name : List ℕ) (k : ℕ) → with_row (rows_of counts) (row_at levels nodes name k) ≡ rows_of (insert_entry same_name counts name k)
  put-counted [] name k = refl
  put-counted (e ∷ counts) name k = by (same_name name e.0) refl (put-counted counts name k)
    where
      by : (b : Bool) → same_name name e.0 ≡ b → with_row (rows_of counts) (row_at levels nodes name k) ≡ rows_of (insert_entry same_name counts name k)
          → cond b (row_at levels nodes name k ∷ rows_of counts) (row_at levels nodes e.0 e.1 ∷ with_row (rows_of counts) (row_at levels nodes name k))
          ≡ rows_of (cond b ((e.0, k) ∷ counts) (e ∷ insert_entry same_name counts name k))
      by true s rest = ap (λ (file : List ℕ). row_at levels nodes file k ∷ rows_of counts) (same_name-is name e.0 s)
      by false s rest = ap (λ (rows : List FileRow). row_at levels nodes e.0 e.1 ∷ rows) rest

  versions-of : (counts : List (List ℕ × ℕ)) → map version_of (rows_of counts) ≡ counts
  versions-of counts = map-map version_of (λ (e : List ℕ × ℕ). row_at levels nodes e.0 e.1) counts ∙ map-id counts

  put-each : (n : List ℕ → ℕ) (counts : List (List ℕ × ℕ)) (names : List (List ℕ)) → Apart names → ((name : List ℕ) → is_in name names ≡ true → n name ≡ count_in counts name + 1)
      → with_rows (rows_of counts) (map (λ name. row_at levels nodes name (n name)) names) ≡ rows_of (with_each counts names)
  put-each n counts [] apart next = refl
  put-each n counts (name ∷ names) apart next =
      let here = next name (ap (λ (b : Bool). b || is_in name names) (same_name-refl name)) in
      ap (λ (rows : List FileRow). with_rows rows (map (λ file. row_at levels nodes file (n file)) names))
      (put-counted counts name (n name) ∙ ap (λ (k : ℕ). rows_of (insert_entry same_name counts name k)) here)
      ∙ put-each n (with_one counts name) names apart.1 still
    where
      still : (other : List ℕ) → is_in other names ≡ true → n other ≡ count_in (with_one counts name) other + 1
      still other there =
          next other (ap (λ (b : Bool). same_name other name || b) there ∙ or-true (same_name other name))
          ∙ ap (λ (k : ℕ). k + 1) (sym (count_in-other counts name other (differ names name other apart.0 there)))

  rows-are : (list : List Commit) → file_rows levels nodes list ≡ rows_of (commit_counts list)
  rows-are list = sym (rows-counted levels nodes (λ file. count file list) (files_in list))

  version-is : (list : List Commit) (file : List ℕ) → version_in (file_rows levels nodes list) file ≡ count_in (commit_counts list) file
  version-is list file = ap (λ (rows : List FileRow). version_in rows file) (rows-are list) ∙ ap (λ (counts : List (List ℕ × ℕ)). count_in counts file) (versions-of (commit_counts list))

  commit-rows : (commit : Commit) (list : List Commit) → with_rows (file_rows levels nodes list) (rows_next (file_rows levels nodes list) (names_of commit.ops)) ≡ file_rows levels nodes (commit ∷ list)
  commit-rows commit list =
      ap (λ (rows : List FileRow). with_rows rows (rows_next (file_rows levels nodes list) (names_of commit.ops))) (rows-are list)
      ∙ put-each (λ file. version_in (file_rows levels nodes list) file + 1) (commit_counts list) (names_of commit.ops) (Apart-keys (with_files fin.empty commit.ops))
      (λ name there. ap (λ (k : ℕ). k + 1) (version-is list name))
      ∙ ap rows_of (counted-more commit list)
      ∙ sym (rows-are (commit ∷ list))

  none-written : (list : List Commit) → with_rows (file_rows levels nodes list) (rows_next (file_rows levels nodes list) (names_of [])) ≡ file_rows levels nodes list
  none-written list = ap (λ (names : List (List ℕ)). with_rows (file_rows levels nodes list) (rows_next (file_rows levels nodes list) names)) no_ops

  -- the rows with those of the files that an entry's commit writes
  pub entry-rows : (ask : DeskAsk) (reply : DeskReply) (list : List Commit)
      → with_rows (file_rows levels nodes list) (rows_next (file_rows levels nodes list) (names_of (committed_ops ask reply))) ≡ file_rows levels nodes (with_commit ask reply list)
  entry-rows (asks.Commit txn ops votes) (replies.Committed serial) list = commit-rows (record { txn = txn; ops = ops; votes = votes }) list
  entry-rows (asks.Commit txn ops votes) (replies.Txn t) list = none-written list
  entry-rows (asks.Commit txn ops votes) (replies.Verdict v) list = none-written list
  entry-rows (asks.Commit txn ops votes) (replies.Refused r) list = none-written list
  entry-rows asks.Begin reply list = none-written list
  entry-rows (asks.Resolve txn) reply list = none-written list

  -- no version is above the number of the commits
  pub version-room : (list : List Commit) → length list + 1 < 2 ^ 64 → (file : List ℕ) → version_in (file_rows levels nodes list) file + 1 < 2 ^ 64
  version-room list few file =
      let most = count-most file list in
      subst (λ (k : ℕ). k + 1 < 2 ^ 64) (sym (version-is list file ∙ count_in-counted list file)) (omega (arith, most, few))

  pub of_tree-next : (rows : List FileRow) (names : List (List ℕ)) → AreOfLevels levels (rows_next rows names)
  of_tree-next rows names = All-map (IsOfLevels levels) (λ (file : List ℕ). row_at levels nodes file (version_in rows file + 1)) names (λ k d h. (refl, refl))

-- ---- no ops

pub names-none : (ops : List Op) → length ops < 1 → names_of ops ≡ []
names-none [] none = no_ops
names-none (op ∷ ops) none = absurd (omega (arith, none))
