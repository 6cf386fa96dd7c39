-- Commits counted one after another.
use Rattle.std.specs.{Prelude.{◌||◌, ◌&&◌, not}, Cmp.Lexicographic.texts_ties, List.{list_any, find}, Map.lookup}
use Rattle.std.{specs.Option.unwrap_or, proofs.lemmas.List.{append-nil, append_assoc, Folds.list_any-append}}
use Rattle.std.proofs.Common.{◌≡◌, ℕ, suc, ◌+◌, ◌≤◌, Bool, true, false, cond, List, [], ◌∷◌, ◌++◌, length, map, filter, Option, Some, None, is_some, add-zero, refl, ap, sym, ◌∙◌, arith}
use mathlib.Core.Bool.{true≢false}
use Rattle.std.specs.FinMap as fin
use Rattle.indexmap.specs.IndexMap.{insert_entry}
use Rattle.tq_store.specs.{Copies.name_cmp, Names.same_name}
use Rattle.tq_store.proofs.Padded.{same_name-is, same_name-refl, same_name-sym}
use Rattle.tq_evidence.specs.{declared.op.Op.Op, Evidence.writes_file}
use Rattle.tq_desk.specs.{declared.ask.{DeskAsk.DeskAsk, DeskReply.DeskReply}, DeskStep.with_files}
use Rattle.tq_desk.specs.DeskJournal.{Commit, DeskEntry, commits, count, count_one, with_commit}
use Rattle.tq_desk.{specs.DecisionLog.is_written, proofs.NewFiles.written-is}
use Rattle.tq_desk.specs.declared.ask.DeskAsk.TheVariants as asks
use Rattle.tq_desk.specs.declared.ask.DeskReply.TheVariants as replies
use Rattle.tq_tables.specs.Rows.{files_in, files_of, commit_counts, count_in, names_of, with_one, with_each}
use Rattle.tq_tables.proofs.Kept.{is_in, Apart, or_parts, or-false, either, or_comm, filter_agree, without, without-more, is_in-filter, Apart-filter, Apart-append, Apart-keys}

-- ---- names listed with a number each

abbrev pub listed : (List ℕ → ℕ) → List (List ℕ) → List (List ℕ × ℕ)
listed n names = map (λ name. (name, n name)) names

listed-same : (n m : List ℕ → ℕ) → ((name : List ℕ) → n name ≡ m name) → (names : List (List ℕ)) → listed n names ≡ listed m names
listed-same n m same [] = refl
listed-same n m same (name ∷ names) = λ i. (name, same name i) ∷ listed-same n m same names i

-- one more for a name
abbrev one_at : List ℕ → List ℕ → ℕ
one_at name other = cond (same_name name other) 1 0

abbrev plus_one : (List ℕ → ℕ) → List ℕ → List ℕ → ℕ
plus_one n name other = n other + one_at name other

abbrev with_name : List (List ℕ) → List ℕ → List (List ℕ)
with_name names name = cond (is_in name names) names (names ++ name ∷ [])

lookup-listed : (n : List ℕ → ℕ) (name : List ℕ) (names : List (List ℕ)) → lookup (same_name name) (listed n names) ≡ cond (is_in name names) (Some (n name)) None
lookup-listed n name [] = refl
lookup-listed n name (other ∷ names) = by (same_name name other) refl (lookup-listed n name names)
  where
    by : (b : Bool) → same_name name other ≡ b → lookup (same_name name) (listed n names) ≡ cond (is_in name names) (Some (n name)) None
        → cond b (Some (n other)) (lookup (same_name name) (listed n names)) ≡ cond (b || is_in name names) (Some (n name)) None
    by true same rest = ap (λ (o : List ℕ). Some (n o)) (sym (same_name-is name other same))
    by false same rest = rest

count_in-listed : (n : List ℕ → ℕ) (name : List ℕ) (names : List (List ℕ)) → (is_in name names ≡ false → n name ≡ 0) → count_in (listed n names) name ≡ n name
count_in-listed n name names absent = ap (λ o. unwrap_or o 0) (lookup-listed n name names) ∙ by (is_in name names) absent
  where
    by : (b : Bool) → (b ≡ false → n name ≡ 0) → unwrap_or (cond b (Some (n name)) None) 0 ≡ n name
    by true none = refl
    by false none = sym (none refl)

-- where the name does not stand, one more for it changes nothing
listed-apart : (n : List ℕ → ℕ) (name : List ℕ) (names : List (List ℕ)) → is_in name names ≡ false → listed n names ≡ listed (plus_one n name) names
listed-apart n name [] apart = refl
listed-apart n name (other ∷ names) apart =
    let both = or_parts (same_name name other) (is_in name names) apart in
    let same : n other ≡ plus_one n name other = sym (add-zero (n other)) ∙ ap (λ b. n other + cond b 1 0) (sym both.0) in
    λ i. (other, same i) ∷ listed-apart n name names both.1 i

insert-listed : (n : List ℕ → ℕ) (name : List ℕ) (names : List (List ℕ)) → Apart names → (is_in name names ≡ false → n name ≡ 0)
    → insert_entry same_name (listed n names) name (n name + 1) ≡ listed (plus_one n name) (with_name names name)
insert-listed n name [] apart absent = ap (λ b. (name, n name + cond b 1 0) ∷ []) (sym (same_name-refl name))
insert-listed n name (other ∷ names) apart absent = by (same_name name other) refl absent (insert-listed n name names apart.1)
  where
    push : (b : Bool) → other ∷ cond b names (names ++ name ∷ []) ≡ cond b (other ∷ names) (other ∷ (names ++ name ∷ []))
    push true = refl
    push false = refl

    by : (b : Bool) → same_name name other ≡ b → ((b || is_in name names) ≡ false → n name ≡ 0)
        → ((is_in name names ≡ false → n name ≡ 0) → insert_entry same_name (listed n names) name (n name + 1) ≡ listed (plus_one n name) (with_name names name))
        → cond b ((other, n name + 1) ∷ listed n names) ((other, n other) ∷ insert_entry same_name (listed n names) name (n name + 1))
        ≡ listed (plus_one n name) (cond (b || is_in name names) (other ∷ names) (other ∷ (names ++ name ∷ [])))
    by true s none ih =
        let same = same_name-is name other s in
        let value : n name + 1 ≡ plus_one n name other = ap (λ (o : List ℕ). n o + 1) same ∙ ap (λ b. n other + cond b 1 0) (sym s) in
        let rest : listed n names ≡ listed (plus_one n name) names = listed-apart n name names (ap (λ (o : List ℕ). is_in o names) same ∙ apart.0) in
        λ i. (other, value i) ∷ rest i
    by false s none ih =
        let value : n other ≡ plus_one n name other = sym (add-zero (n other)) ∙ ap (λ b. n other + cond b 1 0) (sym s) in
        let rest = ih none in
        (λ i. (other, value i) ∷ rest i) ∙ ap (listed (plus_one n name)) (push (is_in name names))

one-listed : (n : List ℕ → ℕ) (name : List ℕ) (names : List (List ℕ)) → Apart names → (is_in name names ≡ false → n name ≡ 0)
    → with_one (listed n names) name ≡ listed (plus_one n name) (with_name names name)
one-listed n name names apart absent =
    ap (λ (k : ℕ). insert_entry same_name (listed n names) name (k + 1)) (count_in-listed n name names absent)
    ∙ insert-listed n name names apart absent

-- ---- one more for each of some names

abbrev plus_each : (List ℕ → ℕ) → List (List ℕ) → List ℕ → ℕ
plus_each n more name = n name + cond (is_in name more) 1 0

Apart-with_name : (names : List (List ℕ)) (name : List ℕ) → Apart names → Apart (with_name names name)
Apart-with_name names name apart = by (is_in name names) refl
  where
    by : (b : Bool) → is_in name names ≡ b → Apart (cond b names (names ++ name ∷ []))
    by true there = apart
    by false there = Apart-append names (name ∷ []) apart (refl, tt) (λ other here. or-false (same_name other name) ∙ differs other here (same_name other name) refl)
      where
        differs : (other : List ℕ) → is_in other names ≡ true → (b : Bool) → same_name other name ≡ b → same_name other name ≡ false
        differs other here false s = s
        differs other here true s = absurd (true≢false (sym here ∙ ap (λ (o : List ℕ). is_in o names) (same_name-is other name s) ∙ there))

-- what is not there after a name was put in was not there before, and is another name
not_there : (names : List (List ℕ)) (name other : List ℕ) → is_in other (with_name names name) ≡ false → (is_in other names ≡ false) × (same_name name other ≡ false)
not_there names name other none = by (is_in name names) refl none
  where
    differs : is_in name names ≡ true → is_in other names ≡ false → (b : Bool) → same_name name other ≡ b → same_name name other ≡ false
    differs there absent false s = s
    differs there absent true s = absurd (true≢false (sym there ∙ ap (λ (o : List ℕ). is_in o names) (same_name-is name other s) ∙ absent))

    by : (b : Bool) → is_in name names ≡ b → is_in other (cond b names (names ++ name ∷ [])) ≡ false → (is_in other names ≡ false) × (same_name name other ≡ false)
    by true there h = (h, differs there h (same_name name other) refl)
    by false there h =
        let both = or_parts (is_in other names) (same_name other name || false) (sym (list_any-append (same_name other) names (name ∷ [])) ∙ h) in
        (both.0, same_name-sym name other ∙ sym (or-false (same_name other name)) ∙ both.1)

each-listed : (more : List (List ℕ)) (n : List ℕ → ℕ) (names : List (List ℕ)) → Apart more → Apart names → ((name : List ℕ) → is_in name names ≡ false → n name ≡ 0)
    → with_each (listed n names) more ≡ listed (plus_each n more) (names ++ without names more)
each-listed [] n names apart distinct absent =
    listed-same n (plus_each n []) (λ name. sym (add-zero (n name))) names ∙ ap (listed (plus_each n [])) (sym (append-nil names))
each-listed (name ∷ more) n names apart distinct absent =
    ap (λ counts. with_each counts more) (one-listed n name names distinct (absent name))
    ∙ each-listed more (plus_one n name) (with_name names name) apart.1 (Apart-with_name names name distinct) gone
    ∙ listed-same (plus_each (plus_one n name) more) (plus_each n (name ∷ more)) same (with_name names name ++ without (with_name names name) more)
    ∙ ap (listed (plus_each n (name ∷ more))) (by (is_in name names) refl)
  where
    add : (k : ℕ) (a : Bool) → (k + cond a 1 0) + 0 ≡ k + cond (a || false) 1 0
    add k true = omega arith
    add k false = omega arith

    gone : (other : List ℕ) → is_in other (with_name names name) ≡ false → plus_one n name other ≡ 0
    gone other h =
        let both = not_there names name other h in
        ap (λ b. n other + cond b 1 0) both.1 ∙ add-zero (n other) ∙ absent other both.0

    same : (other : List ℕ) → plus_each (plus_one n name) more other ≡ plus_each n (name ∷ more) other
    same other = at (same_name name other) refl
      where
        zero_more : (k : ℕ) (b : Bool) → (k + 0) + cond b 1 0 ≡ k + cond b 1 0
        zero_more k true = omega arith
        zero_more k false = omega arith

        at : (s : Bool) → same_name name other ≡ s → (n other + cond (same_name name other) 1 0) + cond (is_in other more) 1 0 ≡ n other + cond (same_name other name || is_in other more) 1 0
        at true s =
            let alone : is_in other more ≡ false = ap (λ (o : List ℕ). is_in o more) (sym (same_name-is name other s)) ∙ apart.0 in
            ap (λ b. (n other + cond (same_name name other) 1 0) + cond b 1 0) alone
            ∙ add (n other) (same_name name other)
            ∙ ap (λ b. n other + cond (b || false) 1 0) (same_name-sym name other)
            ∙ ap (λ b. n other + cond (same_name other name || b) 1 0) (sym alone)
        at false s =
            ap (λ b. (n other + cond b 1 0) + cond (is_in other more) 1 0) s
            ∙ zero_more (n other) (is_in other more)
            ∙ ap (λ b. n other + cond (b || is_in other more) 1 0) (sym (same_name-sym other name ∙ s))

    by : (b : Bool) → is_in name names ≡ b
        → cond b names (names ++ name ∷ []) ++ without (cond b names (names ++ name ∷ [])) more ≡ names ++ cond (not (is_in name names)) (name ∷ without names more) (without names more)
    by true there = ap (λ c. names ++ cond (not c) (name ∷ without names more) (without names more)) (sym there)
    by false there =
        ap (λ rest. (names ++ name ∷ []) ++ rest) (without-more names name more apart.0)
        ∙ append_assoc names (name ∷ []) (without names more)
        ∙ ap (λ c. names ++ cond (not c) (name ∷ without names more) (without names more)) (sym there)

-- ---- the other names

lookup-other : (es : List (List ℕ × ℕ)) (name other : List ℕ) (n : ℕ) → same_name name other ≡ false → lookup (same_name other) (insert_entry same_name es name n) ≡ lookup (same_name other) es
lookup-other [] name other n apart = ap (λ b. cond b (Some n) None) (same_name-sym other name ∙ apart)
lookup-other (e ∷ es) name other n apart = by (same_name name e.0) refl (lookup-other es name other n apart)
  where
    by : (b : Bool) → same_name name e.0 ≡ b → lookup (same_name other) (insert_entry same_name es name n) ≡ lookup (same_name other) es
        → lookup (same_name other) (cond b ((e.0, n) ∷ es) (e ∷ insert_entry same_name es name n)) ≡ cond (same_name other e.0) (Some e.1) (lookup (same_name other) es)
    by true s rest =
        let apart_too : same_name other e.0 ≡ false = ap (same_name other) (sym (same_name-is name e.0 s)) ∙ same_name-sym other name ∙ apart in
        ap (λ b. cond b (Some n) (lookup (same_name other) es)) apart_too ∙ sym (ap (λ b. cond b (Some e.1) (lookup (same_name other) es)) apart_too)
    by false s rest = ap (cond (same_name other e.0) (Some e.1)) rest

pub count_in-other : (counts : List (List ℕ × ℕ)) (name other : List ℕ) → same_name name other ≡ false → count_in (with_one counts name) other ≡ count_in counts other
count_in-other counts name other apart = ap (λ o. unwrap_or o 0) (lookup-other counts name other (count_in counts name + 1) apart)

-- ---- the files of commits

pub is_in-names_of : (name : List ℕ) (ops : List Op) → is_in name (names_of ops) ≡ list_any (writes_file name) ops
is_in-names_of name ops =
    same_any (fin.keys (with_files fin.empty ops))
    ∙ sym (fin.contains_key-keys (with_files fin.empty ops) name)
    ∙ written-is (record { txn = 0; ops = ops; votes = [] } ∷ []) name
    ∙ or-false (list_any (writes_file name) ops)
  where
    same_any : (names : List (List ℕ)) → list_any (same_name name) names ≡ list_any (Rattle.std.specs.Ordering.eq_by_cmp name_cmp name) names
    same_any [] = refl
    same_any (other ∷ names) = ap (λ b. b || list_any (same_name name) names) (texts_ties name other) ∙ ap (λ b. Rattle.std.specs.Ordering.eq_by_cmp name_cmp name other || b) (same_any names)

pub is_in-files_in : (name : List ℕ) (list : List Commit) → is_in name (files_in list) ≡ is_written list name
is_in-files_in name [] = refl
is_in-files_in name (commit ∷ earlier) =
    list_any-append (same_name name) (files_in earlier) (filter (λ file. not (is_written earlier file)) (files_of commit))
    ∙ ap (λ b. b || is_in name (filter (λ file. not (is_written earlier file)) (files_of commit))) (is_in-files_in name earlier)
    ∙ ap (λ b. is_written earlier name || b) (is_in-filter (λ file. not (is_written earlier file)) name (files_of commit))
    ∙ either (is_written earlier name) (is_in name (files_of commit))
    ∙ ap (λ b. is_written earlier name || b) (is_in-names_of name commit.ops)
    ∙ or_comm (is_written earlier name) (list_any (writes_file name) commit.ops)

pub Apart-files_in : (list : List Commit) → Apart (files_in list)
Apart-files_in [] = tt
Apart-files_in (commit ∷ earlier) =
    Apart-append (files_in earlier) (filter (λ file. not (is_written earlier file)) (files_of commit)) (Apart-files_in earlier)
    (Apart-filter (λ file. not (is_written earlier file)) (files_of commit) (Apart-keys (with_files fin.empty commit.ops)))
    (λ name there. is_in-filter (λ file. not (is_written earlier file)) name (files_of commit)
    ∙ ap (λ b. not b && is_in name (files_of commit)) (sym (is_in-files_in name earlier) ∙ there))

-- ---- counts

found : (p : Op → Bool) (ops : List Op) → is_some (find p ops) ≡ list_any p ops
found p [] = refl
found p (op ∷ ops) = at (p op) (found p ops)
  where
    at : (b : Bool) → is_some (find p ops) ≡ list_any p ops → is_some (cond b (Some op) (find p ops)) ≡ (b || list_any p ops)
    at true rest = refl
    at false rest = rest

count-absent : (name : List ℕ) (list : List Commit) → is_written list name ≡ false → count name list ≡ 0
count-absent name [] none = refl
count-absent name (commit ∷ earlier) none =
    let both = or_parts (list_any (writes_file name) commit.ops) (is_written earlier name) none in
    by (find (writes_file name) commit.ops) (found (writes_file name) commit.ops ∙ both.0) (count-absent name earlier both.1)
  where
    by : (op : Option Op) → is_some op ≡ false → count name earlier ≡ 0 → count_one op (count name earlier) ≡ 0
    by None h zero_so_far = zero_so_far
    by (Some op) h zero_so_far = absurd (true≢false h)

count-more : (name : List ℕ) (commit : Commit) (earlier : List Commit) → count name earlier + cond (is_in name (files_of commit)) 1 0 ≡ count name (commit ∷ earlier)
count-more name commit earlier =
    ap (λ b. count name earlier + cond b 1 0) (is_in-names_of name commit.ops ∙ sym (found (writes_file name) commit.ops))
    ∙ by (find (writes_file name) commit.ops)
  where
    by : (op : Option Op) → count name earlier + cond (is_some op) 1 0 ≡ count_one op (count name earlier)
    by None = omega arith
    by (Some op) = omega arith

-- one commit more
pub counted-more : (commit : Commit) (earlier : List Commit) → with_each (commit_counts earlier) (names_of commit.ops) ≡ commit_counts (commit ∷ earlier)
counted-more commit earlier =
    let n : List ℕ → ℕ = λ name. count name earlier in
    each-listed (names_of commit.ops) n (files_in earlier) (Apart-keys (with_files fin.empty commit.ops)) (Apart-files_in earlier)
    (λ name none. count-absent name earlier (sym (is_in-files_in name earlier) ∙ none))
    ∙ listed-same (plus_each n (names_of commit.ops)) (λ name. count name (commit ∷ earlier)) (λ name. count-more name commit earlier) (files_in earlier ++ without (files_in earlier) (names_of commit.ops))
    ∙ ap (λ new. listed (λ name. count name (commit ∷ earlier)) (files_in earlier ++ new))
    (filter_agree (λ name. not (is_in name (files_in earlier))) (λ name. not (is_written earlier name)) (λ name. ap not (is_in-files_in name earlier)) (names_of commit.ops))

-- what a file is counted as
pub count_in-counted : (list : List Commit) (name : List ℕ) → count_in (commit_counts list) name ≡ count name list
count_in-counted list name = count_in-listed (λ n. count n list) name (files_in list) (λ none. count-absent name list (sym (is_in-files_in name list) ∙ none))

-- there are no more commits than entries
pub count-most : (name : List ℕ) (list : List Commit) → count name list ≤ length list
count-most name [] = omega arith
count-most name (commit ∷ earlier) = by (find (writes_file name) commit.ops) (count-most name earlier)
  where
    by : (op : Option Op) → count name earlier ≤ length earlier → count_one op (count name earlier) ≤ suc (length earlier)
    by None h = omega (arith, h)
    by (Some op) h = omega (arith, h)

pub commits-most : (journal : List DeskEntry) → length (commits journal) ≤ length journal
commits-most [] = omega arith
commits-most (e ∷ earlier) = by e.ask e.reply (commits-most earlier)
  where
    by : (ask : DeskAsk) (reply : DeskReply) → length (commits earlier) ≤ length earlier → length (with_commit ask reply (commits earlier)) ≤ suc (length earlier)
    by (asks.Commit txn ops votes) (replies.Committed serial) h = omega (arith, h)
    by (asks.Commit txn ops votes) (replies.Txn t) h = omega (arith, h)
    by (asks.Commit txn ops votes) (replies.Verdict v) h = omega (arith, h)
    by (asks.Commit txn ops votes) (replies.Refused r) h = omega (arith, h)
    by asks.Begin reply h = omega (arith, h)
    by (asks.Resolve txn) reply h = omega (arith, h)
