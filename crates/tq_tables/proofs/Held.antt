-- The servers that may have a copy of a file with no row, as servers are asked and rows come.
use Rattle.std.specs.{Prelude.{◌||◌, ◌==◌, nat_lt, nat_le}, Bool.OnTrue, FinMap.get-empty, List.All}
use Rattle.std.proofs.Common.{◌≡◌, ℕ, zero, suc, ◌+◌, ◌<◌, ◌≤◌, Bool, true, false, cond, List, [], ◌∷◌, length, map, set, take, get_or, replicate, Option, true≢false, refl, ap, sym, subst, ◌∙◌, arith}
use Rattle.std.proofs.{lemmas.Bool.eqb-true, lemmas.List.{length-set, map-append}, SliceLists.all_by_recursion_push}
use Rattle.std.proofs.lemmas.List.Elements.{All-nil, All-cons, All-head, All-tail, All-set}
use Rattle.tq_shape.specs.ServerSet.{Servers, has_number, with_number}
use Rattle.tq_store.specs.{Copies.{copy_at, copy_of, name_cmp}, declared.write.Write.Write, Names.same_name}
use Rattle.tq_store.{specs.declared.copies.FileCopy.FileCopy, proofs.Padded.same_name-is}
use Rattle.tq_node.specs.Node.{NodeView}
use Rattle.tq_tables.specs.declared.{file_row.FileRow.FileRow, holders.Holders.Holders}
use Rattle.tq_tables.specs.Files.{AreHolders, HaveRows, OthersLack, has_row, held_by, all_stood, names_in, stood_at, with_row, with_rows}
use Rattle.tq_tables.specs.{Rows.{is_in, has_version, servers_where}, Parts.{AreOfTree, node_after_all, nodes_at}}
use Rattle.tq_tables.proofs.{Kept.{names-stood, or_parts}, RowLaws.{at-place, take-next}}
use Rattle.tq_tables.proofs.Stood.{eq-self, same-set, those}

-- ---- numbers in a set

or-twice : (a b : Bool) → (a || b) ≡ (a || (a || b))
or-twice true b = refl
or-twice false b = refl

or-between : (a b c : Bool) → (a || (b || c)) ≡ (b || (a || c))
or-between true true c = refl
or-between true false c = refl
or-between false true c = refl
or-between false false c = refl

-- the numbers with one more have that one and those before
pub has-with : (more number : ℕ) (numbers : List ℕ) → has_number (with_number more numbers) number ≡ ((more == number) || has_number numbers number)
has-with more number [] = refl
has-with more number (first ∷ rest) = by (nat_lt more first) (more == first) refl (has-with more number rest)
  where
    by : (a b : Bool) → (more == first) ≡ b → has_number (with_number more rest) number ≡ ((more == number) || has_number rest number)
        → has_number (cond a (more ∷ first ∷ rest) (cond b (first ∷ rest) (first ∷ with_number more rest))) number ≡ ((more == number) || has_number (first ∷ rest) number)
    by true b is after = refl
    by false true is after =
        let same = eqb-true more first is in
        or-twice (first == number) (has_number rest number)
        ∙ ap (λ (k : ℕ). (k == number) || has_number (first ∷ rest) number) (sym same)
    by false false is after =
        ap (λ (b : Bool). (first == number) || b) after ∙ or-between (first == number) (more == number) (has_number rest number)

-- one that is not there with one more was not there before
pub lacks-before : (more number : ℕ) (numbers : List ℕ) → has_number (with_number more numbers) number ≡ false → ((more == number) ≡ false) × (has_number numbers number ≡ false)
lacks-before more number numbers lacks = or_parts (more == number) (has_number numbers number) (sym (has-with more number numbers) ∙ lacks)

pub has-itself : (number : ℕ) (numbers : List ℕ) → has_number (with_number number numbers) number ≡ true
has-itself number numbers = has-with number number numbers ∙ ap (λ (b : Bool). b || has_number numbers number) (eq-self number)

pub All-with : (P : ℕ → Type 0) (number : ℕ) (numbers : List ℕ) → P number → All P numbers → All P (with_number number numbers)
All-with P number [] here all = All-cons P number [] here (All-nil P)
All-with P number (first ∷ rest) here all = by (nat_lt number first) (number == first) (All-with P number rest here (All-tail P first rest all))
  where
    by : (a b : Bool) → All P (with_number number rest) → All P (cond a (number ∷ first ∷ rest) (cond b (first ∷ rest) (first ∷ with_number number rest)))
    by true b after = All-cons P number (first ∷ rest) here all
    by false true after = all
    by false false after = All-cons P first (with_number number rest) (All-head P first rest all) after

-- ---- files with a row

pub names-all_stood : (node : NodeView) (files : List (List ℕ)) (rows : List FileRow) → names_in (all_stood node rows files) ≡ names_in rows
names-all_stood node [] rows = refl
names-all_stood node (file ∷ files) rows = names-all_stood node files (map (stood_at node file) rows) ∙ names-stood node file rows

-- a file with no row is none of those that have one
not-among : (rows : List FileRow) (file : List ℕ) (files : List (List ℕ)) → HaveRows rows files → has_row rows file ≡ false → is_in file files ≡ false
not-among rows file [] have none = refl
not-among rows file (first ∷ files) have none = by (same_name file first) refl (not-among rows file files have.1 none)
  where
    by : (b : Bool) → same_name file first ≡ b → is_in file files ≡ false → (b || is_in file files) ≡ false
    by true same rest = absurd (true≢false (sym have.0 ∙ ap (has_row rows) (sym (same_name-is file first same)) ∙ none))
    by false same rest = rest

missing-one : (file : List ℕ) (rows : List FileRow) (row : FileRow) → has_row (with_row rows row) file ≡ false → has_row rows file ≡ false
missing-one file [] row none = refl
missing-one file (first ∷ rows) row none = by (same_name row.file first.file) refl none (missing-one file rows row)
  where
    by : (b : Bool) → same_name row.file first.file ≡ b → has_row (cond b (row ∷ rows) (first ∷ with_row rows row)) file ≡ false
        → (has_row (with_row rows row) file ≡ false → has_row rows file ≡ false) → has_row (first ∷ rows) file ≡ false
    by true same gone rest = ap (λ (name : List ℕ). same_name file name || has_row rows file) (sym (same_name-is row.file first.file same)) ∙ gone
    by false same gone rest =
        let both = or_parts (same_name file first.file) (has_row (with_row rows row) file) gone in
        λ i. both.0 i || rest both.1 i

missing-before : (file : List ℕ) (more rows : List FileRow) → has_row (with_rows rows more) file ≡ false → has_row rows file ≡ false
missing-before file [] rows none = none
missing-before file (row ∷ more) rows none = missing-one file rows row (missing-before file more (with_row rows row) none)

-- one write more whose file has a row
pub have-next : (rows : List FileRow) (writes : List Write) (i : ℕ) (write : Write) → i < length writes → write ≡ get_or writes i write → has_row rows write.file ≡ true → (found : Bool)
    → OnTrue found (HaveRows rows (map (λ w. w.file) (take i writes))) → OnTrue found (HaveRows rows (map (λ w. w.file) (take (i + 1) writes)))
have-next rows writes i write less is here false have = tt
have-next rows writes i write less is here true have =
    subst (HaveRows rows) (sym (ap (map (λ (w : Write). w.file)) (take-next writes i write less is) ∙ map-append (λ (w : Write). w.file) (take i writes) (write ∷ [])))
    (all_by_recursion_push (λ file. has_row rows file ≡ true) (map (λ w. w.file) (take i writes)) write.file have here)

-- ---- the servers that may have a copy

-- the same under equal values
pub held-same : {levels levels2 : ℕ} {nodes nodes2 : List NodeView} {rows rows2 : List FileRow} {holders holders2 : Holders} → levels2 ≡ levels → nodes2 ≡ nodes → rows2 ≡ rows → holders2 ≡ holders
    → AreHolders levels nodes rows holders → AreHolders levels2 nodes2 rows2 holders2
held-same {levels} {levels2} {nodes} {nodes2} {rows} {rows2} {holders} {holders2} a b c d are =
    subst (λ (x : ℕ). AreHolders x nodes2 rows2 holders2) (sym a)
    (subst (λ (x : List NodeView). AreHolders levels x rows2 holders2) (sym b)
    (subst (λ (x : List FileRow). AreHolders levels nodes x holders2) (sym c)
    (subst (λ (x : Holders). AreHolders levels nodes rows x) (sym d) are)))

-- servers that were asked nothing have no copy
lack-copies : (levels first count : ℕ) (file : List ℕ) → OthersLack file [] (nodes_at levels first (replicate count []))
lack-copies levels first zero file = All-nil (λ (node : NodeView). has_number [] node.server ≡ false → has_version file 1 node ≡ false)
lack-copies levels first (suc count) file =
    All-cons (λ (node : NodeView). has_number [] node.server ≡ false → has_version file 1 node ≡ false) (node_after_all levels first []) (nodes_at levels (first + 1) (replicate count []))
    (λ out. ap (λ (copy : Option FileCopy). nat_le 1 (copy_at copy).version) (get-empty name_cmp file)) (lack-copies levels (first + 1) count file)

pub none-held : (levels count : ℕ) (nodes : List NodeView) (early all : Servers) → nodes ≡ nodes_at levels 1 (replicate count []) → early ≡ record { levels = levels; numbers = [] }
    → all ≡ servers_where levels (λ node. true) nodes → AreHolders levels nodes [] (record { early = early; all = all })
none-held levels count nodes early all are none whole =
    record {
      levels_are = ap (λ (s : Servers). s.levels) none;
      within = subst (λ (s : Servers). All (λ number. number ≤ length nodes) s.numbers) (sym none) (All-nil (λ (number : ℕ). number ≤ length nodes));
      all = whole;
      others = λ file missing.
          subst (λ (s : Servers). OthersLack file s.numbers nodes) (sym none) (subst (OthersLack file []) (sym are) (lack-copies levels 1 count file));
    }

-- rows come
pub held-put : (levels : ℕ) (nodes : List NodeView) (rows more : List FileRow) (holders : Holders) → AreHolders levels nodes rows holders → AreHolders levels nodes (with_rows rows more) holders
held-put levels nodes rows more holders are =
    record {
      levels_are = are.levels_are;
      within = are.within;
      all = are.all;
      others = λ file none. are.others file (missing-before file more rows none);
    }

module _ (levels : ℕ) (nodes : List NodeView) (rows : List FileRow) (place : ℕ) (old node : NodeView) (files : List (List ℕ)) (of_tree : AreOfTree levels 1 nodes) (at : old ≡ get_or nodes place old)
    (less : place < length nodes) (same : node.server ≡ old.server) (kept : (file : List ℕ) → is_in file files ≡ false → copy_of node.state.records.copies file ≡ copy_of old.state.records.copies file) where
  all-then : (holders : Holders) → AreHolders levels nodes rows holders → holders.all ≡ servers_where levels (λ n. true) (set nodes place node)
  all-then holders are = are.all ∙ ap (those levels) (sym (same-set (λ n. true) nodes place old node less at same refl))

  missing-then : (file : List ℕ) → has_row (all_stood node rows files) file ≡ false → has_row rows file ≡ false
  missing-then file none = ap (is_in file) (sym (names-all_stood node files rows)) ∙ none

  -- a server is asked, and copies of files rise there
  pub held-asked : (found : Bool) → OnTrue found (HaveRows rows files) → (holders : Holders) → AreHolders levels nodes rows holders
      → AreHolders levels (set nodes place node) (all_stood node rows files) (held_by found node.server holders)
  held-asked true have holders are =
      record {
        levels_are = are.levels_are;
        within = λ k d h. let fits = are.within k d h in let count = length-set nodes place node in omega (arith, fits, count);
        all = all-then holders are;
        others = λ file none.
            let missing = missing-then file none in
            let P : NodeView → Type 0 = λ n. has_number holders.early.numbers n.server ≡ false → has_version file 1 n ≡ false in
            let before = are.others file missing in
            let here : P node = λ out.
            ap (λ (copy : FileCopy). nat_le 1 copy.version) (kept file (not-among rows file files have missing))
            ∙ subst P (sym at) (before place old less) (ap (has_number holders.early.numbers) (sym same) ∙ out) in
            All-set P nodes place node here before;
      }
  held-asked false have holders are =
      record {
        levels_are = are.levels_are;
        within =
            let number = (at-place levels 1 nodes of_tree place old less at).1 in
            let count = length-set nodes place node in
            All-with (λ (k : ℕ). k ≤ length (set nodes place node)) node.server holders.early.numbers (omega (arith, same, number, count, less))
            (λ k d h. let fits = are.within k d h in omega (arith, fits, count));
        all = all-then holders are;
        others = λ file none.
            let missing = missing-then file none in
            let P : NodeView → Type 0 = λ n. has_number (with_number node.server holders.early.numbers) n.server ≡ false → has_version file 1 n ≡ false in
            let before = are.others file missing in
            let here : P node = λ out. absurd (true≢false (sym (has-itself node.server holders.early.numbers) ∙ out)) in
            All-set P nodes place node here (λ k d h out. before k d h (lacks-before node.server (get_or nodes k d).server holders.early.numbers out).1);
      }
