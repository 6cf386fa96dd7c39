-- Rows as a server stands in them after it changed.
use Rattle.std.{specs.{Prelude.{◌||◌, ◌==◌, not, nat_le}, List.fold}, proofs.lemmas.List.{length-set, map-id, set-set}}
use Rattle.std.proofs.Common.{◌≡◌, ℕ, zero, suc, ◌+◌, ◌<◌, Bool, true, false, cond, List, [], ◌∷◌, length, map, filter, set, get_or, refl, ap, sym, subst, ◌∙◌, arith}
use mathlib.Core.List.{map-map}
use Rattle.tq_shape.specs.ServerSet.{Servers, with_number, without_number}
use Rattle.tq_store.specs.{Copies.copy_of, Names.same_name, declared.copies.FileCopy.FileCopy}
use Rattle.tq_store.proofs.{Installed.{lt-false, lt-true}, Padded.same_name-sym}
use Rattle.tq_desk.specs.DeskJournal.{Commit, count}
use Rattle.tq_node.specs.Node.{NodeView}
use Rattle.tq_tables.specs.{declared.file_row.FileRow.FileRow, Files.{all_stood, row_after_move, row_by_copy, stood_at}}
use Rattle.tq_tables.specs.{Rows.{is_in, file_row, file_rows, files_in, has_version, row_at}, Parts.AreOfTree}

-- ---- numbers

pub eq-self : (a : ℕ) → (a == a) ≡ true
eq-self a = grind arith

pub eq-above : (a b : ℕ) → a < b → (b == a) ≡ false
eq-above a b h = grind (arith, h)

pub eq-below : (a b : ℕ) → a < b → (a == b) ≡ false
eq-below a b h = grind (arith, h)

-- the numbers of the servers that pass a test
abbrev pub passing : (NodeView → Bool) → List NodeView → List ℕ
passing test nodes = map (λ node. node.server) (filter test nodes)

-- the numbers with one that passes, or without one that does not
abbrev pub placed : Bool → ℕ → List ℕ → List ℕ
placed b number numbers = cond b (with_number number numbers) (without_number number numbers)

pub numbers-if : (test : NodeView → Bool) (n : NodeView) (nodes : List NodeView) (c : Bool) → map (λ m. m.server) (cond c (n ∷ filter test nodes) (filter test nodes)) ≡ cond c (n.server ∷ passing test nodes) (passing test nodes)
numbers-if test n nodes true = refl
numbers-if test n nodes false = refl

-- ---- a number below those of the servers

module _ (levels : ℕ) (test : NodeView → Bool) (number : ℕ) where
  with-below : (first : ℕ) (nodes : List NodeView) → AreOfTree levels first nodes → number < first → with_number number (passing test nodes) ≡ number ∷ passing test nodes
  with-below first [] of_tree below = refl
  with-below first (n ∷ nodes) of_tree below = by (test n) (with-below (first + 1) nodes of_tree.1 (omega (arith, below)))
    where
      less : number < n.server
      less = let is = of_tree.0.1 in omega (arith, below, is)

      by : (b : Bool) → with_number number (passing test nodes) ≡ number ∷ passing test nodes
          → with_number number (map (λ node. node.server) (cond b (n ∷ filter test nodes) (filter test nodes))) ≡ number ∷ map (λ node. node.server) (cond b (n ∷ filter test nodes) (filter test nodes))
      by true rest =
          ap (λ (c : Bool). cond c (number ∷ n.server ∷ passing test nodes) (cond (number == n.server) (n.server ∷ passing test nodes) (n.server ∷ with_number number (passing test nodes)))) (lt-true number n.server less)
      by false rest = rest

  without-below : (first : ℕ) (nodes : List NodeView) → AreOfTree levels first nodes → number < first → without_number number (passing test nodes) ≡ passing test nodes
  without-below first [] of_tree below = refl
  without-below first (n ∷ nodes) of_tree below = by (test n) (without-below (first + 1) nodes of_tree.1 (omega (arith, below)))
    where
      less : number < n.server
      less = let is = of_tree.0.1 in omega (arith, below, is)

      by : (b : Bool) → without_number number (passing test nodes) ≡ passing test nodes
          → without_number number (map (λ node. node.server) (cond b (n ∷ filter test nodes) (filter test nodes))) ≡ map (λ node. node.server) (cond b (n ∷ filter test nodes) (filter test nodes))
      by true rest = (λ i. cond (not (eq-above number n.server less i)) (n.server ∷ rest i) (rest i))
      by false rest = rest

-- ---- a server in its place

-- the first of them, before which none stands
pub head-placed : (levels : ℕ) (test : NodeView → Bool) (number : ℕ) (nodes : List NodeView) → AreOfTree levels (number + 1) nodes → (b c : Bool)
    → cond b (number ∷ passing test nodes) (passing test nodes) ≡ placed b number (cond c (number ∷ passing test nodes) (passing test nodes))
head-placed levels test number nodes of_tree true true =
    sym (ap (λ (c : Bool). cond c (number ∷ number ∷ passing test nodes) (cond (number == number) (number ∷ passing test nodes) (number ∷ with_number number (passing test nodes)))) (lt-false number number (omega arith))
    ∙ ap (λ (c : Bool). cond c (number ∷ passing test nodes) (number ∷ with_number number (passing test nodes))) (eq-self number))
head-placed levels test number nodes of_tree true false = sym (with-below levels test number (number + 1) nodes of_tree (omega arith))
head-placed levels test number nodes of_tree false true =
    sym (ap (λ (c : Bool). cond (not c) (number ∷ without_number number (passing test nodes)) (without_number number (passing test nodes))) (eq-self number)
    ∙ without-below levels test number (number + 1) nodes of_tree (omega arith))
head-placed levels test number nodes of_tree false false = sym (without-below levels test number (number + 1) nodes of_tree (omega arith))

module _ (levels : ℕ) (test : NodeView → Bool) (node : NodeView) where
  placed-first : (n : NodeView) (nodes : List NodeView) → AreOfTree levels (n.server + 1) nodes → node.server ≡ n.server → (b : Bool) → test node ≡ b
      → passing test (node ∷ nodes) ≡ placed b node.server (passing test (n ∷ nodes))
  placed-first n nodes of_tree same b is =
      numbers-if test node nodes (test node)
      ∙ (λ i. cond (is i) (same i ∷ passing test nodes) (passing test nodes))
      ∙ head-placed levels test n.server nodes of_tree b (test n)
      ∙ (λ i. placed b (sym same i) (sym (numbers-if test n nodes (test n)) i))

  -- a server before it keeps its place
  pub placed-later : (n : NodeView) (numbers : List ℕ) → n.server < node.server → (b c : Bool)
      → cond c (n.server ∷ placed b node.server numbers) (placed b node.server numbers) ≡ placed b node.server (cond c (n.server ∷ numbers) numbers)
  placed-later n numbers less b false = refl
  placed-later n numbers less true true =
      sym (ap (λ (c : Bool). cond c (node.server ∷ n.server ∷ numbers) (cond (node.server == n.server) (n.server ∷ numbers) (n.server ∷ with_number node.server numbers))) (lt-false node.server n.server (omega (arith, less)))
      ∙ ap (λ (c : Bool). cond c (n.server ∷ numbers) (n.server ∷ with_number node.server numbers)) (eq-above n.server node.server less))
  placed-later n numbers less false true =
      sym (ap (λ (c : Bool). cond (not c) (n.server ∷ without_number node.server numbers) (without_number node.server numbers)) (eq-below n.server node.server less))

  pub placed-set : (first : ℕ) (nodes : List NodeView) (place : ℕ) → AreOfTree levels first nodes → place < length nodes → node.server ≡ first + place → (b : Bool) → test node ≡ b
      → passing test (set nodes place node) ≡ placed b node.server (passing test nodes)
  placed-set first [] place of_tree less number b is = absurd (omega (arith, less))
  placed-set first (n ∷ nodes) zero of_tree less number b is =
      placed-first n nodes (subst (λ (k : ℕ). AreOfTree levels (k + 1) nodes) (sym of_tree.0.1) of_tree.1) (number ∙ (let at = of_tree.0.1 in omega (arith, at))) b is
  placed-set first (n ∷ nodes) (suc place) of_tree less number b is =
      let at = of_tree.0.1 in
      numbers-if test n (set nodes place node) (test n)
      ∙ ap (λ (rest : List ℕ). cond (test n) (n.server ∷ rest) rest) (placed-set (first + 1) nodes place of_tree.1 (omega (arith, less)) (number ∙ omega arith) b is)
      ∙ placed-later n (passing test nodes) (omega (arith, at, number)) b (test n)
      ∙ ap (placed b node.server) (sym (numbers-if test n nodes (test n)))

-- a server that passes as the one before it did, under the same number
pub same-set : (test : NodeView → Bool) (nodes : List NodeView) (place : ℕ) (old node : NodeView) → place < length nodes → old ≡ get_or nodes place old → node.server ≡ old.server → test node ≡ test old
    → passing test (set nodes place node) ≡ passing test nodes
same-set test [] place old node less at number passes = absurd (omega (arith, less))
same-set test (n ∷ nodes) zero old node less at number passes =
    numbers-if test node nodes (test node)
    ∙ (λ i. cond ((passes ∙ ap test at) i) ((number ∙ ap (λ (m : NodeView). m.server) at) i ∷ passing test nodes) (passing test nodes))
    ∙ sym (numbers-if test n nodes (test n))
same-set test (n ∷ nodes) (suc place) old node less at number passes =
    numbers-if test n (set nodes place node) (test n)
    ∙ ap (λ (rest : List ℕ). cond (test n) (n.server ∷ rest) rest) (same-set test nodes place old node (omega (arith, less)) at number passes)
    ∙ sym (numbers-if test n nodes (test n))

-- ---- the row of a file

abbrev pub those : ℕ → List ℕ → Servers
those levels numbers = record { levels = levels; numbers = numbers }

module _ (levels : ℕ) (nodes : List NodeView) (place : ℕ) (node : NodeView) (of_tree : AreOfTree levels 1 nodes) (less : place < length nodes) (number : node.server ≡ 1 + place) where
  -- the row with the server in its place is the row before in which it stands
  row-cases : (file : List ℕ) (version : ℕ) (b : Bool) → has_version file version node ≡ b → row_after_move b node.server (row_at levels nodes file version) ≡ row_at levels (set nodes place node) file version
  row-cases file version true passes =
      let has = has_version file version in
      let lacks : NodeView → Bool = λ n. not (has_version file version n) in
      let current = placed-set levels has node 1 nodes place of_tree less number true passes in
      let stale = placed-set levels lacks node 1 nodes place of_tree less number false (ap not passes) in
      λ i. record { file = file; version = version; current = those levels (sym current i); stale = those levels (sym stale i) }
  row-cases file version false fails =
      let has = has_version file version in
      let lacks : NodeView → Bool = λ n. not (has_version file version n) in
      let current = placed-set levels has node 1 nodes place of_tree less number false fails in
      let stale = placed-set levels lacks node 1 nodes place of_tree less number true (ap not fails) in
      λ i. record { file = file; version = version; current = those levels (sym current i); stale = those levels (sym stale i) }

  pub row-stood : (file : List ℕ) (version : ℕ) → row_by_copy node (row_at levels nodes file version) ≡ row_at levels (set nodes place node) file version
  row-stood file version = row-cases file version (has_version file version node) refl

  -- where its copy of the file is as before, the row is
  pub row-same : (old : NodeView) → old ≡ get_or nodes place old → node.server ≡ old.server → (file : List ℕ) (version : ℕ) → copy_of node.state.records.copies file ≡ copy_of old.state.records.copies file
      → row_at levels nodes file version ≡ row_at levels (set nodes place node) file version
  row-same old at same file version copies =
      let has = has_version file version in
      let lacks : NodeView → Bool = λ n. not (has_version file version n) in
      let test : has node ≡ has old = ap (λ (copy : FileCopy). nat_le version copy.version) copies in
      let current = same-set has nodes place old node less at same test in
      let stale = same-set lacks nodes place old node less at same (ap not test) in
      λ i. record { file = file; version = version; current = those levels (sym current i); stale = those levels (sym stale i) }

pub AreOfTree-set : (levels first : ℕ) (nodes : List NodeView) (place : ℕ) (node : NodeView) → AreOfTree levels first nodes → node.levels ≡ levels → node.server ≡ first + place
    → AreOfTree levels first (set nodes place node)
AreOfTree-set levels first [] place node of_tree tree number = of_tree
AreOfTree-set levels first (n ∷ nodes) zero node of_tree tree number = ((tree, number ∙ omega arith), of_tree.1)
AreOfTree-set levels first (n ∷ nodes) (suc place) node of_tree tree number = (of_tree.0, AreOfTree-set levels (first + 1) nodes place node of_tree.1 tree (number ∙ omega arith))

-- ---- a row over several files

abbrev steps : NodeView → FileRow → List (List ℕ) → FileRow
steps node row files = fold (λ (r : FileRow) (file : List ℕ). stood_at node file r) row files

all-steps : (node : NodeView) (files : List (List ℕ)) (rows : List FileRow) → all_stood node rows files ≡ map (λ row. steps node row files) rows
all-steps node [] rows = sym (map-id rows)
all-steps node (file ∷ files) rows = all-steps node files (map (stood_at node file) rows) ∙ map-map (λ (row : FileRow). steps node row files) (stood_at node file) rows

module _ (levels : ℕ) (nodes : List NodeView) (place : ℕ) (node : NodeView) (of_tree : AreOfTree levels 1 nodes) (less : place < length nodes) (tree : node.levels ≡ levels) (number : node.server ≡ 1 + place) where
  row-again : (file : List ℕ) (version : ℕ) → row_by_copy node (row_at levels (set nodes place node) file version) ≡ row_at levels (set nodes place node) file version
  row-again file version =
      let count = length-set nodes place node in
      row-stood levels (set nodes place node) place node (AreOfTree-set levels 1 nodes place node of_tree tree number) (omega (arith, less, count)) number file version
      ∙ ap (λ (list : List NodeView). row_at levels list file version) (set-set nodes place node node)

  steps-after : (file : List ℕ) (version : ℕ) (files : List (List ℕ)) → steps node (row_at levels (set nodes place node) file version) files ≡ row_at levels (set nodes place node) file version
  steps-after file version [] = refl
  steps-after file version (first ∷ files) =
      ap (λ (row : FileRow). steps node row files) (by (same_name first file)) ∙ steps-after file version files
    where
      by : (b : Bool) → cond b (row_by_copy node (row_at levels (set nodes place node) file version)) (row_at levels (set nodes place node) file version) ≡ row_at levels (set nodes place node) file version
      by true = row-again file version
      by false = refl

  steps-before : (file : List ℕ) (version : ℕ) (files : List (List ℕ)) → (is_in file files ≡ false → row_at levels nodes file version ≡ row_at levels (set nodes place node) file version)
      → steps node (row_at levels nodes file version) files ≡ row_at levels (set nodes place node) file version
  steps-before file version [] kept = kept refl
  steps-before file version (first ∷ files) kept = by (same_name first file) refl (steps-before file version files)
    where
      by : (b : Bool) → same_name first file ≡ b
          → ((is_in file files ≡ false → row_at levels nodes file version ≡ row_at levels (set nodes place node) file version) → steps node (row_at levels nodes file version) files ≡ row_at levels (set nodes place node) file version)
          → steps node (cond b (row_by_copy node (row_at levels nodes file version)) (row_at levels nodes file version)) files ≡ row_at levels (set nodes place node) file version
      by true s rest = ap (λ (row : FileRow). steps node row files) (row-stood levels nodes place node of_tree less number file version) ∙ steps-after file version files
      by false s rest = rest (λ none. kept (λ i. (same_name-sym file first ∙ s) i || none i))

  module _ (old : NodeView) (at : old ≡ get_or nodes place old) (same : node.server ≡ old.server) (files : List (List ℕ))
      (kept : (file : List ℕ) → is_in file files ≡ false → copy_of node.state.records.copies file ≡ copy_of old.state.records.copies file) where
    rows-stood : (list : List Commit) (names : List (List ℕ)) → map (λ row. steps node row files) (map (file_row levels nodes list) names) ≡ map (file_row levels (set nodes place node) list) names
    rows-stood list [] = refl
    rows-stood list (name ∷ names) =
        λ i. steps-before name (count name list) files (λ none. row-same levels nodes place node of_tree less number old at same name (count name list) (kept name none)) i ∷ rows-stood list names i

    -- the rows of files, where the server stands in those of the files whose copies changed
    pub all_stood-are : (list : List Commit) → all_stood node (file_rows levels nodes list) files ≡ file_rows levels (set nodes place node) list
    all_stood-are list = all-steps node files (file_rows levels nodes list) ∙ rows-stood list (files_in list)
