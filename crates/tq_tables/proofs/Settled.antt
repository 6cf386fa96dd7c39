-- The row of a file after one commit more: only the servers that were current stand anew.
use Rattle.std.specs.{Prelude.{not, nat_le, ◌||◌, ◌==◌}, List.{All, fold}}
use Rattle.std.proofs.Common.{◌≡◌, ℕ, suc, ◌+◌, ◌-◌, ◌<◌, ◌≤◌, Bool, true, false, cond, List, [], ◌∷◌, length, map, filter, get_or, refl, ap, sym, subst, ◌∙◌, arith}
use Rattle.std.proofs.lemmas.{Bool.eqb-true, List.get_or_default}
use Rattle.std.proofs.lemmas.List.Elements.{All-cons, All-filter, All-head, All-map, All-nil, All-tail}
use Rattle.tq_shape.specs.{ServerSet.{Ascends, has_number, servers_of_numbers}, Tree.Server}
use Rattle.tq_store.specs.Copies.{copy_of}
use Rattle.tq_node.specs.Node.{NodeView}
use Rattle.tq_tables.specs.{declared.file_row.FileRow.FileRow, Tables.node_in, Parts.{AreOfTree, node_after_all}}
use Rattle.tq_tables.specs.Files.{row_after_move, row_by_copy, stood_in, IsOfLevels, OthersLack}
use Rattle.tq_tables.{specs.Rows.{has_version, row_at, servers_where}, proofs.RowLaws.at-place}
use Rattle.tq_tables.proofs.Stood.{eq-above, eq-below, head-placed, numbers-if, passing, placed, placed-later, those}

-- ---- the numbers, where some servers are placed anew

-- the numbers with each of the servers that passes, and without the others of them
abbrev settled : (NodeView → Bool) → List ℕ → List NodeView → List ℕ
settled test numbers nodes = fold (λ all node. placed (test node) node.server all) numbers nodes

module _ (some test : NodeView → Bool) (levels : ℕ) where
  -- a server before them keeps its place
  settled-later : (first : ℕ) (n : NodeView) (nodes : List NodeView) → AreOfTree levels first nodes → n.server < first → (c : Bool) (numbers : List ℕ)
      → settled test (cond c (n.server ∷ numbers) numbers) (filter some nodes) ≡ cond c (n.server ∷ settled test numbers (filter some nodes)) (settled test numbers (filter some nodes))
  settled-later first n [] of_tree before c numbers = refl
  settled-later first n (m ∷ nodes) of_tree before c numbers =
      by (some m) (λ more. settled-later (first + 1) n nodes of_tree.1 (omega (arith, before)) c more)
    where
      less : n.server < m.server
      less = let is = of_tree.0.1 in omega (arith, before, is)

      by : (b : Bool) → ((more : List ℕ) → settled test (cond c (n.server ∷ more) more) (filter some nodes) ≡ cond c (n.server ∷ settled test more (filter some nodes)) (settled test more (filter some nodes)))
          → settled test (cond c (n.server ∷ numbers) numbers) (cond b (m ∷ filter some nodes) (filter some nodes))
          ≡ cond c (n.server ∷ settled test numbers (cond b (m ∷ filter some nodes) (filter some nodes))) (settled test numbers (cond b (m ∷ filter some nodes) (filter some nodes)))
      by true rest = ap (λ (all : List ℕ). settled test all (filter some nodes)) (sym (placed-later levels test m n numbers less (test m) c)) ∙ rest (placed (test m) m.server numbers)
      by false rest = rest numbers

  -- where the others passed before as they do now, these are all that pass now
  settled-are : (before : NodeView → Bool) (first : ℕ) (nodes : List NodeView) → All (λ node. some node ≡ false → before node ≡ test node) nodes → AreOfTree levels first nodes
      → settled test (passing before nodes) (filter some nodes) ≡ passing test nodes
  settled-are before first [] same of_tree = refl
  settled-are before first (n ∷ nodes) same of_tree =
      by (some n) refl (settled-are before (first + 1) nodes (All-tail (λ node. some node ≡ false → before node ≡ test node) n nodes same) of_tree.1)
    where
      less : n.server < first + 1
      less = let is = of_tree.0.1 in omega (arith, is)

      later : (c : Bool) (numbers : List ℕ)
          → settled test (cond c (n.server ∷ numbers) numbers) (filter some nodes) ≡ cond c (n.server ∷ settled test numbers (filter some nodes)) (settled test numbers (filter some nodes))
      later = settled-later (first + 1) n nodes of_tree.1 less

      after : AreOfTree levels (n.server + 1) nodes
      after = subst (λ (k : ℕ). AreOfTree levels (k + 1) nodes) (sym of_tree.0.1) of_tree.1

      by : (b : Bool) → some n ≡ b → settled test (passing before nodes) (filter some nodes) ≡ passing test nodes
          → settled test (passing before (n ∷ nodes)) (cond b (n ∷ filter some nodes) (filter some nodes)) ≡ passing test (n ∷ nodes)
      by true is rest =
          ap (λ (all : List ℕ). settled test (placed (test n) n.server all) (filter some nodes)) (numbers-if before n nodes (before n))
          ∙ ap (λ (all : List ℕ). settled test all (filter some nodes)) (sym (head-placed levels before n.server nodes after (test n) (before n)))
          ∙ later (test n) (passing before nodes)
          ∙ ap (λ (all : List ℕ). cond (test n) (n.server ∷ all) all) rest
          ∙ sym (numbers-if test n nodes (test n))
      by false is rest =
          ap (λ (all : List ℕ). settled test all (filter some nodes)) (numbers-if before n nodes (before n))
          ∙ later (before n) (passing before nodes)
          ∙ (λ i. cond (All-head (λ node. some node ≡ false → before node ≡ test node) n nodes same is i) (n.server ∷ rest i) (rest i))
          ∙ sym (numbers-if test n nodes (test n))

-- ---- rows

-- the row where each of the servers stands anew
abbrev stood_each : FileRow → List NodeView → FileRow
stood_each row nodes = fold (λ (r : FileRow) (node : NodeView). row_by_copy node r) row nodes

-- and that with the numbers placed anew
abbrev settled_row : FileRow → List ℕ → List ℕ → List NodeView → FileRow
settled_row row current stale nodes =
    record {
      file = row.file;
      version = row.version;
      current = those row.current.levels (settled (has_version row.file row.version) current nodes);
      stale = those row.stale.levels (settled (λ node. not (has_version row.file row.version node)) stale nodes);
    }

stood-each : (row : FileRow) (nodes : List NodeView) → stood_each row nodes ≡ settled_row row row.current.numbers row.stale.numbers nodes
stood-each row [] = refl
stood-each row (n ∷ nodes) = by (has_version row.file row.version n) (λ r. stood-each r nodes)
  where
    by : (b : Bool) → ((r : FileRow) → stood_each r nodes ≡ settled_row r r.current.numbers r.stale.numbers nodes)
        → stood_each (row_after_move b n.server row) nodes ≡ settled_row row (placed b n.server row.current.numbers) (placed (not b) n.server row.stale.numbers) nodes
    by true rest = rest (row_after_move true n.server row)
    by false rest = rest (row_after_move false n.server row)

-- a row at the next version, before any server stands anew in it
abbrev pub at_next : FileRow → FileRow
at_next row = record row { version = row.version + 1 }

below-next : (version copy : ℕ) → nat_le version copy ≡ false → nat_le version copy ≡ nat_le (version + 1) copy
below-next version copy below = grind (arith, below)

-- ---- numbers of a set

none-passes : (nodes : List NodeView) → passing (λ node. false) nodes ≡ []
none-passes [] = refl
none-passes (n ∷ nodes) = none-passes nodes

between : (low first number : ℕ) → low < number → first ≡ low + 1 → (number == first) ≡ false → low + 1 < number
between low first number above is differs = grind (arith, above, is, differs)

has-none : (low number : ℕ) (numbers : List ℕ) → Ascends low numbers → number ≤ low → has_number numbers number ≡ false
has-none low number [] ascends below = refl
has-none low number (first ∷ rest) ascends below =
    λ i. eq-above number first (omega (arith, below, ascends.0)) i || has-none first number rest ascends.1 (omega (arith, below, ascends.0)) i

-- numbers of servers are those of the servers whose number they have
are-passing : (levels : ℕ) (test : NodeView → Bool) (low : ℕ) (nodes : List NodeView) (numbers : List ℕ) → AreOfTree levels (low + 1) nodes → Ascends low numbers
    → All (λ number. number ≤ low + length nodes) numbers → ((node : NodeView) → low < node.server → test node ≡ has_number numbers node.server) → numbers ≡ passing test nodes
are-passing levels test low [] [] of_tree ascends within same = refl
are-passing levels test low [] (first ∷ rest) of_tree ascends within same =
    let fits = All-head (λ number. number ≤ low + length {A = NodeView} []) first rest within in absurd (omega (arith, fits, ascends.0))
are-passing levels test low (n ∷ nodes) [] of_tree ascends within same =
    let is = of_tree.0.1 in
    are-passing levels test (low + 1) nodes [] of_tree.1 tt (All-nil (λ number. number ≤ low + 1 + length nodes)) (λ node above. same node (omega (arith, above)))
    ∙ sym (numbers-if test n nodes (test n) ∙ ap (λ (b : Bool). cond b (n.server ∷ passing test nodes) (passing test nodes)) (same n (omega (arith, is))))
are-passing levels test low (n ∷ nodes) (first ∷ rest) of_tree ascends within same =
    by (first == n.server) refl (are-passing levels test (low + 1) nodes rest of_tree.1) (are-passing levels test (low + 1) nodes (first ∷ rest) of_tree.1)
  where
    After : List ℕ → Type 0
    After numbers =
        Ascends (low + 1) numbers → All (λ number. number ≤ low + 1 + length nodes) numbers → ((node : NodeView) → low + 1 < node.server → test node ≡ has_number numbers node.server)
        → numbers ≡ passing test nodes

    fits : All (λ number. number ≤ low + 1 + length nodes) (first ∷ rest)
    fits = λ k d h. let fit = within k d h in omega (arith, fit)

    by : (b : Bool) → (first == n.server) ≡ b → After rest → After (first ∷ rest) → first ∷ rest ≡ passing test (n ∷ nodes)
    by true is here later =
        let at : first ≡ n.server = eqb-true first n.server is in
        let number : first ≡ low + 1 = at ∙ of_tree.0.1 in
        let passes : test n ≡ true = same n (let s = of_tree.0.1 in omega (arith, s)) ∙ ap (λ (b : Bool). b || has_number rest n.server) is in
        let all : rest ≡ passing test nodes =
        here (subst (λ (k : ℕ). Ascends k rest) number ascends.1) (All-tail (λ number. number ≤ low + 1 + length nodes) first rest fits)
        (λ node above. same node (omega (arith, above)) ∙ ap (λ (b : Bool). b || has_number rest node.server) (eq-below first node.server (omega (arith, above, number)))) in
        (λ i. at i ∷ all i)
        ∙ sym (numbers-if test n nodes (test n) ∙ ap (λ (b : Bool). cond b (n.server ∷ passing test nodes) (passing test nodes)) passes)
    by false is here later =
        let above : low + 1 < first = between low n.server first ascends.0 of_tree.0.1 is in
        let s = of_tree.0.1 in
        let fails : test n ≡ false = same n (omega (arith, s)) ∙ has-none (low + 1) n.server (first ∷ rest) (above, ascends.1) (omega (arith, s)) in
        later (above, ascends.1) fits (λ node up. same node (omega (arith, up)))
        ∙ sym (numbers-if test n nodes (test n) ∙ ap (λ (b : Bool). cond b (n.server ∷ passing test nodes) (passing test nodes)) fails)

-- a row of the first version in which all are stale
abbrev pub first_of_all : ℕ → List NodeView → List ℕ → FileRow
first_of_all levels nodes file = record { file = file; version = 1; current = those levels []; stale = servers_where levels (λ node. true) nodes }

module _ (levels : ℕ) (nodes : List NodeView) (of_tree : AreOfTree levels 1 nodes) where
  module _ (file : List ℕ) (version : ℕ) where
    stood-then : stood_each (at_next (row_at levels nodes file version)) (filter (has_version file version) nodes) ≡ row_at levels nodes file (version + 1)
    stood-then =
        let had = has_version file version in
        let has = has_version file (version + 1) in
        let below : (node : NodeView) → had node ≡ false → had node ≡ has node = λ node none. below-next version (copy_of node.state.records.copies file).version none in
        let current = settled-are had has levels had 1 nodes (λ k d h. below (get_or nodes k d)) of_tree in
        let stale = settled-are had (λ node. not (has node)) levels (λ node. not (had node)) 1 nodes (λ k d h none. ap not (below (get_or nodes k d) none)) of_tree in
        stood-each (at_next (row_at levels nodes file version)) (filter had nodes)
        ∙ (λ i. record { file = file; version = version + 1; current = those levels (current i); stale = those levels (stale i) })

  -- each server is found under its number
  found-each : (some : NodeView → Bool) (first : ℕ) (rest : List NodeView) → AreOfTree levels first rest → ((i : ℕ) (d : NodeView) → i < length rest → node_in nodes (first + i) ≡ get_or rest i d) → (row : FileRow)
      → stood_in nodes row (servers_of_numbers levels (passing some rest)) ≡ stood_each row (filter some rest)
  found-each some first [] of_rest found row = refl
  found-each some first (n ∷ rest) of_rest found row = by (some n) (λ r. found-each some (first + 1) rest of_rest.1 later r)
    where
      here : node_in nodes n.server ≡ n
      here = let is = of_rest.0.1 in ap (node_in nodes) (omega (arith, is)) ∙ found 0 n (omega arith)

      later : (i : ℕ) (d : NodeView) → i < length rest → node_in nodes (first + 1 + i) ≡ get_or rest i d
      later i d less = ap (node_in nodes) (omega arith) ∙ found (suc i) d (omega (arith, less))

      by : (b : Bool) → ((r : FileRow) → stood_in nodes r (servers_of_numbers levels (passing some rest)) ≡ stood_each r (filter some rest))
          → stood_in nodes row (servers_of_numbers levels (map (λ node. node.server) (cond b (n ∷ filter some rest) (filter some rest)))) ≡ stood_each row (cond b (n ∷ filter some rest) (filter some rest))
      by true all = ap (λ (node : NodeView). stood_in nodes (row_by_copy node row) (servers_of_numbers levels (passing some rest))) here ∙ all (row_by_copy n row)
      by false all = all row

  found-at : (i : ℕ) (d : NodeView) → i < length nodes → node_in nodes (1 + i) ≡ get_or nodes i d
  found-at i d less =
      let place : 1 + i - 1 ≡ i = omega arith in
      ap (λ (k : ℕ). get_or nodes k (node_after_all 0 0 [])) place ∙ get_or_default nodes i (node_after_all 0 0 []) d less

  -- where the current servers stand anew at the next version, the row is exact
  pub next-exact : (row : FileRow) → row ≡ row_at levels nodes row.file row.version → stood_in nodes (at_next row) (servers_of_numbers levels row.current.numbers) ≡ row_at levels nodes row.file (row.version + 1)
  next-exact row exact =
      (λ i. stood_in nodes (at_next (exact i)) (servers_of_numbers levels (exact i).current.numbers))
      ∙ found-each (has_version row.file row.version) 1 nodes of_tree found-at (at_next (row_at levels nodes row.file row.version))
      ∙ stood-then row.file row.version

  -- where none is current and some servers stand, of which is each that has a copy, the row is exact
  pub first-exact : (file numbers : List ℕ) → Ascends 0 numbers → All (λ number. number ≤ length nodes) numbers → OthersLack file numbers nodes
      → stood_in nodes (first_of_all levels nodes file) (servers_of_numbers levels numbers) ≡ row_at levels nodes file 1
  first-exact file numbers ascends within lack =
      let some : NodeView → Bool = λ node. has_number numbers node.server in
      let has = has_version file 1 in
      let row = first_of_all levels nodes file in
      let current : settled has [] (filter some nodes) ≡ passing has nodes =
      ap (λ (before : List ℕ). settled has before (filter some nodes)) (sym (none-passes nodes))
      ∙ settled-are some has levels (λ node. false) 1 nodes (λ k d h out. sym (lack k d h out)) of_tree in
      let stale = settled-are some (λ node. not (has node)) levels (λ node. true) 1 nodes (λ k d h out. sym (ap not (lack k d h out))) of_tree in
      ap (λ (list : List ℕ). stood_in nodes row (servers_of_numbers levels list)) (are-passing levels some 0 nodes numbers of_tree ascends (λ k d h. let fit = within k d h in omega (arith, fit)) (λ node above. refl))
      ∙ found-each some 1 nodes of_tree found-at row
      ∙ stood-each row (filter some nodes)
      ∙ (λ i. record { file = file; version = 1; current = those levels (current i); stale = those levels (stale i) })

-- ---- the numbers of servers are places

abbrev pub IsPlace : ℕ → Server → Type 0
IsPlace count server = (0 < server.number) × (server.number ≤ count)

-- the server at such a place is the one of that number
pub node-found : (nodes : List NodeView) (server : Server) (node : NodeView) → IsPlace (length nodes) server → node ≡ get_or nodes (server.number - 1) node → node ≡ node_in nodes server.number
node-found nodes server node there at = at ∙ sym (get_or_default nodes (server.number - 1) (node_after_all 0 0 []) node (omega (arith, there.0, there.1)))

-- those of servers of a tree are no higher than their number
pub are-within : (levels : ℕ) (some : NodeView → Bool) (nodes : List NodeView) → AreOfTree levels 1 nodes → All (λ number. number ≤ length nodes) (passing some nodes)
are-within levels some nodes of_tree =
    All-map (λ (number : ℕ). number ≤ length nodes) (λ (node : NodeView). node.server) (filter some nodes)
    (All-filter some (λ (node : NodeView). node.server ≤ length nodes) nodes
    (λ k d h. let place = (at-place levels 1 nodes of_tree k (get_or nodes k d) h (get_or_default nodes k d (get_or nodes k d) h)).1 in omega (arith, place, h)))

pub are-places-of : (levels count low : ℕ) (numbers : List ℕ) → Ascends low numbers → All (λ number. number ≤ count) numbers → All (IsPlace count) (servers_of_numbers levels numbers)
are-places-of levels count low [] ascends within = All-nil (IsPlace count)
are-places-of levels count low (first ∷ rest) ascends within =
    let fits = All-head (λ number. number ≤ count) first rest within in
    All-cons (IsPlace count) (record { number = first; levels = levels }) (servers_of_numbers levels rest) (omega (arith, ascends.0), fits)
    (are-places-of levels count first rest ascends.1 (All-tail (λ number. number ≤ count) first rest within))

-- the servers that are left lead to the same row, and each is there
pub record LeadsOn (nodes : List NodeView) (levels : ℕ) (start row : FileRow) (all left : List Server) : Type 0 where
  pub of_tree : IsOfLevels levels row
  pub places : All (IsPlace (length nodes)) left
  pub same : stood_in nodes row left ≡ stood_in nodes start all
