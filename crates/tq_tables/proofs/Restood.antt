-- The tables as a whole. The tables with an entry more of a server.
use Rattle.std.proofs.Common.{◌≡◌, ◌+◌, ◌-◌, ◌^◌, ◌<◌, ℕ, zero, suc, cond, slice_index_or, ◌&&◌, List, [], length, map, refl, ap, ◌∙◌, arith, nat_le, ◌≤◌, false, ◌∷◌, ◌++◌, set, get_or}
use Rattle.std.proofs.lemmas.{List.{length-map, get_or-set_same, get_or_default}, List.Elements.All-map, Nat.pow_pos}
use Rattle.std.specs.Prelude.{reverse}
use Rattle.std.specs.FinMap as fin
use Rattle.tq_desk.{specs.DeskStep.DeskView, proofs.DecisionLog.desk_keeps}
use Rattle.tq_desk.specs.DeskJournal.{Commit, DeskBounds, DeskEntry, IsLegalDesk, desk_state, commits}
use Rattle.tq_live.specs.{Live.Live, View.upwards, declared.purpose.Purpose.Purpose}
use Rattle.tq_live.specs.declared.purpose.Purpose.TheVariants as purposes
use Rattle.tq_node.specs.{Node.{NodeView, server_after}, NodeJournal.NodeEntry}
use Rattle.tq_tables.specs.declared.{intent_rows.IntentState.TheVariants.Unknown, file_row.FileRow.FileRow}
use Rattle.tq_tables.specs.Rows.{intent_state_at, file_row, intent_rows, intent_state, least_for, least_in, least_row, no_quorums, quorum_row, quorum_rows, row_at, state_by, file_rows, lock_rows, is_in}
use Rattle.tq_tables.specs.{Journals.{no_entries, JournalsView}, Files.{AreExact, all_stood}}
use Rattle.tq_tables.specs.Parts.{PartsView, bounds_of, desk_at, parts_of, AreLegal, AreOfTree, node_after_all, nodes_at}
use Rattle.tq_tables.specs.Tables.{tables_at, tables_of, TablesView, entries_of, with_node, MayAskNode, node_in}
use Rattle.tq_tables.specs.declared.intent_rows.IntentState.{IntentState}
use Rattle.tq_tables.proofs.{RowLaws.{answered-push, desk_at-is, at-place}, Stood.all_stood-are}
use Rattle.tq_shape.specs.Limits.{LimitsView}
use Rattle.tq_store.specs.Copies.{copy_of}

length-upwards : (first count : ℕ) → length (upwards first count) ≡ count
length-upwards first zero = refl
length-upwards first (suc count) = ap (λ (n : ℕ). suc n) (length-upwards (first + 1) count)

-- there is a row for each server
pub length-quorum_rows : (live : Live) → length (quorum_rows live) + 1 ≡ 2 ^ live.levels
length-quorum_rows live =
    let count = length-map (upwards 1 (2 ^ live.levels - 1)) (quorum_row live) ∙ length-upwards 1 (2 ^ live.levels - 1) in
    let positive = pow_pos live.levels in
    omega (arith, count, positive)

-- what a function gives of numbers upwards, at a place
at_upwards : {A : Type 0} (f : ℕ → A) (first count place : ℕ) (other : A) → place < count → slice_index_or (map f (upwards first count)) place other ≡ f (first + place)
at_upwards f first zero place other within = absurd (omega arith)
at_upwards f first (suc count) zero other within = ap f (omega arith)
at_upwards f first (suc count) (suc place) other within =
    at_upwards f (first + 1) count place other (omega arith) ∙ ap f (omega arith)

-- the row of a server is at its place
pub least_in_rows : (live : Live) (purpose : Purpose) (server : ℕ) → 0 < server → server < 2 ^ live.levels → least_in (quorum_rows live) purpose server ≡ least_row live purpose server
least_in_rows live purpose server first within =
    let at = at_upwards (quorum_row live) 1 (2 ^ live.levels - 1) (server - 1) no_quorums (omega arith) in
    let same : 1 + (server - 1) ≡ server = omega arith in
    ap (least_for purpose) (at ∙ ap (quorum_row live) same) ∙ for_of purpose
  where
    for_of : (purpose : Purpose) → least_for purpose (quorum_row live server) ≡ least_row live purpose server
    for_of purposes.Read = refl
    for_of purposes.Write = refl

-- each says what the servers' copies of its file do
pub exact-rows : (levels : ℕ) (nodes : List NodeView) (list : List Commit) (files : List (List ℕ)) → AreExact levels nodes (map (file_row levels nodes list) files)
exact-rows levels nodes list files = All-map (λ (row : FileRow). row ≡ row_at levels nodes row.file row.version) (file_row levels nodes list) files (λ k d h. refl)

-- what a desk keeps says of a vote what its log does
pub states-same : (bounds : DeskBounds) (journal : List DeskEntry) (desk : DeskView) → IsLegalDesk bounds journal → desk ≡ desk_state bounds journal → intent_state_at desk ≡ intent_state journal
states-same bounds journal desk legal stands =
    let keeps = desk_keeps bounds journal legal in
    let begun_is = ap (λ (d : DeskView). d.begun) stands ∙ keeps.begun in
    λ i server txn number.
    cond (nat_le 1 txn && nat_le txn (begun_is i)) (state_by ((ap (λ (d : DeskView). fin.get d.finals txn) stands ∙ keeps.finals txn) i) server number) Unknown

-- the tables of a system that was asked nothing
pub empty-is : (levels : ℕ) (limits : LimitsView) (parts : PartsView) (rows : List FileRow) → parts ≡ parts_of (no_entries levels limits) → rows ≡ [] → tables_at parts rows ≡ tables_of (no_entries levels limits)
empty-is levels limits parts rows are none =
    let states = states-same (bounds_of levels limits) [] (desk_at levels limits []) tt refl in
    (λ i. tables_at (are i) (none i))
    ∙ (λ i. record (tables_of (no_entries levels limits)) { intentions = intent_rows (states i) (parts_of (no_entries levels limits)).nodes })

-- ---- restood

-- ---- the servers after their journals

length-nodes_at : (levels first : ℕ) (servers : List (List NodeEntry)) → length (nodes_at levels first servers) ≡ length servers
length-nodes_at levels first [] = refl
length-nodes_at levels first (x ∷ servers) = ap (λ (k : ℕ). suc k) (length-nodes_at levels (first + 1) servers)

get-nodes_at : (levels first : ℕ) (servers : List (List NodeEntry)) (place : ℕ) (d : NodeView) → place < length servers
    → get_or (nodes_at levels first servers) place d ≡ node_after_all levels (first + place) (get_or servers place [])
get-nodes_at levels first [] place d less = absurd (omega (arith, less))
get-nodes_at levels first (x ∷ servers) zero d less = ap (λ (n : ℕ). node_after_all levels n x) (omega arith)
get-nodes_at levels first (x ∷ servers) (suc place) d less =
    get-nodes_at levels (first + 1) servers place d (omega (arith, less))
    ∙ ap (λ (n : ℕ). node_after_all levels n (get_or servers place [])) (omega arith)

nodes_at-set : (levels first : ℕ) (servers : List (List NodeEntry)) (place : ℕ) (entries : List NodeEntry)
    → set (nodes_at levels first servers) place (node_after_all levels (first + place) entries) ≡ nodes_at levels first (set servers place entries)
nodes_at-set levels first [] place entries = refl
nodes_at-set levels first (x ∷ servers) zero entries = ap (λ (n : ℕ). node_after_all levels n entries ∷ nodes_at levels (first + 1) servers) (omega arith)
nodes_at-set levels first (x ∷ servers) (suc place) entries =
    ap (λ (n : ℕ). node_after_all levels first x ∷ set (nodes_at levels (first + 1) servers) place (node_after_all levels n entries)) (omega arith)
    ∙ ap (λ rest. node_after_all levels first x ∷ rest) (nodes_at-set levels (first + 1) servers place entries)

-- ---- what stands at a place

pub node_in-at : (nodes : List NodeView) (server : ℕ) → server - 1 < length nodes → node_in nodes server ≡ get_or nodes (server - 1) (node_in nodes server)
node_in-at nodes server less = get_or_default nodes (server - 1) (node_after_all 0 0 []) (node_in nodes server) less

-- ---- a server with one entry more

-- the tables with other servers, and with these rows of files
abbrev pub with_nodes : TablesView → List NodeView → List FileRow → TablesView
with_nodes old nodes files = record old { nodes = nodes; files = files; locks = lock_rows nodes; intentions = intent_rows (intent_state_at old.desk) nodes }

module _ (journals : JournalsView) (server : ℕ) (tables : TablesView) (node : NodeView) (stand : tables ≡ tables_of journals) (positive : 0 < server) (at : node ≡ get_or tables.nodes (server - 1) node) where
  many : length tables.nodes ≡ length journals.servers
  many = ap (λ (t : TablesView). length t.nodes) stand ∙ length-nodes_at journals.levels 1 journals.servers

  module _ (there : server ≤ length tables.nodes) where
    pub node_is : node ≡ node_after_all journals.levels server (entries_of journals server)
    node_is =
        let less : server - 1 < length journals.servers = omega (arith, positive, there, many) in
        let number : 1 + (server - 1) ≡ server = omega (arith, positive) in
        at
        ∙ ap (λ (t : TablesView). get_or t.nodes (server - 1) node) stand
        ∙ get-nodes_at journals.levels 1 journals.servers (server - 1) node less
        ∙ ap (λ (n : ℕ). node_after_all journals.levels n (entries_of journals server)) number

    pub last-is : node.last ≡ length (entries_of journals server)
    last-is = ap (λ (n : NodeView). n.last) node_is

    module _ (e : NodeEntry) (legal : AreLegal (with_node journals server e)) (number : ℕ) (next : number ≡ node.last + 1) where
      after_is : server_after node number e.ask ≡ node_after_all journals.levels server (entries_of journals server ++ e ∷ [])
      after_is =
          let count : number ≡ suc (length (entries_of journals server)) = omega (arith, next, last-is) in
          (λ i. server_after (node_is i) (count i) e.ask) ∙ answered-push journals.levels server (entries_of journals server) e

      nodes_next : set (nodes_at journals.levels 1 journals.servers) (server - 1) (server_after node number e.ask) ≡ nodes_at journals.levels 1 (with_node journals server e).servers
      nodes_next =
          let entries = entries_of journals server ++ e ∷ [] in
          let number : server ≡ 1 + (server - 1) = omega (arith, positive) in
          ap (λ (n : NodeView). set (nodes_at journals.levels 1 journals.servers) (server - 1) n) after_is
          ∙ ap (λ (n : ℕ). set (nodes_at journals.levels 1 journals.servers) (server - 1) (node_after_all journals.levels n entries)) number
          ∙ nodes_at-set journals.levels 1 journals.servers (server - 1) entries

      -- the tables with the servers so, and the rows of files that the servers then have
      pub node-noted : (new : TablesView) (nodes : List NodeView) (files : List FileRow) → nodes ≡ set tables.nodes (server - 1) (server_after node number e.ask)
          → files ≡ file_rows tables.view.levels nodes (commits (reverse journals.desk)) → new ≡ with_nodes tables nodes files → new ≡ tables_of (with_node journals server e)
      node-noted new nodes files nodes_are are is =
          let nodes_is : nodes ≡ nodes_at journals.levels 1 (with_node journals server e).servers =
          nodes_are ∙ ap (λ (t : TablesView). set t.nodes (server - 1) (server_after node number e.ask)) stand ∙ nodes_next in
          let desk = desk_at journals.levels journals.limits journals.desk in
          let states = states-same (bounds_of journals.levels journals.limits) (reverse journals.desk) desk legal.desk (desk_at-is journals.levels journals.limits journals.desk) in
          let files_is = are ∙ (λ i. file_rows (stand i).view.levels (nodes_is i) (commits (reverse journals.desk))) in
          let intents : intent_rows (intent_state_at desk) (nodes_at journals.levels 1 (with_node journals server e).servers) ≡ intent_rows (intent_state (reverse journals.desk)) (nodes_at journals.levels 1 (with_node journals server e).servers) =
          ap (λ (state : ℕ → ℕ → ℕ → IntentState). intent_rows state (nodes_at journals.levels 1 (with_node journals server e).servers)) states in
          is
          ∙ (λ i. with_nodes (stand i) (nodes_is i) (files_is i))
          ∙ (λ i. record (tables_of (with_node journals server e)) { intentions = intents i })

-- a server that may be asked is there
pub is_there : (tables : TablesView) (server number : ℕ) → MayAskNode tables server number → (0 < server) × (server ≤ length tables.nodes)
is_there tables server number next =
    let many = ap (λ (t : TablesView). length t.nodes) next.stand ∙ length-nodes_at next.journals.levels 1 next.journals.servers in
    (next.there.0, omega (arith, many, next.there.1))

-- and the number is the next one
pub next-number : (tables : TablesView) (server number : ℕ) (node : NodeView) → MayAskNode tables server number → node ≡ get_or tables.nodes (server - 1) node → number ≡ node.last + 1
next-number tables server number node next at =
    let there = is_there tables server number next in
    let last = last-is next.journals server tables node next.stand there.0 at there.1 in
    omega (arith, next.next, last)

-- such a server among the parts that the tables follow
module _ (parts : PartsView) (rows : List FileRow) (tables : TablesView) (view_is : tables_at parts rows ≡ tables) (server number : ℕ) (next : MayAskNode tables server number) where
  pub below : server - 1 < length parts.nodes
  below =
      let there = is_there tables server number next in
      let many = ap (λ (t : TablesView). length t.nodes) view_is in
      omega (arith, there.0, there.1, many)

  pub stands-at : node_in parts.nodes server ≡ get_or parts.nodes (server - 1) (node_in parts.nodes server)
  stands-at = node_in-at parts.nodes server below

  -- it is found there as it was put there
  pub found-put : (new : PartsView) (node found : NodeView) → new ≡ record parts { nodes = set parts.nodes (server - 1) node } → found ≡ get_or new.nodes (server - 1) found → found ≡ node
  found-put new node found after at = at ∙ ap (λ (p : PartsView). get_or p.nodes (server - 1) found) after ∙ get_or-set_same parts.nodes (server - 1) node found below

-- ---- the rows of files, where the server stands in those of the files whose copies changed

module _ (parts : PartsView) (of_tree : AreOfTree parts.view.levels 1 parts.nodes) (server : ℕ) (positive : 0 < server) (there : server ≤ length parts.nodes) (old node : NodeView)
    (at : old ≡ get_or parts.nodes (server - 1) old) (tree : node.levels ≡ old.levels) (same : node.server ≡ old.server) where
  place : (old.levels ≡ parts.view.levels) × (old.server ≡ 1 + (server - 1))
  place = at-place parts.view.levels 1 parts.nodes of_tree (server - 1) old (omega (arith, positive, there)) at

  pub of_levels : node.levels ≡ parts.view.levels
  of_levels = tree ∙ place.0

  pub rows-stand : (files : List (List ℕ)) → ((file : List ℕ) → is_in file files ≡ false → copy_of node.state.records.copies file ≡ copy_of old.state.records.copies file)
      → (rows : List FileRow) (journals : JournalsView) → rows ≡ file_rows parts.view.levels parts.nodes (commits (reverse journals.desk))
      → all_stood node rows files ≡ file_rows parts.view.levels (set parts.nodes (server - 1) node) (commits (reverse journals.desk))
  rows-stand files kept rows journals are =
      ap (λ (r : List FileRow). all_stood node r files) are
      ∙ all_stood-are parts.view.levels parts.nodes (server - 1) node of_tree (omega (arith, positive, there)) of_levels (same ∙ place.1) old at same files kept (commits (reverse journals.desk))

-- the tables at parts with other servers
pub with_nodes-at : (parts new : PartsView) (nodes : List NodeView) (files rows : List FileRow) → new ≡ record parts { nodes = nodes } → tables_at new files ≡ with_nodes (tables_at parts rows) new.nodes files
with_nodes-at parts new nodes files rows is = λ i. tables_at (record { nodes = new.nodes; desk = (is i).desk; view = (is i).view }) files
