-- Rows as they are gathered, one after another. The parts as their journals leave them, one entry after another.
use Rattle.std.proofs.Common.{◌≡◌, ℕ, zero, suc, ◌+◌, ◌≤◌, ◌<◌, Bool, true, cond, List, [], ◌∷◌, ◌++◌, length, map, filter, take, get_or, ap, sym, subst, ◌∙◌, arith, Option, Some, None, refl, length-take-le}
use Rattle.std.proofs.lemmas.List.{get_or-take, get_or_default, length-take, map-append, take_more, length_push}
use Rattle.std.proofs.lemmas.List.Elements.{All-filter, All-map, filter-append}
use mathlib.Core.List.{map-map}
use Rattle.std.specs.{List.All, Prelude.reverse}
use Rattle.tq_shape.specs.{ServerSet.Servers, Tree.Server, Limits.LimitsView, Journal.{state_from, state_at}}
use Rattle.tq_shape.proofs.Joined.{state-push, state-reverse}
use Rattle.tq_live.specs.{View.{upwards, view_after, view_reply_at, view_after_at, view_state}, Live.Live}
use Rattle.tq_node.specs.{Node.{NodeView, server_after}, Records.{NodeState, node_reply, node_after}}
use Rattle.tq_node.specs.NodeJournal.{NodeEntry}
use Rattle.tq_tables.specs.Parts.{AreOfTree, node_at, desk_at, node_after_all, nodes_at, bounds_of}
use Rattle.tq_tables.specs.{Rows.{row_at, servers_where}, Journals.ViewEntry}
use Rattle.tq_node.specs.Node as node
use Rattle.tq_desk.specs.declared.ask.{DeskAsk.DeskAsk, DeskRefusal.DeskRefusal}
use Rattle.tq_desk.specs.DeskStep.{DeskView, desk_reply, desk_after, desk_refusal, desk_answered}
use Rattle.tq_desk.specs.DeskJournal.{desk_state, step_reply, step_after, DeskEntry}
use Rattle.tq_desk.specs.declared.ask.DeskAsk.TheVariants as desk_asks
use Rattle.tq_desk.specs.DeskStep as desk

-- ---- lists

pub take-next : {X : Type 0} (xs : List X) (i : ℕ) (x : X) → i < length xs → x ≡ get_or xs i x → take (i + 1) xs ≡ take i xs ++ x ∷ []
take-next xs i x less is = take_more xs i x less ∙ ap (λ y. take i xs ++ y ∷ []) (sym is)

-- ---- quorums

pub upwards-push : (first count : ℕ) → upwards first (count + 1) ≡ upwards first count ++ (first + count) ∷ []
upwards-push first count = ap (upwards first) (one count) ∙ by first count
  where
    one : (k : ℕ) → k + 1 ≡ suc k
    one k = omega arith

    by : (first count : ℕ) → upwards first (suc count) ≡ upwards first count ++ (first + count) ∷ []
    by first zero = ap (λ (n : ℕ). n ∷ []) (omega arith)
    by first (suc count) = ap (λ rest. first ∷ rest) (by (first + 1) count ∙ ap (λ (n : ℕ). upwards (first + 1) count ++ n ∷ []) (omega arith))

-- ---- files

-- a server of a tree stands at its place
pub at-place : (levels first : ℕ) (nodes : List NodeView) → AreOfTree levels first nodes → (i : ℕ) (node : NodeView) → i < length nodes → node ≡ get_or nodes i node
    → (node.levels ≡ levels) × (node.server ≡ first + i)
at-place levels first [] of_tree i node less is = absurd (omega (arith, less))
at-place levels first (n ∷ nodes) of_tree zero node less is = (ap (λ (v : NodeView). v.levels) is ∙ of_tree.0.0, ap (λ (v : NodeView). v.server) is ∙ of_tree.0.1 ∙ omega arith)
at-place levels first (n ∷ nodes) of_tree (suc i) node less is =
    let rest = at-place levels (first + 1) nodes of_tree.1 i node (omega (arith, less)) is in
    (rest.0, rest.1 ∙ omega arith)

-- those before a place have smaller numbers
pub below-place : (levels first bound : ℕ) (test : NodeView → Bool) (nodes : List NodeView) → AreOfTree levels first nodes → (i : ℕ) → first + i ≤ bound
    → All (λ number. number < bound) (map (λ node. node.server) (filter test (take i nodes)))
below-place levels first bound test nodes of_tree i within =
    All-map (λ (number : ℕ). number < bound) (λ (node : NodeView). node.server) (filter test (take i nodes))
    (All-filter test (λ (node : NodeView). node.server < bound) (take i nodes) below)
  where
    below : All (λ (node : NodeView). node.server < bound) (take i nodes)
    below k d h =
        let count = length-take i nodes in
        let here : k < i = omega (arith, count, h) in
        let there : k < length nodes = omega (arith, count, h) in
        let node = get_or (take i nodes) k d in
        let place = (at-place levels first nodes of_tree k node there (get_or-take i nodes k d here ∙ get_or_default nodes k d node there)).1 in
        omega (arith, place, here, within)

-- one server more that passes
servers_where-in : (levels : ℕ) (test : NodeView → Bool) (nodes : List NodeView) (i : ℕ) (node : NodeView) → i < length nodes → node ≡ get_or nodes i node → test node ≡ true
    → servers_where levels test (take (i + 1) nodes) ≡ record { levels = levels; numbers = map (λ n. n.server) (filter test (take i nodes)) ++ node.server ∷ [] }
servers_where-in levels test nodes i node less is passes =
    ap (servers_where levels test) (take-next nodes i node less is)
    ∙ ap (λ (list : List NodeView). let s : Servers = record { levels = levels; numbers = map (λ n. n.server) list } in s)
    (filter-append test (take i nodes) (node ∷ []) ∙ ap (λ c. filter test (take i nodes) ++ cond c (node ∷ []) []) passes)
    ∙ ap (λ (list : List ℕ). let s : Servers = record { levels = levels; numbers = list } in s) (map-append (λ n. n.server) (filter test (take i nodes)) (node ∷ []))

-- a set of servers, as one more is put in
module _ (levels : ℕ) (test : NodeView → Bool) (nodes : List NodeView) (i : ℕ) (node : NodeView) (less : i < length nodes) (is : node ≡ get_or nodes i node) (old new : Servers) (so_far : old ≡ servers_where levels test (take i nodes)) where
  pub one-in : AreOfTree levels 1 nodes → test node ≡ true → (server : Server) → server.number ≡ node.server
      → (All (λ number. number < server.number) old.numbers → new ≡ record { levels = old.levels; numbers = old.numbers ++ server.number ∷ [] })
      → new ≡ servers_where levels test (take (i + 1) nodes)
  one-in of_tree passes server same put =
      let place = at-place levels 1 nodes of_tree i node less is in
      let number : server.number ≡ 1 + i = same ∙ place.1 in
      let below : All (λ number. number < server.number) old.numbers =
      subst (λ (s : Servers). All (λ number. number < server.number) s.numbers) (sym so_far) (below-place levels 1 server.number test nodes of_tree i (omega (arith, number))) in
      put below
      ∙ (λ j. record { levels = (so_far j).levels; numbers = (so_far j).numbers ++ same j ∷ [] })
      ∙ sym (servers_where-in levels test nodes i node less is passes)

-- the rows of files that are counted
pub rows-counted : (levels : ℕ) (nodes : List NodeView) (n : List ℕ → ℕ) (files : List (List ℕ))
    → map (λ (entry : List ℕ × ℕ). row_at levels nodes entry.0 entry.1) (map (λ file. (file, n file)) files) ≡ map (λ file. row_at levels nodes file (n file)) files
rows-counted levels nodes n files = map-map (λ (entry : List ℕ × ℕ). row_at levels nodes entry.0 entry.1) (λ file. (file, n file)) files

-- ---- replayed

-- ---- servers

pub nodes_at-push : (levels first : ℕ) (servers : List (List NodeEntry)) (entries : List NodeEntry)
    → nodes_at levels first (servers ++ entries ∷ []) ≡ nodes_at levels first servers ++ node_after_all levels (first + length servers) entries ∷ []
nodes_at-push levels first [] entries = ap (λ (n : ℕ). node_after_all levels n entries ∷ []) (omega arith)
nodes_at-push levels first (x ∷ servers) entries =
    ap (λ rest. node_after_all levels first x ∷ rest)
    (nodes_at-push levels (first + 1) servers entries
    ∙ ap (λ (n : ℕ). nodes_at levels (first + 1) servers ++ node_after_all levels n entries ∷ []) (omega arith))

pub AreOfTree-nodes_at : (levels first : ℕ) (servers : List (List NodeEntry)) → AreOfTree levels first (nodes_at levels first servers)
AreOfTree-nodes_at levels first [] = tt
AreOfTree-nodes_at levels first (x ∷ servers) = ((refl, refl), AreOfTree-nodes_at levels (first + 1) servers)

-- a server after one entry more
pub answered-push : (levels server : ℕ) (entries : List NodeEntry) (e : NodeEntry)
    → server_after (node_after_all levels server entries) (suc (length entries)) e.ask ≡ node_after_all levels server (entries ++ e ∷ [])
answered-push levels server entries e =
    let state : node_at server (entries ++ e ∷ []) ≡ node_after server (node_at server entries) (suc (length entries)) e.ask =
    state-push (λ old number ask. node_reply server old ask) (node_after server) (node.opening_server 0 server).state entries e in
    let count : length (entries ++ e ∷ []) ≡ suc (length entries) = length_push entries e ∙ omega arith in
    ap (λ (s : NodeState). let v : NodeView = record { levels = levels; server = server; state = s; last = suc (length entries) } in v) (sym state)
    ∙ ap (λ (n : ℕ). let v : NodeView = record { levels = levels; server = server; state = node_at server (entries ++ e ∷ []); last = n } in v) (sym count)

module _ (levels server : ℕ) (entries : List NodeEntry) (i : ℕ) (e : NodeEntry) (less : i < length entries) (is : e ≡ get_or entries i e) where
  pub node-next : (old new : NodeView) (number : ℕ) → old ≡ node_after_all levels server (take i entries) → number ≡ i + 1 → new ≡ server_after old number e.ask
      → new ≡ node_after_all levels server (take (i + 1) entries)
  node-next old new number so_far count stands =
      let length_is = length-take-le i entries (omega (arith, less)) in
      let at : number ≡ suc (length (take i entries)) = omega (arith, count, length_is) in
      stands
      ∙ (λ j. server_after (so_far j) (at j) e.ask)
      ∙ answered-push levels server (take i entries) e
      ∙ ap (node_after_all levels server) (sym (take-next entries i e less is))

-- ---- the desk

begun_step : (refused : Option DeskRefusal) (old : DeskView) (ask : DeskAsk) → (state_at refused old (desk_answered old ask)).begun ≤ old.begun + 1
begun_step None old desk_asks.Begin = omega arith
begun_step None old (desk_asks.Resolve txn) = omega arith
begun_step None old (desk_asks.Commit txn ops votes) = omega arith
begun_step (Some reason) old ask = omega arith

begun_from : (s : DeskView) (n : ℕ) (entries : List DeskEntry) → (state_from (λ old number ask. desk_after old ask) s n entries).begun ≤ s.begun + length entries
begun_from s n [] = omega arith
begun_from s n (e ∷ entries) =
    let one = begun_step (desk_refusal s e.ask) s e.ask in
    let rest = begun_from (desk_after s e.ask) (n + 1) entries in
    omega arith

-- there are no more transactions than entries
pub begun-bound : (levels : ℕ) (limits : LimitsView) (entries : List DeskEntry) → (desk_at levels limits entries).begun ≤ length entries
begun-bound levels limits entries = let b = begun_from (desk.opening_desk levels limits) 1 entries in omega arith

pub desk-push : (levels : ℕ) (limits : LimitsView) (entries : List DeskEntry) (e : DeskEntry) → desk_at levels limits (entries ++ e ∷ []) ≡ desk_after (desk_at levels limits entries) e.ask
desk-push levels limits entries e = state-push (λ old number ask. desk_reply old ask) (λ old number ask. desk_after old ask) (desk.opening_desk levels limits) entries e

pub desk-next : (levels : ℕ) (limits : LimitsView) (entries : List DeskEntry) (i : ℕ) (e : DeskEntry) → i < length entries → e ≡ get_or entries i e
    → (old new : DeskView) → old ≡ desk_at levels limits (take i entries) → new ≡ desk_after old e.ask → new ≡ desk_at levels limits (take (i + 1) entries)
desk-next levels limits entries i e less is old new so_far stands =
    stands ∙ ap (λ d. desk_after d e.ask) so_far ∙ sym (desk-push levels limits (take i entries) e) ∙ ap (desk_at levels limits) (sym (take-next entries i e less is))

pub desk-room : (levels : ℕ) (limits : LimitsView) (entries : List DeskEntry) (i : ℕ) (old : DeskView) → i ≤ length entries → old ≡ desk_at levels limits (take i entries) → old.begun ≤ i
desk-room levels limits entries i old most so_far =
    let count = length-take-le i entries most in
    subst (λ (d : DeskView). d.begun ≤ i) (sym so_far) (let b = begun-bound levels limits (take i entries) in omega (arith, b, count))

-- the desk as the log says, the newest entry first
pub desk_at-is : (levels : ℕ) (limits : LimitsView) (entries : List DeskEntry) → desk_at levels limits entries ≡ desk_state (bounds_of levels limits) (reverse entries)
desk_at-is levels limits entries = state-reverse step_reply step_after (desk.opening_desk levels limits) entries

-- ---- the view

-- the view after these entries
abbrev pub view_from : ℕ → List ViewEntry → Live
view_from levels entries = state_from view_after_at (view_state levels []) 1 entries

pub view-next : (levels : ℕ) (entries : List ViewEntry) (i : ℕ) (e : ViewEntry) → i < length entries → e ≡ get_or entries i e
    → (old new : Live) → old ≡ view_from levels (take i entries) → new ≡ view_after old e.ask → new ≡ view_from levels (take (i + 1) entries)
view-next levels entries i e less is old new so_far stands =
    stands ∙ ap (λ l. view_after l e.ask) so_far ∙ sym (state-push view_reply_at view_after_at (view_state levels []) (take i entries) e) ∙ ap (view_from levels) (sym (take-next entries i e less is))

pub of_tree-at : (levels : ℕ) (servers : List (List NodeEntry)) (nodes : List NodeView) (l : ℕ) → nodes ≡ nodes_at levels 1 servers → l ≡ levels → AreOfTree l 1 nodes
of_tree-at levels servers nodes l are is =
    subst (λ (n : List NodeView). AreOfTree l 1 n) (sym are)
    (subst (λ (k : ℕ). AreOfTree k 1 (nodes_at levels 1 servers)) (sym is) (AreOfTree-nodes_at levels 1 servers))
