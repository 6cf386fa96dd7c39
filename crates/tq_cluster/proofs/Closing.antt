-- The names of servers, upwards from the first. What comes of the journals of a cluster, said of the cluster. The
-- journals that come out of cells are those of a system.
use Rattle.std.proofs.Common.{◌≡◌, ◌<◌, ◌≤◌, ◌+◌, ◌-◌, ℕ, zero, suc, List, [], ◌∷◌, ◌++◌, length, get_or, ap, sym, subst, ◌∙◌, arith, length-append, Option, Some, None, refl, ◌^◌, map}
use Rattle.std.proofs.lemmas.{List.Elements.All-push, List.{length-map, map-append}}
use Rattle.std.specs.{Option.{MatchOption, IfNone}, Prelude.reverse, List.All}
use Rattle.tq_shape.specs.{declared.part.Part.Part, Journal.IsLegalFrom, Limits.LimitsView}
use Rattle.tq_shape.proofs.Joined.{legal-reverse}
use Rattle.tq_shape.specs.declared.part.Part.TheVariants as parts
use Rattle.tq_cluster.specs.Cluster.{AreServers, ClusterView, AreOfCluster, IsClosedBy, AreTablesOfPrefixes}
use Rattle.tq_txn.specs.declared.asker.Exchange.{Exchange}
use Rattle.tq_tables.specs.{Journals.{JournalsView, IsOfTree, ViewEntry, AreJournals}, Tables.tables_of}
use Rattle.tq_tables.specs.Parts.{AreLegal, AreLegalServers, bounds_of}
use Rattle.tq_mirror.specs.Prefixes.{AllBegin}
use Rattle.tq_merge.specs.{declared.fault.CloseFault.CloseFault, Told.{IsCloseFault, AreKept}, Order.IsStuck}
use Rattle.tq_merge.specs.declared.fault.CloseFault.TheVariants as faults
use Rattle.tq_asks.specs.declared.ask.NodeAsk.{NodeAsk}
use Rattle.tq_node.specs.{Records.{NodeState, node_reply, node_after}, Node.{NodeView, server_after}}
use Rattle.tq_node.specs.NodeJournal.{NodeEntry, IsLegalNode, nothing_stored}
use Rattle.tq_node.specs.Node as node
use Rattle.tq_desk.specs.{declared.ask.DeskAsk.DeskAsk, DeskStep.{DeskView, desk_reply, desk_after}}
use Rattle.tq_desk.specs.DeskJournal.{DeskBounds, DeskEntry, IsLegalDesk, step_reply, step_after, opened_desk}
use Rattle.tq_desk.specs.DeskStep as desk

pub one_more : (first : ℕ) (names : List Part) → AreServers first names → AreServers first (names ++ parts.Server (first + length names) ∷ [])
one_more first [] named = (ap parts.Server (omega arith), tt)
one_more first (name ∷ names) named =
    (named.0, subst (λ (n : ℕ). AreServers (first + 1) (names ++ parts.Server n ∷ [])) (omega arith) (one_more (first + 1) names named.1))

pub name_at : (first : ℕ) (names : List Part) (place : ℕ) (d : Part) → AreServers first names → place < length names → get_or names place d ≡ parts.Server (first + place)
name_at first [] place d named within = absurd (omega arith)
name_at first (name ∷ names) zero d named within = named.0 ∙ ap parts.Server (omega arith)
name_at first (name ∷ names) (suc place) d named within = name_at (first + 1) names place d named.1 (omega arith) ∙ ap parts.Server (omega arith)

-- the server after those that have a cell gets one
pub one_server_more : (names longer : List Part) (count : ℕ) (name : Part) → AreServers 1 names × (length names ≡ count) → name ≡ parts.Server (count + 1) → longer ≡ names ++ name ∷ []
    → AreServers 1 longer × (length longer ≡ count + 1)
one_server_more names longer count name before is grown =
    let so_many = before.1 in
    let next : 1 + length names ≡ count + 1 = omega arith in
    let ends : longer ≡ names ++ parts.Server (1 + length names) ∷ [] = grown ∙ ap (λ (p : Part). names ++ p ∷ []) (is ∙ ap parts.Server (sym next)) in
    let long = ap length grown in
    let sum = length-append names (name ∷ []) in
    (subst (λ (l : List Part). AreServers 1 l) (sym ends) (one_more 1 names before.0), omega arith)

-- the cell at a server's place has that server's name
pub named_by : (names : List Part) (number : ℕ) (here : Part) → AreServers 1 names → 0 < number → number ≤ length names → here ≡ get_or names (number - 1) here → here ≡ parts.Server number
named_by names number here named least most at =
    let within : number - 1 < length names = omega arith in
    at ∙ name_at 1 names (number - 1) here named within ∙ ap parts.Server (omega arith)

-- ---- closing

pub closed_by : (cluster : ClusterView) (journals : JournalsView) (told : List (List Exchange)) (fault : CloseFault) → AreOfCluster cluster journals → IsCloseFault journals told fault → IsClosedBy cluster told fault
closed_by cluster journals told faults.Memory of_cluster is = tt
closed_by cluster journals told (faults.Receipt part number found) of_cluster is = (journals, of_cluster, is.0, is.1)
closed_by cluster journals told (faults.Stuck given placed) of_cluster is = (
  subst (AreOfCluster cluster) (sym is.1) of_cluster,
  subst (λ (j : JournalsView). AreKept j told) (sym is.1) is.0,
  subst (λ (j : JournalsView). IsStuck j placed) (sym is.1) is.2,
)

-- no part is astray: the tables over what was pulled are those over prefixes of the journals
pub over_prefixes : (prefixes journals : JournalsView) (astray : Option Part) (IsAstray : Part → Type 0)
    → prefixes.levels ≡ journals.levels → prefixes.limits ≡ journals.limits → AreLegal prefixes
    → MatchOption astray (AllBegin prefixes journals) IsAstray → IfNone astray (AreTablesOfPrefixes journals (tables_of prefixes))
over_prefixes prefixes journals None IsAstray levels limits legal begin =
    record { prefixes = prefixes; levels = levels; limits = limits; begin = begin; legal = legal; over = refl }
over_prefixes prefixes journals (Some part) IsAstray levels limits legal is = tt

-- ---- legal parts

-- ---- servers

-- a server's journal says nothing of its tree and of the last number
from_state : (s : NodeView) (n : ℕ) (entries : List NodeEntry) → IsLegalFrom (λ (v : NodeView) (k : ℕ) (a : NodeAsk). node_reply v.server v.state a) (λ v k a. server_after v k a) s n entries
    → IsLegalFrom (λ (old : NodeState) (k : ℕ) (a : NodeAsk). node_reply s.server old a) (node_after s.server) s.state n entries
from_state s n [] legal = tt
from_state s n (e ∷ entries) legal = (legal.0, from_state (server_after s n e.ask) (n + 1) entries legal.1)

pub node_legal : (levels there number : ℕ) (entries : List NodeEntry) → there ≡ number
    → IsLegalFrom (λ (v : NodeView) (k : ℕ) (a : NodeAsk). node_reply v.server v.state a) (λ v k a. server_after v k a) (node.opening_server levels there) 1 entries → IsLegalNode number (reverse entries)
node_legal levels there number entries same legal =
    subst (λ (n : ℕ). IsLegalNode n (reverse entries)) same
    (legal-reverse (λ (old : NodeState) (k : ℕ) (a : NodeAsk). node_reply there old a) (node_after there) nothing_stored entries (from_state (node.opening_server levels there) 1 entries legal))

pub one_legal_more : (first number : ℕ) (servers : List (List NodeEntry)) (entries : List NodeEntry) → AreLegalServers first servers → number ≡ first + length servers
    → IsLegalNode number (reverse entries) → AreLegalServers first (servers ++ entries ∷ [])
one_legal_more first number [] entries legal at one = (subst (λ (n : ℕ). IsLegalNode n (reverse entries)) (let n : number ≡ first = omega arith in n) one, tt)
one_legal_more first number (s ∷ servers) entries legal at one = (legal.0, one_legal_more (first + 1) number servers entries legal.1 (omega arith) one)

-- ---- the desk

-- the journal of a desk of these levels and limits
pub desk_legal : (s : DeskView) (levels : ℕ) (limits : LimitsView) (entries : List DeskEntry) → s.levels ≡ levels → s.limits ≡ limits
    → IsLegalFrom (λ (d : DeskView) (k : ℕ) (a : DeskAsk). desk_reply d a) (λ d k a. desk_after d a) (desk.opening_desk s.levels s.limits) 1 entries
    → IsLegalDesk (bounds_of levels limits) (reverse entries)
desk_legal s levels limits entries same_levels same_limits legal =
    subst (λ (b : DeskBounds). IsLegalDesk b (reverse entries)) (λ i. bounds_of (same_levels i) (same_limits i))
    (legal-reverse step_reply step_after (opened_desk (bounds_of s.levels s.limits)) entries legal)

-- ---- journals put together

module _ {V : Type 0} (old new : List V) (one : V) (items : V → List NodeEntry) (grown : new ≡ old ++ one ∷ []) where
  mapped : map items new ≡ map items old ++ items one ∷ []
  mapped = ap (map items) grown ∙ map-append items old (one ∷ [])

  pub journals_more : (number : ℕ) → AreLegalServers 1 (map items old) → number ≡ length old + 1 → IsLegalNode number (reverse (items one)) → AreLegalServers 1 (map items new)
  journals_more number legal at one_legal =
      let count = length-map old items in
      subst (AreLegalServers 1) (sym mapped) (one_legal_more 1 number (map items old) (items one) legal (omega (arith, count, at)) one_legal)

  pub fit_more : (entries : ℕ) → All (λ (journal : List NodeEntry). length journal ≤ entries) (map items old) → length (items one) ≤ entries
      → All (λ (journal : List NodeEntry). length journal ≤ entries) (map items new)
  fit_more entries fit fits =
      let P : List NodeEntry → Type 0 = λ journal. length journal ≤ entries in
      subst (All P) (sym mapped) (All-push P (map items old) (items one) fit fits)

pub are_journals : {V : Type 0} (servers : List V) (items : V → List NodeEntry) (levels entries : ℕ) (limits : LimitsView) (desk : List DeskEntry) (view : List ViewEntry) → entries ≡ limits.entries
    → length servers + 1 ≡ 2 ^ levels → All (λ (journal : List NodeEntry). length journal ≤ entries) (map items servers) → length desk ≤ entries → length view ≤ entries
    → All (λ (entry : ViewEntry). IsOfTree levels entry.reply) view → AreJournals (record { levels = levels; limits = limits; servers = map items servers; desk = desk; view = view })
are_journals servers items levels entries limits desk view is one_each fit desk_fits view_fits of_tree =
    record {
      one_each = (let count = length-map servers items in omega (arith, count, one_each));
      servers_fit = subst (λ (n : ℕ). All (λ (journal : List NodeEntry). length journal ≤ n) (map items servers)) is fit;
      desk_fits = omega (arith, is, desk_fits);
      view_fits = omega (arith, is, view_fits);
      of_tree = of_tree;
    }
