-- Parts that are asked again what their journals have: the journals as far as they are followed.
use Rattle.std.{specs.Prelude.{reverse, replicate}, proofs.lemmas.List.{get_or-map, length-map, take_all}}
use Rattle.std.proofs.Common.{◌≡◌, ℕ, zero, suc, ◌+◌, ◌-◌, ◌<◌, ◌^◌, List, [], ◌∷◌, ◌++◌, length, map, take, set, get_or, refl, ap, sym, subst, ◌∙◌, arith, length-take-le}
use Rattle.tq_shape.specs.{declared.part.Entry.Entry, Journal.{IsLegal, IsLegalFrom}}
use Rattle.tq_shape.proofs.Joined.{legal-reverse, reverse-legal}
use Rattle.tq_node.specs.{NodeJournal.{NodeEntry, nothing_stored}, Records.{node_after, node_reply}}
use Rattle.tq_desk.specs.DeskJournal.{DeskEntry, opened_desk, step_after, step_reply}
use Rattle.tq_live.specs.View.{view_after_at, view_reply_at, view_state}
use Rattle.tq_tables.specs.Tables.{FollowsDesk, FollowsNode, FollowsView, MayAskDesk, MayAskNode, entries_of, with_node, TablesView, tables_of}
use Rattle.tq_tables.specs.Journals.{JournalsView, ViewEntry, no_entries, with_desk, with_view}
use Rattle.tq_tables.{specs.Parts.{AreLegal, AreLegalServers, bounds_of}, proofs.RowLaws.take-next}

-- ---- the servers' journals: whole before a place, at the place so many entries, and none behind it

abbrev none_of : List (List NodeEntry) → List (List NodeEntry)
none_of [] = []
none_of (x ∷ xs) = [] ∷ none_of xs

abbrev pub partly : ℕ → ℕ → List (List NodeEntry) → List (List NodeEntry)
partly place i [] = []
partly zero i (x ∷ xs) = take i x ∷ none_of xs
partly (suc place) i (x ∷ xs) = x ∷ partly place i xs

none-first : (xs : List (List NodeEntry)) → none_of xs ≡ partly 0 0 xs
none-first [] = refl
none-first (x ∷ xs) = refl

blank : (xs : List (List NodeEntry)) → replicate (length xs) [] ≡ none_of xs
blank [] = refl
blank (x ∷ xs) = ap (λ (rest : List (List NodeEntry)). [] ∷ rest) (blank xs)

length-none : (xs : List (List NodeEntry)) → length (none_of xs) ≡ length xs
length-none [] = refl
length-none (x ∷ xs) = ap (λ (n : ℕ). suc n) (length-none xs)

length-partly : (place i : ℕ) (xs : List (List NodeEntry)) → length (partly place i xs) ≡ length xs
length-partly place i [] = refl
length-partly zero i (x ∷ xs) = ap (λ (n : ℕ). suc n) (length-none xs)
length-partly (suc place) i (x ∷ xs) = ap (λ (n : ℕ). suc n) (length-partly place i xs)

read-partly : (place i : ℕ) (xs : List (List NodeEntry)) → place < length xs → get_or (partly place i xs) place [] ≡ take i (get_or xs place [])
read-partly place i [] less = absurd (omega (arith, less))
read-partly zero i (x ∷ xs) less = refl
read-partly (suc place) i (x ∷ xs) less = read-partly place i xs (omega (arith, less))

set-partly : (place i j : ℕ) (xs : List (List NodeEntry)) → set (partly place i xs) place (take j (get_or xs place [])) ≡ partly place j xs
set-partly place i j [] = refl
set-partly zero i j (x ∷ xs) = refl
set-partly (suc place) i j (x ∷ xs) = ap (λ (rest : List (List NodeEntry)). x ∷ rest) (set-partly place i j xs)

whole-partly : (place : ℕ) (xs : List (List NodeEntry)) → partly place (length (get_or xs place [])) xs ≡ partly (suc place) 0 xs
whole-partly place [] = refl
whole-partly zero (x ∷ xs) = λ i. take_all (length x) x (omega arith) i ∷ none-first xs i
whole-partly (suc place) (x ∷ xs) = ap (λ (rest : List (List NodeEntry)). x ∷ rest) (whole-partly place xs)

all-partly : (xs : List (List NodeEntry)) → partly (length xs) 0 xs ≡ xs
all-partly [] = refl
all-partly (x ∷ xs) = ap (λ (rest : List (List NodeEntry)). x ∷ rest) (all-partly xs)

-- a server's journal among those of all
pub server-count : {V : Type 0} (items : V → List NodeEntry) (all : List V) (servers : List (List NodeEntry)) → map items all ≡ servers → length all ≡ length servers
server-count items all servers are = sym (length-map all items) ∙ ap (λ (xs : List (List NodeEntry)). length xs) are

pub server-entries : {V : Type 0} (items : V → List NodeEntry) (all : List V) (servers : List (List NodeEntry)) → map items all ≡ servers → (place : ℕ) (v : V) → place < length all → v ≡ get_or all place v
    → (place < length servers) × (get_or servers place [] ≡ items v)
server-entries items all servers are place v less is =
    let count = server-count items all servers are in (
      omega (arith, count, less),
      ap (λ (xs : List (List NodeEntry)). get_or xs place []) (sym are) ∙ get_or-map items all place v [] less ∙ ap items (sym is),
    )

-- ---- they are legal

module _ {S A R : Type 0} (reply : S → ℕ → A → R) (after : S → ℕ → A → S) where
  from-take : (s : S) (n i : ℕ) (es : List (Entry A R)) → IsLegalFrom reply after s n es → IsLegalFrom reply after s n (take i es)
  from-take s n zero es legal = tt
  from-take s n (suc i) [] legal = tt
  from-take s n (suc i) (e ∷ es) legal = (legal.0, from-take (after s n e.ask) (n + 1) i es legal.1)

  legal-take : (s : S) (i : ℕ) (es : List (Entry A R)) → IsLegal reply after s (reverse es) → IsLegal reply after s (reverse (take i es))
  legal-take s i es legal = legal-reverse reply after s (take i es) (from-take s 1 i es (reverse-legal reply after s es legal))

legal-none : (first : ℕ) (xs : List (List NodeEntry)) → AreLegalServers first (none_of xs)
legal-none first [] = tt
legal-none first (x ∷ xs) = (tt, legal-none (first + 1) xs)

legal-partly : (first place i : ℕ) (xs : List (List NodeEntry)) → AreLegalServers first xs → AreLegalServers first (partly place i xs)
legal-partly first place i [] legal = tt
legal-partly first zero i (x ∷ xs) legal = (legal-take (λ old number ask. node_reply first old ask) (node_after first) nothing_stored i x legal.0, legal-none (first + 1) xs)
legal-partly first (suc place) i (x ∷ xs) legal = (legal.0, legal-partly (first + 1) place i xs legal.1)

-- ---- all journals

-- so many entries of the view and of the desk, and the servers' journals so
abbrev pub until : JournalsView → ℕ → ℕ → ℕ → ℕ → JournalsView
until journals v d place i = record journals { servers = partly place i journals.servers; desk = take d journals.desk; view = take v journals.view }

pub from_nothing : (journals : JournalsView) → length journals.servers + 1 ≡ 2 ^ journals.levels → no_entries journals.levels journals.limits ≡ until journals 0 0 0 0
from_nothing journals one_each =
    let count : 2 ^ journals.levels - 1 ≡ length journals.servers = omega (arith, one_each) in
    λ i. record journals { servers = (ap (λ (n : ℕ). let all : List (List NodeEntry) = replicate n [] in all) count ∙ blank journals.servers ∙ none-first journals.servers) i; desk = []; view = [] }

pub to_all : (journals : JournalsView) → until journals (length journals.view) (length journals.desk) (length journals.servers) 0 ≡ journals
to_all journals = λ i. record journals { servers = all-partly journals.servers i; desk = take_all (length journals.desk) journals.desk (omega arith) i; view = take_all (length journals.view) journals.view (omega arith) i }

pub next_server : (journals : JournalsView) (v d place : ℕ) → until journals v d place (length (get_or journals.servers place [])) ≡ until journals v d (place + 1) 0
next_server journals v d place =
    let next : suc place ≡ place + 1 = omega arith in
    λ i. record (until journals v d 0 0) { servers = (whole-partly place journals.servers ∙ ap (λ (k : ℕ). partly k 0 journals.servers) next) i }

module _ (journals : JournalsView) (legal : AreLegal journals) (v d place i : ℕ) where
  legal-until : AreLegal (until journals v d place i)
  legal-until =
      record {
        servers = legal-partly 1 place i journals.servers legal.servers;
        desk = legal-take step_reply step_after (opened_desk (bounds_of journals.levels journals.limits)) d journals.desk legal.desk;
        view = from-take view_reply_at view_after_at (view_state journals.levels []) 1 v journals.view legal.view;
      }

-- ---- one entry more

module _ (journals : JournalsView) (legal : AreLegal journals) (v d place i : ℕ) (old : TablesView) (stand : old ≡ tables_of (until journals v d place i)) where
  pub view-step : (e : ViewEntry) → v < length journals.view → e ≡ get_or journals.view v e → (new : TablesView) → FollowsView old new e.ask → new ≡ tables_of (until journals (v + 1) d place i)
  view-step e less is new follows =
      let next : with_view (until journals v d place i) e ≡ until journals (v + 1) d place i =
      λ j. record (until journals v d place i) { view = sym (take-next journals.view v e less is) j } in
      follows (until journals v d place i) e.reply (subst AreLegal (sym next) (legal-until journals legal (v + 1) d place i)) stand ∙ ap tables_of next

  pub desk-step : (e : DeskEntry) → d < length journals.desk → e ≡ get_or journals.desk d e → (new : TablesView) → FollowsDesk old new e.ask → new ≡ tables_of (until journals v (d + 1) place i)
  desk-step e less is new follows =
      let next : with_desk (until journals v d place i) e ≡ until journals v (d + 1) place i =
      λ j. record (until journals v d place i) { desk = sym (take-next journals.desk d e less is) j } in
      follows (until journals v d place i) e.reply (subst AreLegal (sym next) (legal-until journals legal v (d + 1) place i)) stand ∙ ap tables_of next

  pub may-ask-desk : d < length journals.desk → length journals.desk + 1 < 2 ^ 64 → MayAskDesk old
  may-ask-desk less few =
      let count = length-take-le d journals.desk (omega (arith, less)) in
      record { journals = until journals v d place i; stand = stand; few = omega (arith, count, less, few) }

  module _ (server : ℕ) (number : server ≡ place + 1) (there : place < length journals.servers) where
    at : server - 1 ≡ place
    at = omega (arith, number)

    has : entries_of (until journals v d place i) server ≡ take i (get_or journals.servers place [])
    has = ap (λ (k : ℕ). get_or (partly place i journals.servers) k []) at ∙ read-partly place i journals.servers there

    pub node-step : (e : NodeEntry) → i < length (get_or journals.servers place []) → e ≡ get_or (get_or journals.servers place []) i e → (new : TablesView) → FollowsNode old new server e.ask
        → new ≡ tables_of (until journals v d place (i + 1))
    node-step e less is new follows =
        let entries = get_or journals.servers place [] in
        let more : entries_of (until journals v d place i) server ++ e ∷ [] ≡ take (i + 1) entries =
        ap (λ (es : List NodeEntry). es ++ e ∷ []) has ∙ sym (take-next entries i e less is) in
        let all : set (partly place i journals.servers) (server - 1) (entries_of (until journals v d place i) server ++ e ∷ []) ≡ partly place (i + 1) journals.servers =
        (λ j. set (partly place i journals.servers) (at j) (more j)) ∙ set-partly place i (i + 1) journals.servers in
        let next : with_node (until journals v d place i) server e ≡ until journals v d place (i + 1) = λ j. record (until journals v d place i) { servers = all j } in
        follows (until journals v d place i) e.reply (subst AreLegal (sym next) (legal-until journals legal v d place (i + 1))) stand ∙ ap tables_of next

    pub may-ask-node : (count : ℕ) → count ≡ i + 1 → i < length (get_or journals.servers place []) → MayAskNode old server count
    may-ask-node count is less =
        let all = length-partly place i journals.servers in
        let those = ap (λ (es : List NodeEntry). length es) has ∙ length-take-le i (get_or journals.servers place []) (omega (arith, less)) in
        record {
          journals = until journals v d place i;
          stand = stand;
          there = (omega (arith, number), omega (arith, number, there, all));
          next = omega (arith, is, those);
        }
