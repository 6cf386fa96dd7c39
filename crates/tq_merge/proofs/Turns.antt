-- Placing in the code's own words: its counts, its lists of journals, and where it begins.
use Rattle.std.specs.{Prelude.{slice_get, slice_set}, Option.option_map}
use Rattle.std.proofs.Common.{◌≡◌, ◌≤◌, ◌<◌, ◌+◌, ◌-◌, ℕ, zero, suc, Bool, true, false, cond, List, [], ◌∷◌, ◌++◌, length, map, take, get_or, replicate, Some, refl, sym, ap, subst, ◌∙◌, ◌⊎◌, arith}
use Rattle.std.proofs.{Math.Path.transport, lemmas.Option.{slice_get_read, get_or_from_slice_get, slice_get-map}}
use Rattle.std.proofs.lemmas.List.{length-map, replicate_more}
use Rattle.tq_shape.specs.{Journal.Has, declared.part.Part.Part}
use Rattle.tq_shape.specs.declared.part.Part.TheVariants as parts
use Rattle.tq_asks.specs.declared.ask.CitedVote.{CitedVote}
use Rattle.tq_tables.specs.Journals.{JournalsView, ViewEntry}
use Rattle.tq_node.specs.NodeJournal.{NodeEntry}
use Rattle.tq_desk.specs.DeskJournal.{DeskEntry}
use Rattle.tq_core.specs.declared.answer.Step.TheVariants as steps
use Rattle.tq_core.specs.World.{item_at}
use Rattle.tq_merge.specs.Order.{same_part, times, each_from, IsNext, ArePlaced}
use Rattle.tq_merge.specs.Placing.{PlacingView, is_placed, is_ready, IsNextWanted, IsPlacing, entries_left}
use Rattle.tq_merge.proofs.{Places.{times-more, item_at-suc, length_each, get_each, take_none}, Greedy.placed-more}
use Rattle.tq_merge.proofs.Placed.{server_more, server_last, server_next, server_waits, desk_more, desk_next, desk_never, desk_waits, met_more, left_less}

-- ---- where it begins

has_get : {E : Type 0} (items : List E) (i : ℕ) → i < length items → (x : E) × (slice_get items i ≡ Some x)
has_get [] i less = absurd (omega (arith, less))
has_get (x ∷ items) zero less = (x, refl)
has_get (x ∷ items) (suc i) less = has_get items i (omega (arith, less))

one_more : (n : ℕ) → replicate (suc n) parts.View ≡ replicate n parts.View ++ parts.View ∷ []
one_more n = let at : suc n ≡ n + 1 = omega arith in ap (λ (k : ℕ). replicate k parts.View) at ∙ sym (replicate_more n parts.View)

views_times : (n : ℕ) (part : Part) → times (replicate n parts.View) part ≡ cond (same_part part parts.View) n 0
views_times zero part = by (same_part part parts.View)
  where
    by : (b : Bool) → Path ℕ 0 (cond b 0 0)
    by true = refl
    by false = refl
views_times (suc n) part =
    ap (λ (o : List Part). times o part) (one_more n) ∙ times-more (replicate n parts.View) parts.View part
    ∙ ap (λ (k : ℕ). k + cond (same_part part parts.View) 1 0) (views_times n part) ∙ by (same_part part parts.View)
  where
    by : (b : Bool) → cond b n 0 + cond b 1 0 ≡ cond b (suc n) 0
    by true = omega arith
    by false = omega arith

module _ (journals : JournalsView) where
  views_placed : (n : ℕ) → n ≤ length journals.view → ArePlaced journals [] (replicate n parts.View)
  views_placed zero most = tt
  views_placed (suc n) most =
      let e = has_get journals.view n (omega (arith, most)) in
      subst (λ (o : List Part). ArePlaced journals [] o) (sym (one_more n))
      (placed-more journals [] (replicate n parts.View) parts.View (views_placed n (omega (arith, most))) (record {
        step = steps.View e.0.ask;
        is_there =
            ap (λ (k : ℕ). option_map (λ (x : ViewEntry). steps.View x.ask) (item_at journals.view (suc k))) (views_times n parts.View)
            ∙ ap (option_map (λ (x : ViewEntry). steps.View x.ask)) (item_at-suc journals.view n ∙ e.1);
        founded = refl;
      }))

  zeros : (first : ℕ) (servers : List (List NodeEntry)) (count : ℕ → ℕ) → ((n : ℕ) → count n ≡ 0) → replicate (length servers) 0 ≡ each_from (λ n (es : List NodeEntry). count n) first servers
  zeros first [] count none = refl
  zeros first (x ∷ servers) count none = λ i. sym (none first) i ∷ zeros (first + 1) servers count none i

  pub opened : (order : List Part) (servers : List ℕ) (stands : Bool) (wanted : List CitedVote) → order ≡ replicate (length journals.view) parts.View → servers ≡ replicate (length journals.servers) 0
      → IsNextWanted journals 0 stands wanted → IsPlacing journals order servers 0 stands wanted 0
  opened order servers stands wanted ordered counted next = subst (λ (o : List Part). IsPlacing journals o servers 0 stands wanted 0) (sym ordered) (record {
    founded = views_placed (length journals.view) (omega arith);
    of_servers = counted ∙ zeros 1 journals.servers (λ n. times (replicate (length journals.view) parts.View) (parts.Server n)) (λ n. views_times (length journals.view) (parts.Server n));
    of_desk = sym (views_times (length journals.view) parts.Desk);
    of_view = views_times (length journals.view) parts.View;
    next = next;
    seen = λ entry has. absurd (subst (λ (xs : List CitedVote). Has xs entry) (take_none wanted) has);
    within = omega arith;
  })

-- ---- a server in the code's words

-- the journal that is read is the server's
pub server_here : {V : Type 0} (items : V → List NodeEntry) (vectors : List V) (servers : List (List NodeEntry)) (place : ℕ) (v : V) → map items vectors ≡ servers → place < length servers → v ≡ get_or vectors place v
    → item_at servers (suc place) ≡ Some (items v)
server_here items vectors servers place v same less is =
    let size = ap length same in
    let count = length-map vectors items in
    item_at-suc servers place ∙ ap (λ (xs : List (List NodeEntry)). slice_get xs place) (sym same)
    ∙ slice_get-map items vectors place ∙ ap (option_map items) (slice_get_read vectors (length vectors) place v refl (omega (arith, less, size, count)) is)

module _ (journals : JournalsView) (order : List Part) (servers : List ℕ) (desk : ℕ) (stands : Bool) (wanted : List CitedVote) (met : ℕ) (is : IsPlacing journals order servers desk stands wanted met)
    (v : PlacingView) (view_is : Path PlacingView (record { journals = journals; order = order }) v) (place : ℕ) (within : place < length v.journals.servers) where
  less : place < length journals.servers
  less = subst (λ (w : PlacingView). place < length w.journals.servers) (sym view_is) within

  pub in_counts : place < length servers
  in_counts = let size = ap length is.of_servers ∙ length_each (λ n (es : List NodeEntry). times order (parts.Server n)) 1 journals.servers in omega (arith, less, size)

  -- the count that is read is the server's
  count_here : (count : ℕ) → count ≡ get_or servers place count → count ≡ times order (parts.Server (suc place))
  count_here count at =
      let e = has_get journals.servers place less in
      at
      ∙ get_or_from_slice_get servers place (times order (parts.Server (suc place))) count
      (ap (λ (cs : List ℕ). slice_get cs place) is.of_servers
      ∙ get_each (λ n (es : List NodeEntry). times order (parts.Server n)) 1 journals.servers place
      ∙ ap (option_map (λ (es : List NodeEntry). times order (parts.Server (1 + place)))) e.1
      ∙ ap (λ (n : ℕ). Some (times order (parts.Server n))) (omega arith))

  -- the server's entries, and how many are placed, as they are read
  module _ {V : Type 0} (items : V → List NodeEntry) (vectors : List V) (vector : V) (listed : map items vectors ≡ journals.servers) (vector_is : vector ≡ get_or vectors place vector)
      (entries : List NodeEntry) (entries_are : entries ≡ items vector) (count : ℕ) (at : count ≡ get_or servers place count) where
    here : item_at journals.servers (suc place) ≡ Some entries
    here = server_here items vectors journals.servers place vector listed less vector_is ∙ ap (λ (es : List NodeEntry). Some es) (sym entries_are)

    pub place_last : length entries ≤ count → IsNext v.journals v.order (parts.Server (suc place)) → ⊥
    place_last short =
        let same = count_here count at in
        subst (λ (w : PlacingView). IsNext w.journals w.order (parts.Server (suc place)) → ⊥) view_is
        (server_last journals order servers desk stands wanted met is (suc place) entries here (omega (arith, short, same)))

    -- the next one, and whether it can be placed
    module _ (e : NodeEntry) (inside : count < length entries) (item : e ≡ get_or entries count e) (counts : List ℕ) (counts_are : counts ≡ servers) (ready : Bool) (ready_is : ready ≡ is_ready journals counts desk e.ask) where
      there : slice_get entries (times order (parts.Server (suc place))) ≡ Some e
      there = ap (slice_get entries) (sym (count_here count at)) ∙ slice_get_read entries (length entries) count e refl inside item

      told : is_ready journals servers desk e.ask ≡ ready
      told = sym (ready_is ∙ ap (λ (cs : List ℕ). is_ready journals cs desk e.ask) counts_are)

      pub place_waits : ready ≡ false → IsNext v.journals v.order (parts.Server (suc place)) → ⊥
      place_waits waits =
          subst (λ (w : PlacingView). IsNext w.journals w.order (parts.Server (suc place)) → ⊥) view_is
          (server_waits journals order servers desk stands wanted met is (suc place) entries e here there (told ∙ waits))

      pub place_more : ready ≡ true → (after : List Part) → after ≡ order ++ parts.Server (place + 1) ∷ []
          → IsPlacing journals after (slice_set servers place (count + 1)) desk stands wanted met × (suc (entries_left journals after) ≡ entries_left v.journals v.order)
      place_more is_so after entered =
          let next = server_next journals order servers desk stands wanted met is (suc place) entries e here there (told ∙ is_so) in
          let number : place + 1 ≡ suc place = omega arith in
          let before : suc place - 1 ≡ place = omega arith in
          let one : count + 1 ≡ suc count = omega arith in
          let order_is : after ≡ order ++ parts.Server (suc place) ∷ [] = entered ∙ ap (λ (n : ℕ). order ++ parts.Server n ∷ []) number in (
            subst (λ (o : List Part). IsPlacing journals o (slice_set servers place (count + 1)) desk stands wanted met) (sym order_is)
                (server_more journals order servers desk stands wanted met is (suc place) (slice_set servers place (count + 1)) next
                ((λ i. slice_set servers (sym before i) (one i)) ∙ ap (λ (n : ℕ). slice_set servers (suc place - 1) (suc n)) (count_here count at))),
            ap (λ (o : List Part). suc (entries_left journals o)) order_is
                ∙ left_less journals order (parts.Server (suc place)) (λ e. let h : Path Part (parts.Server (suc place)) parts.View = e in cc) next
                ∙ ap (λ (w : PlacingView). entries_left w.journals w.order) view_is,
          )

-- ---- the desk in the code's words

module _ (journals : JournalsView) (order : List Part) (servers : List ℕ) (desk : ℕ) (stands : Bool) (wanted : List CitedVote) (met : ℕ) (is : IsPlacing journals order servers desk stands wanted met)
    (v : PlacingView) (view_is : Path PlacingView (record { journals = journals; order = order }) v) (entries : List DeskEntry) (entries_are : entries ≡ journals.desk) (less : desk < length entries) where
  e_there : (e : DeskEntry) × (slice_get journals.desk desk ≡ Some e)
  e_there = has_get journals.desk desk (subst (λ (es : List DeskEntry). desk < length es) entries_are less)

  pub never : stands ≡ false → IsNext v.journals v.order parts.Desk → ⊥
  never not_there =
      subst (λ (w : PlacingView). IsNext w.journals w.order parts.Desk → ⊥) view_is
      (desk_never journals order servers desk stands wanted met is e_there.0 e_there.1 not_there)

  module _ (cited : List CitedVote) (counts : List ℕ) (cited_is : cited ≡ wanted) (counts_are : counts ≡ servers) (found : ℕ) (fits : found ≤ length cited)
      (seen : (entry : CitedVote) → Has (take found cited) entry → Has (take met cited) entry ⊎ (is_placed counts entry ≡ true)) where
    pub seen_more : IsPlacing journals order servers desk stands wanted found
    seen_more =
        met_more journals order servers desk stands wanted met is found (subst (λ (w : List CitedVote). found ≤ length w) cited_is fits)
        (transport (λ i. (entry : CitedVote) → Has (take found (cited_is i)) entry → Has (take met (cited_is i)) entry ⊎ (is_placed (counts_are i) entry ≡ true)) seen)

    pub waits : (entry : CitedVote) × Has cited entry × (is_placed counts entry ≡ false) → IsNext journals order parts.Desk → ⊥
    waits missing =
        desk_waits journals order servers desk stands wanted met is e_there.0 e_there.1 missing.0 (subst (λ (w : List CitedVote). Has w missing.0) cited_is missing.1)
        (ap (λ (cs : List ℕ). is_placed cs missing.0) (sym counts_are) ∙ missing.2)

    pub desk_placed : stands ≡ true → length cited ≤ found → (newly : Bool) (fresh : List CitedVote) → IsNextWanted journals (desk + 1) newly fresh → (after : List Part) → after ≡ order ++ parts.Desk ∷ []
        → IsPlacing journals after servers (desk + 1) newly fresh 0 × (suc (entries_left journals after) ≡ entries_left v.journals v.order)
    desk_placed there all newly fresh next after entered =
        let at : suc desk ≡ desk + 1 = omega arith in
        let ready = desk_next journals order servers desk stands wanted found seen_more e_there.0 e_there.1 there (subst (λ (w : List CitedVote). length w ≤ found) cited_is all) in (
          transport (λ i. IsPlacing journals (sym entered i) servers (at i) newly fresh 0)
              (desk_more journals order servers desk stands wanted found seen_more newly fresh ready (subst (λ (n : ℕ). IsNextWanted journals n newly fresh) (sym at) next)),
          ap (λ (o : List Part). suc (entries_left journals o)) entered
              ∙ left_less journals order parts.Desk (λ e. let h : Path Part parts.Desk parts.View = e in cc) ready
              ∙ ap (λ (w : PlacingView). entries_left w.journals w.order) view_is,
        )
