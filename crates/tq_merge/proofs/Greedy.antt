-- Order or none: an order after which no part is next has placed the most of each part. Whether all entries are
-- placed, and what follows where they are or are not. Rounds: each part in its turn, until nothing can be placed.
use Rattle.std.proofs.Common.{◌≡◌, ◌≢◌, ◌≤◌, ◌<◌, ℕ, suc, Bool, true, false, List, [], ◌∷◌, ◌++◌, length, Option, Some, refl, sym, ap, subst, ◌∙◌, nat_lt, arith, append_assoc, ◌⊎◌, inl, inr, ◌+◌, ◌-◌, cond, map, None}
use Rattle.std.proofs.lemmas.{Bool.{false≢true, cases_Bool}, List.append-nil, Option.{slice_get-map, slice_get_within}}
use Rattle.std.{proofs.Math.Path.transport, specs.{Option.{unwrap_or, option_map}, Prelude.slice_get}}
use Rattle.tq_shape.specs.declared.part.Part.{Part}
use Rattle.tq_shape.specs.declared.part.Part.TheVariants as parts
use Rattle.tq_tables.specs.{Journals.{JournalsView, ViewEntry, AreJournals}, Parts.AreLegal}
use Rattle.tq_node.{specs.NodeJournal.NodeEntry, proofs.KeptLocks.map-some}
use Rattle.tq_desk.specs.DeskJournal.{DeskEntry}
use Rattle.tq_core.specs.{declared.answer.Step.Step, World.{item_at, server_entry}, Steps.run}
use Rattle.tq_core.{specs.Headline.HasCommittedReads, proofs.{Committed.reads_of_run, Journaled.item_above}}
use Rattle.tq_core.specs.declared.answer.Step.TheVariants as steps
use Rattle.tq_merge.specs.{declared.fault.Counts.Counts, Placing.{IsPlacing, IsDone, entries_left}}
use Rattle.tq_merge.specs.Order.{same_part, times, entries_of, counts_of, step_at, IsNext, ArePlaced, IsStuck, each_from, Explains, asks_of}
use Rattle.tq_merge.proofs.Places.{same_part-is, same_part-refl, times-same, times-other, item_at-suc, item_each}
use Rattle.tq_merge.proofs.{Founding.founded_more, Runs.{chained, is_entry, run_is, of_run}}
use Rattle.tq_asks.specs.declared.ask.CitedVote.{CitedVote}

cases_le : (a b : ℕ) → a ≤ b → (a < b) ⊎ (a ≡ b)
cases_le a b le = by (nat_lt a b) refl
  where
    by : (t : Bool) → nat_lt a b ≡ t → (a < b) ⊎ (a ≡ b)
    by true t = inl (grind (arith, t))
    by false t = inr (grind (arith, t, le))

same_or_not : (a b : Part) → (a ≡ b) ⊎ (a ≢ b)
same_or_not a b = by (same_part a b) refl
  where
    by : (t : Bool) → same_part a b ≡ t → (a ≡ b) ⊎ (a ≢ b)
    by true t = inl (same_part-is a b t)
    by false t = inr (λ e. false≢true (sym t ∙ sym (ap (λ x. same_part a x) e) ∙ same_part-refl a))

module _ (journals : JournalsView) where
  -- one entry more
  pub placed-more : (before order : List Part) (part : Part) → ArePlaced journals before order → IsNext journals (before ++ order) part → ArePlaced journals before (order ++ part ∷ [])
  placed-more before [] part done next = (subst (λ (b : List Part). IsNext journals b part) (append-nil before) next, tt)
  placed-more before (p ∷ order) part done next =
      (done.0, placed-more (before ++ p ∷ []) order part done.1 (subst (λ (b : List Part). IsNext journals b part) (sym (append_assoc before (p ∷ []) order)) next))

  -- what is next stays next while other parts are placed
  pub next_stays : (before after : List Part) (part : Part) → ((q : Part) → times before q ≤ times after q) → times before part ≡ times after part → IsNext journals before part → IsNext journals after part
  next_stays before after part less same next = record {
    step = next.step;
    is_there = ap (λ (n : ℕ). step_at journals part (suc n)) (sym same) ∙ next.is_there;
    founded = founded_more journals (times before) (times after) next.step less next.founded;
  }

  greatest_from : (order : List Part) → ((p : Part) → IsNext journals order p → ⊥) → (before other : List Part) → ((q : Part) → times before q ≤ times order q) → ArePlaced journals before other
      → (q : Part) → times (before ++ other) q ≤ times order q
  greatest_from order blocked before [] less done q = subst (λ (b : List Part). times b q ≤ times order q) (sym (append-nil before)) (less q)
  greatest_from order blocked before (p ∷ other) less done q =
      subst (λ (b : List Part). times b q ≤ times order q) (append_assoc before (p ∷ []) other)
      (greatest_from order blocked (before ++ p ∷ []) other (λ r. more r (same_or_not r p)) done.1 q)
    where
      at : (times before p < times order p) ⊎ (times before p ≡ times order p) → times (before ++ p ∷ []) p ≤ times order p
      at (inl less_here) = let s = times-same before p in omega arith
      at (inr same) = absurd (blocked p (next_stays before order p less same done.0))

      more : (r : Part) → (r ≡ p) ⊎ (r ≢ p) → times (before ++ p ∷ []) r ≤ times order r
      more r (inl e) = subst (λ (x : Part). times (before ++ p ∷ []) x ≤ times order x) (sym e) (at (cases_le _ _ (less p)))
      more r (inr apart) = subst (λ n. n ≤ times order r) (sym (times-other before p r apart)) (less r)

  -- no order of entries places more than one after which no part is next
  pub greatest : (order : List Part) → ((p : Part) → IsNext journals order p → ⊥) → (other : List Part) → ArePlaced journals [] other → (q : Part) → times other q ≤ times order q
  greatest order blocked other done q = greatest_from order blocked [] other (λ r. omega arith) done q

  -- ---- no part has more entries placed than it has

  step_within : (part : Part) (count : ℕ) (step : Step) → step_at journals part (suc count) ≡ Some step → suc count ≤ entries_of journals part
  step_within (parts.Server server) count step is =
      let made = map-some (λ (e : NodeEntry). steps.Node server e.ask) (server_entry journals server (suc count)) step is in
      let found = chained (λ (es : List NodeEntry). item_at es (suc count)) (item_at journals.servers server) made.0 made.1 in
      let less = (is_entry found.0 count made.0 found.2).less in
      let journal : entries_of journals (parts.Server server) ≡ length found.0 = ap (λ (o : Option (List NodeEntry)). length (unwrap_or o [])) found.1 in
      omega arith
  step_within parts.Desk count step is =
      let made = map-some (λ (e : DeskEntry). steps.Desk e.ask) (item_at journals.desk (suc count)) step is in
      let less = (is_entry journals.desk count made.0 made.1).less in omega arith
  step_within parts.View count step is =
      let made = map-some (λ (e : ViewEntry). steps.View e.ask) (item_at journals.view (suc count)) step is in
      let less = (is_entry journals.view count made.0 made.1).less in omega arith

  within_from : (before order : List Part) → ((q : Part) → times before q ≤ entries_of journals q) → ArePlaced journals before order → (q : Part) → times (before ++ order) q ≤ entries_of journals q
  within_from before [] less done q = subst (λ (b : List Part). times b q ≤ entries_of journals q) (sym (append-nil before)) (less q)
  within_from before (p ∷ order) less done q =
      subst (λ (b : List Part). times b q ≤ entries_of journals q) (append_assoc before (p ∷ []) order) (within_from (before ++ p ∷ []) order (λ r. more r (same_or_not r p)) done.1 q)
    where
      more : (r : Part) → (r ≡ p) ⊎ (r ≢ p) → times (before ++ p ∷ []) r ≤ entries_of journals r
      more r (inl e) =
          subst (λ (x : Part). times (before ++ p ∷ []) x ≤ entries_of journals x) (sym e)
          (subst (λ n. n ≤ entries_of journals p) (sym (times-same before p)) (step_within p (times before p) done.0.step done.0.is_there))
      more r (inr apart) = subst (λ n. n ≤ entries_of journals r) (sym (times-other before p r apart)) (less r)

  pub within : (order : List Part) → ArePlaced journals [] order → (q : Part) → times order q ≤ entries_of journals q
  within order done q = within_from [] order (λ r. omega arith) done q

  -- ---- order or none

  -- some part has an entry that is not placed, and no part is next
  pub stuck : (order : List Part) (counts : Counts) → AreLegal journals → ArePlaced journals [] order → counts ≡ counts_of journals (times order) → ((p : Part) → IsNext journals order p → ⊥)
      → (((part : Part) → times order part ≡ entries_of journals part) → ⊥) → IsStuck journals counts
  stuck order counts legal done counted blocked left = record {
    legal = legal;
    order = order;
    founded = done;
    counted = counted;
    blocked = blocked;
    greatest = greatest order blocked;
    none = λ other explains. left (λ part.
        let most = greatest order blocked other explains.founded part in
        let whole = explains.all part in
        let fits = within order done part in
        omega arith);
  }

-- ---- wholes

item_map : {A B : Type 0} (f : A → B) (xs : List A) (number : ℕ) → item_at (map f xs) number ≡ option_map f (item_at xs number)
item_map f xs number = by (nat_lt 0 number)
  where
    by : (b : Bool) → cond b (slice_get (map f xs) (number - 1)) None ≡ option_map f (cond b (slice_get xs (number - 1)) None)
    by true = slice_get-map f xs (number - 1)
    by false = refl

each_map : {A B : Type 0} (f : ℕ → A → B) (h : A → B) (first : ℕ) (items : List A) → ((place : ℕ) (x : A) → slice_get items place ≡ Some x → f (first + place) x ≡ h x) → each_from f first items ≡ map h items
each_map f h first [] same = refl
each_map f h first (x ∷ items) same =
    let at : first ≡ first + 0 = omega arith in
    λ i. (ap (λ (n : ℕ). f n x) at ∙ same 0 x refl) i ∷ each_map f h (first + 1) items (λ place y is. ap (λ (n : ℕ). f n y) (omega arith) ∙ same (suc place) y is) i

module _ (journals : JournalsView) (order : List Part) (servers : List ℕ) (desk : ℕ) (stands : Bool) (wanted : List CitedVote) (met : ℕ) (is : IsPlacing journals order servers desk stands wanted met) where
  pub all_placed : desk ≡ length journals.desk → servers ≡ map length journals.servers → (part : Part) → times order part ≡ entries_of journals part
  all_placed desk_is servers_are (parts.Server server) =
      by (item_at journals.servers server) refl
      (sym (item_each (λ n (es : List NodeEntry). times order (parts.Server n)) journals.servers server)
      ∙ ap (λ (cs : List ℕ). item_at cs server) (sym is.of_servers ∙ servers_are)
      ∙ item_map length journals.servers server)
    where
      by : (o : Option (List NodeEntry)) → item_at journals.servers server ≡ o → option_map (λ (es : List NodeEntry). times order (parts.Server server)) (item_at journals.servers server) ≡ option_map length (item_at journals.servers server)
          → times order (parts.Server server) ≡ length (unwrap_or (item_at journals.servers server) [])
      by None none same =
          let most = within journals order is.founded (parts.Server server) in
          let size = ap (λ (o : Option (List NodeEntry)). length (unwrap_or o [])) none in
          omega (arith, most, size)
      by (Some es) some same =
          let both : Path (Option ℕ) (Some (times order (parts.Server server))) (Some (length es)) =
          ap (option_map (λ (es : List NodeEntry). times order (parts.Server server))) (sym some) ∙ same ∙ ap (option_map length) some in
          let count : times order (parts.Server server) ≡ length es = cc in
          count ∙ sym (ap (λ (o : Option (List NodeEntry)). length (unwrap_or o [])) some)
  all_placed desk_is servers_are parts.Desk = sym is.of_desk ∙ desk_is
  all_placed desk_is servers_are parts.View = is.of_view

  pub not_desk : (desk ≡ length journals.desk → ⊥) → ((part : Part) → times order part ≡ entries_of journals part) → ⊥
  not_desk apart all = apart (is.of_desk ∙ all parts.Desk)

  pub not_servers : (servers ≡ map length journals.servers → ⊥) → ((part : Part) → times order part ≡ entries_of journals part) → ⊥
  not_servers apart all =
      apart (is.of_servers ∙ each_map (λ n (es : List NodeEntry). times order (parts.Server n)) length 1 journals.servers
      (λ place es there.
      all (parts.Server (1 + place)) ∙ ap (λ (o : Option (List NodeEntry)). length (unwrap_or o [])) (ap (item_at journals.servers) (omega arith) ∙ item_at-suc journals.servers place ∙ there)))

-- ---- as the journals that were given

module _ (journals now : JournalsView) (order then : List Part) (same : now ≡ journals) (given : order ≡ then) (are : AreJournals journals) (legal : AreLegal journals) (founded : ArePlaced now [] then) where
  explains_given : ((part : Part) → times then part ≡ entries_of now part) → Explains journals order
  explains_given all = record {
    legal = legal;
    all = subst (λ (o : List Part). (part : Part) → times o part ≡ entries_of journals part) (sym given) (subst (λ (j : JournalsView). (part : Part) → times then part ≡ entries_of j part) same all);
    founded = subst (λ (o : List Part). ArePlaced journals [] o) (sym given) (subst (λ (j : JournalsView). ArePlaced j [] then) same founded);
  }

  pub runs_given : ((part : Part) → times then part ≡ entries_of now part) → run journals.levels journals.limits (asks_of journals order) ≡ journals
  runs_given all = run_is journals are order (explains_given all)

  pub reads_given : ((part : Part) → times then part ≡ entries_of now part) → HasCommittedReads journals
  reads_given all = reads_of_run journals (of_run journals are order (explains_given all))

  pub stuck_given : (counts : Counts) → counts ≡ counts_of now (times then) → IsDone now then → (((part : Part) → times then part ≡ entries_of now part) → ⊥) → IsStuck journals counts
  stuck_given counts counted done left =
      stuck journals then counts legal
      (subst (λ (j : JournalsView). ArePlaced j [] then) same founded)
      (counted ∙ ap (λ (j : JournalsView). counts_of j (times then)) same)
      (subst (λ (j : JournalsView). IsDone j then) same done)
      (subst (λ (j : JournalsView). ((part : Part) → times then part ≡ entries_of j part) → ⊥) same left)

-- ---- rounds

-- the servers so far have no entry that can be placed
abbrev pub AreBlocked : JournalsView → List Part → ℕ → Type 0
AreBlocked journals order place = (k : ℕ) → k < place → IsNext journals order (parts.Server (suc k)) → ⊥

module _ (first now after : JournalsView) (began order then : List Part) (place : ℕ) (moved placed : Bool)
    (same : now ≡ first) (fewer : moved ≡ true → entries_left now order < entries_left first began) (still : moved ≡ false → (order ≡ began) × AreBlocked first began place)
    (kept : after ≡ now) (less : placed ≡ true → entries_left after then < entries_left now order) (none : placed ≡ false → then ≡ order) (blocked : IsNext after then (parts.Server (suc place)) → ⊥) where
  -- so far no more was left than at first
  at_most : entries_left now order ≤ entries_left first began
  at_most = by (cases_Bool moved)
    where
      by : (moved ≡ true) ⊎ (moved ≡ false) → entries_left now order ≤ entries_left first began
      by (inl t) = let l = fewer t in omega (arith, l)
      by (inr f) = let e : entries_left now order ≡ entries_left first began = (λ i. entries_left (same i) ((still f).0 i)) in omega (arith, e)

  pub turn : (newly : Bool) → ((placed ≡ true) × (newly ≡ true)) ⊎ ((placed ≡ false) × (newly ≡ moved))
      → (after ≡ first) × (newly ≡ true → entries_left after then < entries_left first began) × (newly ≡ false → (then ≡ began) × AreBlocked first began (place + 1))
  turn newly (inl is) = (
    kept ∙ same,
    (λ _. let l = less is.0 in let m = at_most in omega (arith, l, m)),
    (λ f. absurd (false≢true (sym f ∙ is.1))),
  )
  turn newly (inr is) =
      let order_is = none is.0 in
      let left_is : entries_left after then ≡ entries_left now order = (λ i. entries_left (kept i) (order_is i)) in (
        kept ∙ same,
        (λ t. let l = fewer (sym is.1 ∙ t) in omega (arith, l, left_is)),
        (λ f. let old = still (sym is.1 ∙ f) in (order_is ∙ old.0, more (order_is ∙ old.0) old.1)),
      )
    where
      more : then ≡ began → AreBlocked first began place → AreBlocked first began (place + 1)
      more order_is old = λ k less next. by k next (nat_lt k place) refl less
        where
          by : (k : ℕ) → IsNext first began (parts.Server (suc k)) → (b : Bool) → nat_lt k place ≡ b → k < place + 1 → ⊥
          by k next true t less = old k (grind (arith, t)) next
          by k next false t less =
              let at : k ≡ place = grind (arith, t, less) in
              blocked (transport (λ i. IsNext (sym (kept ∙ same) i) (sym order_is i) (parts.Server (suc (at i)))) next)

-- every server, the desk and the view
pub all_done : (journals : JournalsView) (order : List Part) (count : ℕ) → count ≡ length journals.servers → AreBlocked journals order count → (IsNext journals order parts.Desk → ⊥) → (IsNext journals order parts.View → ⊥)
    → IsDone journals order
all_done journals order count is servers desk view (parts.Server server) next =
    let split = map-some (λ (e : NodeEntry). steps.Node server e.ask) (server_entry journals server (suc (times order (parts.Server server)))) next.step next.is_there in
    let found = chained (λ (es : List NodeEntry). item_at es (suc (times order (parts.Server server)))) (item_at journals.servers server) split.0 split.1 in
    let above = item_above journals.servers server found.0 found.1 in
    let within = slice_get_within journals.servers (server - 1) found.0 above.1 in
    let at : server ≡ suc (server - 1) = omega (arith, above.0) in
    servers (server - 1) (omega (arith, within, is)) (subst (λ (n : ℕ). IsNext journals order (parts.Server n)) at next)
all_done journals order count is servers desk view parts.Desk next = desk next
all_done journals order count is servers desk view parts.View next = view next
