-- Entries placed one after another: what is kept stays true.
use Rattle.std.specs.Prelude.{slice_get, slice_set, is_none}
use Rattle.std.specs.Option.{option_map, option_map_or, option_and_then, option_to_list}
use Rattle.std.proofs.Common.{◌≡◌, ◌≢◌, ◌≤◌, ◌+◌, ◌-◌, ℕ, zero, suc, Bool, true, false, List, [], ◌∷◌, ◌++◌, length, take, Option, Some, None, refl, sym, ap, subst, ◌∙◌, nat_le, ◌⊎◌, inl, inr, arith}
use Rattle.std.proofs.lemmas.{List.take_all, Bool.{false≢true, and_parts, and_from, le-leb, leb-true}}
use Rattle.tq_shape.{specs.{Journal.Has, declared.part.Part.Part}, proofs.Places.{map-Has, Has-map}}
use Rattle.tq_shape.specs.declared.part.Part.TheVariants as parts
use Rattle.tq_asks.specs.declared.ask.{CitedVote.CitedVote, NodeAsk.NodeAsk, WorkAsk.WorkAsk}
use Rattle.tq_asks.specs.declared.ask.NodeAsk.TheVariants as node_asks
use Rattle.tq_asks.specs.declared.ask.WorkAsk.TheVariants as work
use Rattle.tq_tables.specs.Journals.{JournalsView, ViewEntry}
use Rattle.tq_node.{specs.NodeJournal.NodeEntry, proofs.KeptLocks.map-some}
use Rattle.tq_desk.specs.DeskJournal.{DeskEntry}
use Rattle.tq_core.specs.{declared.answer.Step.Step, declared.citation.Citation.Citation, World.{item_at, server_entry}}
use Rattle.tq_core.specs.Founded.{cited_in_work, cited_in_node_ask, unfounded_in_node_ask, unfounded_in_desk_ask}
use Rattle.tq_core.proofs.Journaled.{item_above}
use Rattle.tq_core.specs.declared.answer.Step.TheVariants as steps
use Rattle.tq_merge.specs.Placing.{cited_in, entry_cited, is_placed, is_citation_placed, is_placed_in_node_ask, is_ready, IsWanted, IsNextWanted, IsPlacing, sum_of, entries_left}
use Rattle.tq_merge.specs.Order.{times, each_from, counts_of, placed_journals, step_at, unfounded_citation, IsNext}
use Rattle.tq_merge.proofs.Places.{times-more, times-same, times-other, item_at-suc, item_each, each_set, each_after, each_same, take_none}
use Rattle.tq_merge.proofs.Founding.{cited_stands, entry_of_firsts, founded_whole, founded_cites, founded_firsts}
use Rattle.tq_merge.proofs.{Runs.{chained, is_entry}, Greedy.placed-more}

-- ---- tests of numbers

none_true : {A : Type 0} (o : Option A) → is_none o ≡ true → o ≡ None
none_true None is = refl
none_true (Some x) is = absurd (false≢true is)

times_grow : (order : List Part) (part q : Part) → times order q ≤ times (order ++ part ∷ []) q
times_grow order part q = let more = times-more order part q in omega (arith, more)

-- ---- placed by their counts

module _ (journals : JournalsView) (order : List Part) (servers : List ℕ) (counted : servers ≡ (counts_of journals (times order)).servers) where
  count_at : (server : ℕ) → item_at servers server ≡ option_map (λ (es : List NodeEntry). times order (parts.Server server)) (item_at journals.servers server)
  count_at server = ap (λ (cs : List ℕ). item_at cs server) counted ∙ item_each (λ n (es : List NodeEntry). times order (parts.Server n)) journals.servers server

  pub placed_number : (entry : CitedVote) → is_placed servers entry ≡ true → entry.number ≤ times order (parts.Server entry.server)
  placed_number entry is = by (item_at journals.servers entry.server) (ap (λ (o : Option ℕ). option_map_or (λ count. nat_le entry.number count) o false) (sym (count_at entry.server)) ∙ is)
    where
      by : (o : Option (List NodeEntry)) → option_map_or (λ count. nat_le entry.number count) (option_map (λ (es : List NodeEntry). times order (parts.Server entry.server)) o) false ≡ true → entry.number ≤ times order (parts.Server entry.server)
      by None fails = absurd (false≢true fails)
      by (Some es) holds = leb-true entry.number (times order (parts.Server entry.server)) holds

  pub number_placed : (entry : CitedVote) (es : List NodeEntry) → item_at journals.servers entry.server ≡ Some es → entry.number ≤ times order (parts.Server entry.server) → is_placed servers entry ≡ true
  number_placed entry es there most =
      ap (λ (o : Option ℕ). option_map_or (λ count. nat_le entry.number count) o false)
      (count_at entry.server ∙ ap (option_map (λ (es : List NodeEntry). times order (parts.Server entry.server))) there)
      ∙ le-leb entry.number (times order (parts.Server entry.server)) most

  -- an entry of a server that is cited by what is founded is placed
  pub cited_placed : (step : Step) → unfounded_citation (placed_journals journals order) step ≡ None → (entry : CitedVote) → Has (cited_in step) (entry_cited entry) → is_placed servers entry ≡ true
  cited_placed step none entry has =
      let stands = cited_stands (placed_journals journals order) step none (entry_cited entry) has in
      let there = (entry_of_firsts journals (times order) entry.server entry.number stands.0 stands.1).0 in
      let found = chained (λ (es : List NodeEntry). item_at es entry.number) (item_at journals.servers entry.server) stands.0 there in
      number_placed entry found.0 found.1 (founded_cites journals (times order) step none (entry_cited entry) has)

  -- ---- a server's ask is ready exactly where it is founded in what is placed

  work_numbers : (desk : ℕ) → desk ≡ times order parts.Desk → (ask : WorkAsk) → option_map_or (is_citation_placed servers desk) (cited_in_work ask) true ≡ true → (c : Citation) → Has (option_to_list (cited_in_work ask)) c → c.number ≤ times order c.part
  work_numbers desk is (work.Decide txn verdict cite) ready c (inl same) =
      subst (λ (x : Citation). x.number ≤ times order x.part) same (let most = leb-true cite desk ready in omega (arith, most, is))
  work_numbers desk is (work.Decide txn verdict cite) ready c (inr none) = absurd none
  work_numbers desk is (work.Refresh file version content from) ready c (inl same) = subst (λ (x : Citation). x.number ≤ times order x.part) same (placed_number from ready)
  work_numbers desk is (work.Refresh file version content from) ready c (inr none) = absurd none
  work_numbers desk is ask ready c has = absurd has

  node_numbers : (desk : ℕ) → desk ≡ times order parts.Desk → (ask : NodeAsk) → is_placed_in_node_ask servers desk ask ≡ true → (c : Citation) → Has (option_to_list (cited_in_node_ask ask)) c → c.number ≤ times order c.part
  node_numbers desk is (node_asks.Work ask) ready c has = work_numbers desk is ask ready c has
  node_numbers desk is (node_asks.CrashIn after ask) ready c has = work_numbers desk is ask ready c has
  node_numbers desk is ask ready c has = absurd has

  pub ready_founded : (desk : ℕ) → desk ≡ times order parts.Desk → (server : ℕ) (ask : NodeAsk) → is_ready journals servers desk ask ≡ true → unfounded_citation (placed_journals journals order) (steps.Node server ask) ≡ None
  ready_founded desk is server ask ready =
      let halves = and_parts (is_placed_in_node_ask servers desk ask) (is_none (unfounded_in_node_ask journals ask)) ready in
      founded_firsts journals (times order) (steps.Node server ask) (none_true (unfounded_in_node_ask journals ask) halves.1) (node_numbers desk is ask halves.0)

  work_placed : (desk : ℕ) → desk ≡ times order parts.Desk → (server : ℕ) (ask : WorkAsk) → unfounded_citation (placed_journals journals order) (steps.Node server (node_asks.Work ask)) ≡ None → option_map_or (is_citation_placed servers desk) (cited_in_work ask) true ≡ true
  work_placed desk is server (work.Decide txn verdict cite) none =
      let most = founded_cites journals (times order) (steps.Node server (node_asks.Work (work.Decide txn verdict cite))) none (record { part = parts.Desk; number = cite }) (inl refl) in
      le-leb cite desk (omega (arith, most, is))
  work_placed desk is server (work.Refresh file version content from) none = cited_placed (steps.Node server (node_asks.Work (work.Refresh file version content from))) none from (inl refl)
  work_placed desk is server ask none = refl

  node_placed : (desk : ℕ) → desk ≡ times order parts.Desk → (server : ℕ) (ask : NodeAsk) → unfounded_citation (placed_journals journals order) (steps.Node server ask) ≡ None → is_placed_in_node_ask servers desk ask ≡ true
  node_placed desk is server (node_asks.Work ask) none = work_placed desk is server ask none
  node_placed desk is server (node_asks.CrashIn after ask) none = work_placed desk is server ask none
  node_placed desk is server ask none = refl

  pub founded_ready : (desk : ℕ) → desk ≡ times order parts.Desk → (server : ℕ) (ask : NodeAsk) → unfounded_citation (placed_journals journals order) (steps.Node server ask) ≡ None → is_ready journals servers desk ask ≡ true
  founded_ready desk is server ask none =
      and_from (is_placed_in_node_ask servers desk ask) (is_none (unfounded_in_node_ask journals ask))
      (node_placed desk is server ask none) (ap is_none (founded_whole journals (times order) (steps.Node server ask) none))

  -- ---- a desk's ask is founded exactly where all that it cites stands, and is placed

  pub wanted_founded : (stands : Bool) (wanted : List CitedVote) (e : DeskEntry) → IsWanted journals stands wanted e → stands ≡ true
      → ((entry : CitedVote) → Has wanted entry → entry.number ≤ times order (parts.Server entry.server)) → unfounded_citation (placed_journals journals order) (steps.Desk e.ask) ≡ None
  wanted_founded stands wanted e is holds seen =
      founded_firsts journals (times order) (steps.Desk e.ask) (none_true (unfounded_in_desk_ask journals e.ask) (sym is.stand ∙ holds))
      (λ c has.
      let from = Has-map entry_cited wanted c (subst (λ (cs : List Citation). Has cs c) (sym is.cited) has) in
      subst (λ (x : Citation). x.number ≤ times order x.part) from.2 (seen from.0 from.1))

  pub founded_stand : (stands : Bool) (wanted : List CitedVote) (e : DeskEntry) → IsWanted journals stands wanted e → unfounded_citation (placed_journals journals order) (steps.Desk e.ask) ≡ None → stands ≡ true
  founded_stand stands wanted e is none = is.stand ∙ ap is_none (founded_whole journals (times order) (steps.Desk e.ask) none)

  pub founded_met : (stands : Bool) (wanted : List CitedVote) (e : DeskEntry) → IsWanted journals stands wanted e → unfounded_citation (placed_journals journals order) (steps.Desk e.ask) ≡ None
      → (entry : CitedVote) → Has wanted entry → is_placed servers entry ≡ true
  founded_met stands wanted e is none entry has =
      cited_placed (steps.Desk e.ask) none entry (subst (λ (cs : List Citation). Has cs (entry_cited entry)) is.cited (map-Has entry_cited wanted entry has))

-- ---- what is left

each_sum : {A : Type 0} (f g : ℕ → A → ℕ) (first : ℕ) (items : List A) (place : ℕ) (x : A) → slice_get items place ≡ Some x → suc (g (first + place) x) ≡ f (first + place) x
    → ((number : ℕ) (y : A) → number ≢ first + place → f number y ≡ g number y) → suc (sum_of (each_from g first items)) ≡ sum_of (each_from f first items)
each_sum {A} f g first [] place x is less same = absurd (let none : Path (Option A) None (Some x) = is in cc)
each_sum {A} f g first (y ∷ items) zero x is less same =
    let same_item : x ≡ y = (let some : Path (Option A) (Some y) (Some x) = is in let e : x ≡ y = cc in e) in
    let at : first + 0 ≡ first = omega arith in
    let one : suc (g first y) ≡ f first y = (λ i. suc (g (sym at i) (sym same_item i))) ∙ less ∙ (λ i. f (at i) (same_item i)) in
    let rest = ap sum_of (each_after f g (first + 0) (first + 1) items (omega arith) same) in
    sum_step (g first y) (f first y) (sum_of (each_from g (first + 1) items)) (sum_of (each_from f (first + 1) items)) one (sym rest)
  where
    sum_step : (a b c d : ℕ) → suc a ≡ b → c ≡ d → suc (a + c) ≡ b + d
    sum_step a b c d one rest = omega arith
each_sum f g first (y ∷ items) (suc place) x is less same =
    let at : first + suc place ≡ (first + 1) + place = omega arith in
    let rest = each_sum f g (first + 1) items place x is ((λ i. suc (g (sym at i) x)) ∙ less ∙ (λ i. f (at i) x)) (λ n z apart. same n z (λ e. apart (e ∙ at))) in
    let head = same first y (λ e. absurd (omega (arith, e))) in
    omega (arith, rest, head)

less_one : (a t u : ℕ) → u ≡ suc t → suc t ≤ a → suc (a - u) ≡ a - t
less_one a t u is most = omega (arith, is, most)

pub left_less : (journals : JournalsView) (order : List Part) (part : Part) → part ≢ parts.View → IsNext journals order part → suc (entries_left journals (order ++ part ∷ [])) ≡ entries_left journals order
left_less journals order (parts.Server server) apart next =
    let split = map-some (λ (e : NodeEntry). steps.Node server e.ask) (server_entry journals server (suc (times order (parts.Server server)))) next.step next.is_there in
    let found = chained (λ (es : List NodeEntry). item_at es (suc (times order (parts.Server server)))) (item_at journals.servers server) split.0 split.1 in
    let above = item_above journals.servers server found.0 found.1 in
    let at : 1 + (server - 1) ≡ server = omega (arith, above.0) in
    let less = (is_entry found.0 (times order (parts.Server server)) split.0 found.2).less in
    let one = ap (λ (n : ℕ). times (order ++ parts.Server server ∷ []) (parts.Server n)) at ∙ times-same order (parts.Server server) ∙ ap (λ (n : ℕ). suc (times order (parts.Server n))) (sym at) in
    let most = subst (λ (n : ℕ). suc (times order (parts.Server n)) ≤ length found.0) (sym at) (omega (arith, less)) in
    let servers = each_sum (λ n (es : List NodeEntry). length es - times order (parts.Server n)) (λ n (es : List NodeEntry). length es - times (order ++ parts.Server server ∷ []) (parts.Server n)) 1 journals.servers (server - 1) found.0 above.1
    (less_one (length found.0) (times order (parts.Server (1 + (server - 1)))) (times (order ++ parts.Server server ∷ []) (parts.Server (1 + (server - 1)))) one most)
    (λ n es off. ap (λ (t : ℕ). length es - t) (sym (times-other order (parts.Server server) (parts.Server n) (λ e. off ((let h : Path Part (parts.Server n) (parts.Server server) = e in let k : n ≡ server = cc in k) ∙ sym at))))) in
    let desk = ap (λ (t : ℕ). length journals.desk - t) (times-other order (parts.Server server) parts.Desk (λ e. let h : Path Part parts.Desk (parts.Server server) = e in cc)) in
    omega (arith, servers, desk)
left_less journals order parts.Desk apart next =
    let split = map-some (λ (e : DeskEntry). steps.Desk e.ask) (item_at journals.desk (suc (times order parts.Desk))) next.step next.is_there in
    let less = (is_entry journals.desk (times order parts.Desk) split.0 split.1).less in
    let one = less_one (length journals.desk) (times order parts.Desk) (times (order ++ parts.Desk ∷ []) parts.Desk) (times-same order parts.Desk) (omega (arith, less)) in
    let servers = ap sum_of (each_same (λ n (es : List NodeEntry). length es - times (order ++ parts.Desk ∷ []) (parts.Server n)) (λ n (es : List NodeEntry). length es - times order (parts.Server n)) 1 journals.servers
    (λ n es. ap (λ (t : ℕ). length es - t) (times-other order parts.Desk (parts.Server n) (λ e. let h : Path Part (parts.Server n) parts.Desk = e in cc)))) in
    omega (arith, servers, one)
left_less journals order parts.View apart next = absurd (apart refl)

-- ---- one entry more

module _ (journals : JournalsView) (order : List Part) (servers : List ℕ) (desk : ℕ) (stands : Bool) (wanted : List CitedVote) (met : ℕ) (is : IsPlacing journals order servers desk stands wanted met) where
  pub server_more : (server : ℕ) (others : List ℕ) → IsNext journals order (parts.Server server)
      → others ≡ slice_set servers (server - 1) (suc (times order (parts.Server server)))
      → IsPlacing journals (order ++ parts.Server server ∷ []) others desk stands wanted met
  server_more server others next made =
      let split = map-some (λ (e : NodeEntry). steps.Node server e.ask) (server_entry journals server (suc (times order (parts.Server server)))) next.step next.is_there in
      let found = chained (λ (es : List NodeEntry). item_at es (suc (times order (parts.Server server)))) (item_at journals.servers server) split.0 split.1 in
      let above = item_above journals.servers server found.0 found.1 in
      let at : 1 + (server - 1) ≡ server = omega (arith, above.0) in
      record {
        founded = placed-more journals [] order (parts.Server server) is.founded next;
        of_servers =
            made
            ∙ ap (λ (cs : List ℕ). slice_set cs (server - 1) (suc (times order (parts.Server server)))) is.of_servers
            ∙ ap (λ (n : ℕ). slice_set (counts_of journals (times order)).servers (server - 1) n)
            (sym (times-same order (parts.Server server)) ∙ ap (λ (n : ℕ). times (order ++ parts.Server server ∷ []) (parts.Server n)) (sym at))
            ∙ each_set (λ n (es : List NodeEntry). times order (parts.Server n)) (λ n (es : List NodeEntry). times (order ++ parts.Server server ∷ []) (parts.Server n)) 1 journals.servers (server - 1) found.0 above.1
            (λ n es apart. sym (times-other order (parts.Server server) (parts.Server n) (λ e. apart ((let h : Path Part (parts.Server n) (parts.Server server) = e in let k : n ≡ server = cc in k) ∙ sym at))));
        of_desk = is.of_desk ∙ sym (times-other order (parts.Server server) parts.Desk (λ e. let h : Path Part parts.Desk (parts.Server server) = e in cc));
        of_view = times-other order (parts.Server server) parts.View (λ e. let h : Path Part parts.View (parts.Server server) = e in cc) ∙ is.of_view;
        next = is.next;
        seen = λ entry has. let old = is.seen entry has in let grows = times_grow order (parts.Server server) (parts.Server entry.server) in omega (arith, old, grows);
        within = is.within;
      }

  pub desk_more : (newly : Bool) (fresh : List CitedVote) → IsNext journals order parts.Desk → IsNextWanted journals (suc desk) newly fresh
      → IsPlacing journals (order ++ parts.Desk ∷ []) servers (suc desk) newly fresh 0
  desk_more newly fresh next then = record {
    founded = placed-more journals [] order parts.Desk is.founded next;
    of_servers =
        is.of_servers
        ∙ each_same (λ n (es : List NodeEntry). times order (parts.Server n)) (λ n (es : List NodeEntry). times (order ++ parts.Desk ∷ []) (parts.Server n)) 1 journals.servers
        (λ n es. sym (times-other order parts.Desk (parts.Server n) (λ e. let h : Path Part (parts.Server n) parts.Desk = e in cc)));
    of_desk = ap (λ (n : ℕ). suc n) is.of_desk ∙ sym (times-same order parts.Desk);
    of_view = times-other order parts.Desk parts.View (λ e. let h : Path Part parts.View parts.Desk = e in cc) ∙ is.of_view;
    next = then;
    seen = λ entry has. absurd (subst (λ (xs : List CitedVote). Has xs entry) (take_none fresh) has);
    within = omega arith;
  }

  -- more of what the desk's next entry cites is seen to be placed
  pub met_more : (further : ℕ) → further ≤ length wanted → ((entry : CitedVote) → Has (take further wanted) entry → Has (take met wanted) entry ⊎ (is_placed servers entry ≡ true)) → IsPlacing journals order servers desk stands wanted further
  met_more further fits seen = record {
    founded = is.founded;
    of_servers = is.of_servers;
    of_desk = is.of_desk;
    of_view = is.of_view;
    next = is.next;
    seen = λ entry has. by entry (seen entry has);
    within = fits;
  }
    where
      by : (entry : CitedVote) → Has (take met wanted) entry ⊎ (is_placed servers entry ≡ true) → entry.number ≤ times order (parts.Server entry.server)
      by entry (inl old) = is.seen entry old
      by entry (inr holds) = placed_number journals order servers is.of_servers entry holds

  -- ---- what is next, and what is not

  pub server_next : (server : ℕ) (entries : List NodeEntry) (e : NodeEntry) → item_at journals.servers server ≡ Some entries → slice_get entries (times order (parts.Server server)) ≡ Some e
      → is_ready journals servers desk e.ask ≡ true → IsNext journals order (parts.Server server)
  server_next server entries e here there ready = record {
    step = steps.Node server e.ask;
    is_there =
        ap (λ (o : Option (List NodeEntry)). option_map (λ (x : NodeEntry). steps.Node server x.ask) (option_and_then (λ (es : List NodeEntry). item_at es (suc (times order (parts.Server server)))) o)) here
        ∙ ap (option_map (λ (x : NodeEntry). steps.Node server x.ask)) (item_at-suc entries (times order (parts.Server server)) ∙ there);
    founded = ready_founded journals order servers is.of_servers desk is.of_desk server e.ask ready;
  }

  -- a server with no further entry, or with one that is not ready
  pub server_last : (server : ℕ) (entries : List NodeEntry) → item_at journals.servers server ≡ Some entries → length entries ≤ times order (parts.Server server) → IsNext journals order (parts.Server server) → ⊥
  server_last server entries here short next =
      let split = map-some (λ (e : NodeEntry). steps.Node server e.ask) (server_entry journals server (suc (times order (parts.Server server)))) next.step next.is_there in
      let found = chained (λ (es : List NodeEntry). item_at es (suc (times order (parts.Server server)))) (item_at journals.servers server) split.0 split.1 in
      let less = (is_entry found.0 (times order (parts.Server server)) split.0 found.2).less in
      let same : Path (Option (List NodeEntry)) (Some found.0) (Some entries) = sym found.1 ∙ here in
      let e : found.0 ≡ entries = cc in
      let size = ap length e in
      absurd (omega (arith, less, short, size))

  pub server_waits : (server : ℕ) (entries : List NodeEntry) (e : NodeEntry) → item_at journals.servers server ≡ Some entries → slice_get entries (times order (parts.Server server)) ≡ Some e
      → is_ready journals servers desk e.ask ≡ false → IsNext journals order (parts.Server server) → ⊥
  server_waits server entries e here there waits next =
      let step_is : step_at journals (parts.Server server) (suc (times order (parts.Server server))) ≡ Some (steps.Node server e.ask) =
      ap (λ (o : Option (List NodeEntry)). option_map (λ (x : NodeEntry). steps.Node server x.ask) (option_and_then (λ (es : List NodeEntry). item_at es (suc (times order (parts.Server server)))) o)) here
      ∙ ap (option_map (λ (x : NodeEntry). steps.Node server x.ask)) (item_at-suc entries (times order (parts.Server server)) ∙ there) in
      let same : Path (Option Step) (Some next.step) (Some (steps.Node server e.ask)) = sym next.is_there ∙ step_is in
      let e_is : next.step ≡ steps.Node server e.ask = cc in
      let ready = founded_ready journals order servers is.of_servers desk is.of_desk server e.ask (ap (unfounded_citation (placed_journals journals order)) (sym e_is) ∙ next.founded) in
      false≢true (sym waits ∙ ready)

  -- the view has no further entry
  pub view_last : IsNext journals order parts.View → ⊥
  view_last next =
      let split = map-some (λ (e : ViewEntry). steps.View e.ask) (item_at journals.view (suc (times order parts.View))) next.step next.is_there in
      let less = (is_entry journals.view (times order parts.View) split.0 split.1).less in
      let all = is.of_view in
      absurd (omega (arith, less, all))

  desk_step : (e : DeskEntry) → slice_get journals.desk desk ≡ Some e → step_at journals parts.Desk (suc (times order parts.Desk)) ≡ Some (steps.Desk e.ask)
  desk_step e there =
      ap (λ (n : ℕ). option_map (λ (x : DeskEntry). steps.Desk x.ask) (item_at journals.desk (suc n))) (sym is.of_desk)
      ∙ ap (option_map (λ (x : DeskEntry). steps.Desk x.ask)) (item_at-suc journals.desk desk ∙ there)

  pub desk_next : (e : DeskEntry) → slice_get journals.desk desk ≡ Some e → stands ≡ true → length wanted ≤ met → IsNext journals order parts.Desk
  desk_next e there holds all = record {
    step = steps.Desk e.ask;
    is_there = desk_step e there;
    founded = wanted_founded journals order servers is.of_servers stands wanted e (is.next e (item_at-suc journals.desk desk ∙ there)) holds
        (λ entry has. is.seen entry (subst (λ (xs : List CitedVote). Has xs entry) (sym (take_all met wanted all)) has));
  }

  desk_founded : (e : DeskEntry) → slice_get journals.desk desk ≡ Some e → IsNext journals order parts.Desk → unfounded_citation (placed_journals journals order) (steps.Desk e.ask) ≡ None
  desk_founded e there next =
      let same : Path (Option Step) (Some next.step) (Some (steps.Desk e.ask)) = sym next.is_there ∙ desk_step e there in
      let e_is : next.step ≡ steps.Desk e.ask = cc in
      ap (unfounded_citation (placed_journals journals order)) (sym e_is) ∙ next.founded

  pub desk_never : (e : DeskEntry) → slice_get journals.desk desk ≡ Some e → stands ≡ false → IsNext journals order parts.Desk → ⊥
  desk_never e there fails next =
      false≢true (sym fails ∙ founded_stand journals order servers is.of_servers stands wanted e (is.next e (item_at-suc journals.desk desk ∙ there)) (desk_founded e there next))

  pub desk_waits : (e : DeskEntry) → slice_get journals.desk desk ≡ Some e → (entry : CitedVote) → Has wanted entry → is_placed servers entry ≡ false → IsNext journals order parts.Desk → ⊥
  desk_waits e there entry has fails next =
      false≢true (sym fails ∙ founded_met journals order servers is.of_servers stands wanted e (is.next e (item_at-suc journals.desk desk ∙ there)) (desk_founded e there next) entry has)
