-- The asks of an order, run one after another, make the journals that it explains.
use Rattle.std.specs.Prelude.{slice_get, slice_set, if◌then◌else◌}
use Rattle.std.specs.Option.{option_map, option_and_then, option_to_list, unwrap_or}
use Rattle.std.proofs.Common.{◌≡◌, ◌≢◌, ◌≤◌, ◌<◌, ◌+◌, ◌-◌, ◌^◌, ℕ, zero, suc, false, List, [], ◌∷◌, ◌++◌, length, take, replicate, reverse, Option, Some, None, refl, sym, ap, subst, ◌∙◌, nat_le, arith, append_assoc, length-take-le}
use Rattle.std.proofs.lemmas.{List.{append-nil, take_all}, Option.{get_or_from_slice_get, slice_get_within}}
use Rattle.tq_shape.specs.{Journal.{state_from, IsLegalFrom, entry}, declared.part.Entry.Entry, declared.part.Part.Part}
use Rattle.tq_shape.proofs.Joined.{reverse-legal}
use Rattle.tq_shape.specs.declared.part.Part.TheVariants as parts
use Rattle.tq_asks.specs.declared.ask.{NodeAsk.NodeAsk, NodeReply.NodeReply}
use Rattle.tq_node.specs.{Records.{node_reply, node_after}, NodeJournal.{IsLegalNode, nothing_stored, NodeEntry}}
use Rattle.tq_node.proofs.KeptLocks.{map-some}
use Rattle.tq_desk.specs.{declared.ask.DeskReply.DeskReply, DeskStep.desk_reply}
use Rattle.tq_desk.specs.DeskJournal.{step_reply, step_after, opened_desk, DeskEntry}
use Rattle.tq_live.{specs.{Live.Live, declared.view.ViewReply.ViewReply}, proofs.Journal.replays}
use Rattle.tq_live.specs.View.{view_reply, view_reply_at, view_after_at, view_state}
use Rattle.tq_tables.specs.Journals.{JournalsView, AreJournals, ViewEntry, no_entries}
use Rattle.tq_tables.specs.Parts.{AreLegal, AreLegalServers, bounds_of}
use Rattle.tq_core.specs.declared.{answer.{Refusal.Refusal, Step.Step}, citation.Citation.Citation}
use Rattle.tq_core.{specs.World.{item_at, server_entry, node_at, desk_at, view_at}, proofs.Runs.world_grown}
use Rattle.tq_core.{specs.Founded.{unfounded_in_node_ask, unfounded_in_desk_ask}, proofs.Journaled.item_above}
use Rattle.tq_core.specs.Steps.{refuse_entry, refuse_at, refusal, server_journal, node_entry, desk_entry, view_entry, world_with_step, world_after, run_from, run, IsOfRun}
use Rattle.tq_core.specs.declared.answer.Step.TheVariants as steps
use Rattle.tq_merge.specs.Order.{times, entries_of, firsts, placed_journals, step_at, unfounded_citation, ArePlaced, Explains, steps_from, asks_of}
use Rattle.tq_merge.proofs.Places.{times-same, times-other, item_at-suc, item_each, take_next, take_none, each_same, each_set, each_is, each_none}

-- ---- legal journals, entry by entry

module _ {S A R : Type 0} (reply : S → ℕ → A → R) (after : S → ℕ → A → S) where
  -- the entry at a place is what the part gives after those before it
  pub legal_at : (s : S) (n : ℕ) (entries : List (Entry A R)) (place : ℕ) (e : Entry A R) → IsLegalFrom reply after s n entries → slice_get entries place ≡ Some e
      → e.reply ≡ reply (state_from after s n (take place entries)) (n + place) e.ask
  legal_at s n [] place e legal is = absurd (let none : Path (Option (Entry A R)) None (Some e) = is in cc)
  legal_at s n (x ∷ entries) zero e legal is =
      let same : x ≡ e = (let some : Path (Option (Entry A R)) (Some x) (Some e) = is in let h : x ≡ e = cc in h) in
      let at : n ≡ n + 0 = omega arith in
      sym (ap (λ (y : Entry A R). y.reply) same) ∙ legal.0 ∙ ap (λ (y : Entry A R). reply s n y.ask) same ∙ ap (λ (m : ℕ). reply s m e.ask) at
  legal_at s n (x ∷ entries) (suc place) e legal is =
      let at : (n + 1) + place ≡ n + suc place = omega arith in
      legal_at (after s n x.ask) (n + 1) entries place e legal.1 is ∙ ap (λ (m : ℕ). reply (state_from after (after s n x.ask) (n + 1) (take place entries)) m e.ask) at

  pub legal_first : (s : S) (n : ℕ) (entries : List (Entry A R)) (count : ℕ) → IsLegalFrom reply after s n entries → IsLegalFrom reply after s n (take count entries)
  legal_first s n [] zero legal = tt
  legal_first s n [] (suc count) legal = tt
  legal_first s n (x ∷ entries) zero legal = tt
  legal_first s n (x ∷ entries) (suc count) legal = (legal.0, legal_first (after s n x.ask) (n + 1) entries count legal.1)

pub legal_server : (first : ℕ) (servers : List (List NodeEntry)) (place : ℕ) (entries : List NodeEntry) → AreLegalServers first servers → slice_get servers place ≡ Some entries → IsLegalNode (first + place) (reverse entries)
legal_server first [] place entries legal is = absurd (let none : Path (Option (List NodeEntry)) None (Some entries) = is in cc)
legal_server first (x ∷ servers) zero entries legal is =
    let same : x ≡ entries = (let some : Path (Option (List NodeEntry)) (Some x) (Some entries) = is in let h : x ≡ entries = cc in h) in
    let at : first ≡ first + 0 = omega arith in
    subst (λ (n : ℕ). IsLegalNode n (reverse entries)) at (subst (λ (y : List NodeEntry). IsLegalNode first (reverse y)) same legal.0)
legal_server first (x ∷ servers) (suc place) entries legal is =
    let at : (first + 1) + place ≡ first + suc place = omega arith in
    subst (λ (n : ℕ). IsLegalNode n (reverse entries)) at (legal_server (first + 1) servers place entries legal.1 is)

-- ---- one entry more

-- an entry of a journal that is not above the limit is refused for nothing
room : (limit count : ℕ) → count < limit → nat_le limit count ≡ false
room limit count less = grind (arith, less)

not_refused : (world : JournalsView) (part : Part) (count : ℕ) (citation : Option Citation) → nat_le world.limits.entries count ≡ false → citation ≡ None → refuse_entry world part count citation ≡ None
not_refused world part count citation free none =
    ap (λ b. if b then Some (Rattle.tq_core.specs.declared.answer.Refusal.TheVariants.JournalFull part) else Rattle.tq_core.specs.Steps.refuse_unfounded citation) free
    ∙ ap Rattle.tq_core.specs.Steps.refuse_unfounded none

-- what an entry is that makes a step
pub record IsEntry {E : Type 0} (entries : List E) (count : ℕ) (e : E) : Type 0 where
  pub is_there : slice_get entries count ≡ Some e
  pub less : count < length entries

pub is_entry : {E : Type 0} (entries : List E) (count : ℕ) (e : E) → item_at entries (suc count) ≡ Some e → IsEntry entries count e
is_entry entries count e is = let there = sym (item_at-suc entries count) ∙ is in record { is_there = there; less = slice_get_within entries count e there }

pub chained : {A B : Type 0} (f : A → Option B) (o : Option A) (y : B) → option_and_then f o ≡ Some y → (x : A) × (o ≡ Some x) × (f x ≡ Some y)
chained {A} {B} f None y is = absurd (let none : Path (Option B) None (Some y) = is in cc)
chained f (Some x) y is = (x, refl, is)

-- the entries of each journal that is there are within the limit
within_limit : (journals : JournalsView) → AreJournals journals → (server : ℕ) (entries : List NodeEntry) → item_at journals.servers server ≡ Some entries → length entries ≤ journals.limits.entries
within_limit journals are server entries here =
    let there = (item_above journals.servers server entries here).1 in
    let less = slice_get_within journals.servers (server - 1) entries there in
    subst (λ (es : List NodeEntry). length es ≤ journals.limits.entries) (get_or_from_slice_get journals.servers (server - 1) entries [] there) (are.servers_fit (server - 1) [] less)

-- ---- a step of a server

server_free : (world : JournalsView) (server : ℕ) (entries : List NodeEntry) (ask : NodeAsk) → item_at world.servers server ≡ Some entries → length entries < world.limits.entries
    → unfounded_in_node_ask world ask ≡ None → refusal world (steps.Node server ask) ≡ None
server_free world server entries ask here less none =
    ap (λ (o : Option (List NodeEntry)). refuse_at world server o (unfounded_in_node_ask world ask)) here
    ∙ not_refused world (parts.Server server) (length entries) (unfounded_in_node_ask world ask) (room world.limits.entries (length entries) less) none

-- the entry is what the server gives after those before it
server_gives : (journals : JournalsView) → AreLegal journals → (server count : ℕ) (entries : List NodeEntry) (e : NodeEntry) → item_at journals.servers server ≡ Some entries → slice_get entries count ≡ Some e
    → e.reply ≡ node_reply server (node_at server (take count entries)) e.ask
server_gives journals legal server count entries e here there =
    let above = item_above journals.servers server entries here in
    let at : 1 + (server - 1) ≡ server = omega (arith, above.0) in
    let own : IsLegalNode server (reverse entries) = subst (λ (n : ℕ). IsLegalNode n (reverse entries)) at (legal_server 1 journals.servers (server - 1) entries legal.servers above.1) in
    legal_at (λ old n ask. node_reply server old ask) (node_after server) nothing_stored 1 entries count e (reverse-legal (λ old n ask. node_reply server old ask) (node_after server) nothing_stored entries own) there

server_next : (world : JournalsView) (server : ℕ) (entries : List NodeEntry) (e : NodeEntry) → item_at world.servers server ≡ Some entries
    → e.reply ≡ node_reply server (node_at server entries) e.ask → server_journal world server ++ node_entry world server e.ask ∷ [] ≡ entries ++ e ∷ []
server_next world server entries e here gives =
    let journal : server_journal world server ≡ entries = ap (λ (o : Option (List NodeEntry)). unwrap_or o []) here in
    ap (λ (es : List NodeEntry). es ++ entry e.ask (node_reply server (node_at server es) e.ask) ∷ []) journal
    ∙ ap (λ (r : NodeReply). entries ++ entry e.ask r ∷ []) (sym gives)

module _ (journals : JournalsView) (are : AreJournals journals) (legal : AreLegal journals) (count other : Part → ℕ) where
  server_placed : (server : ℕ) (entries : List NodeEntry) → item_at journals.servers server ≡ Some entries
      → item_at (firsts journals count).servers server ≡ Some (take (count (parts.Server server)) entries)
  server_placed server entries here =
      item_each (λ n (es : List NodeEntry). take (count (parts.Server n)) es) journals.servers server
      ∙ ap (option_map (λ (es : List NodeEntry). take (count (parts.Server server)) es)) here

  servers_more : (server : ℕ) (entries : List NodeEntry) (e : NodeEntry) → item_at journals.servers server ≡ Some entries → IsEntry entries (count (parts.Server server)) e
      → other (parts.Server server) ≡ suc (count (parts.Server server)) → ((q : Part) → q ≢ parts.Server server → other q ≡ count q)
      → slice_set (firsts journals count).servers (server - 1) (take (count (parts.Server server)) entries ++ e ∷ []) ≡ (firsts journals other).servers
  servers_more server entries e here is more same =
      let above = item_above journals.servers server entries here in
      let at : 1 + (server - 1) ≡ server = omega (arith, above.0) in
      let next : take (count (parts.Server server)) entries ++ e ∷ [] ≡ take (other (parts.Server (1 + (server - 1)))) entries =
      sym (take_next entries (count (parts.Server server)) e is.is_there)
      ∙ ap (λ (n : ℕ). take n entries) (sym more)
      ∙ ap (λ (n : ℕ). take (other (parts.Server n)) entries) (sym at) in
      ap (λ (es : List NodeEntry). slice_set (firsts journals count).servers (server - 1) es) next
      ∙ each_set (λ n (es : List NodeEntry). take (count (parts.Server n)) es) (λ n (es : List NodeEntry). take (other (parts.Server n)) es) 1 journals.servers (server - 1) entries above.1
      (λ n es apart. ap (λ (c : ℕ). take c es) (sym (same (parts.Server n) (λ e. apart ((let h : Path Part (parts.Server n) (parts.Server server) = e in let k : n ≡ server = cc in k) ∙ sym at)))))

  node_more : (server : ℕ) (entries : List NodeEntry) (e : NodeEntry) → item_at journals.servers server ≡ Some entries → IsEntry entries (count (parts.Server server)) e
      → unfounded_citation (firsts journals count) (steps.Node server e.ask) ≡ None
      → other (parts.Server server) ≡ suc (count (parts.Server server)) → ((q : Part) → q ≢ parts.Server server → other q ≡ count q)
      → world_after (firsts journals count) (steps.Node server e.ask) ≡ firsts journals other
  node_more server entries e here is none more same =
      let there = server_placed server entries here in
      let short = length-take-le (count (parts.Server server)) entries (omega (arith, is.less)) in
      let fits = within_limit journals are server entries here in
      let gives = server_gives journals legal server (count (parts.Server server)) entries e here is.is_there in
      let servers : slice_set (firsts journals count).servers (server - 1) (server_journal (firsts journals count) server ++ node_entry (firsts journals count) server e.ask ∷ []) ≡ (firsts journals other).servers =
      ap (λ (es : List NodeEntry). slice_set (firsts journals count).servers (server - 1) es) (server_next (firsts journals count) server (take (count (parts.Server server)) entries) e there gives)
      ∙ servers_more server entries e here is more same in
      let desk = ap (λ (n : ℕ). take n journals.desk) (sym (same parts.Desk (λ e. let h : Path Part parts.Desk (parts.Server server) = e in cc))) in
      let view = ap (λ (n : ℕ). take n journals.view) (sym (same parts.View (λ e. let h : Path Part parts.View (parts.Server server) = e in cc))) in
      world_grown (firsts journals count) (steps.Node server e.ask)
      (server_free (firsts journals count) server (take (count (parts.Server server)) entries) e.ask there (omega (arith, short, is.less, fits)) none)
      ∙ (λ i. record { levels = journals.levels; limits = journals.limits; servers = servers i; desk = desk i; view = view i })

  desk_more : (e : DeskEntry) → IsEntry journals.desk (count parts.Desk) e → unfounded_citation (firsts journals count) (steps.Desk e.ask) ≡ None
      → other parts.Desk ≡ suc (count parts.Desk) → ((q : Part) → q ≢ parts.Desk → other q ≡ count q)
      → world_after (firsts journals count) (steps.Desk e.ask) ≡ firsts journals other
  desk_more e is none more same =
      let short = length-take-le (count parts.Desk) journals.desk (omega (arith, is.less)) in
      let gives : e.reply ≡ desk_reply (desk_at journals.levels journals.limits (take (count parts.Desk) journals.desk)) e.ask =
      legal_at step_reply step_after (opened_desk (bounds_of journals.levels journals.limits)) 1 journals.desk (count parts.Desk) e
      (reverse-legal step_reply step_after (opened_desk (bounds_of journals.levels journals.limits)) journals.desk legal.desk) is.is_there in
      let desk : take (count parts.Desk) journals.desk ++ desk_entry (firsts journals count) e.ask ∷ [] ≡ take (other parts.Desk) journals.desk =
      ap (λ (r : DeskReply). take (count parts.Desk) journals.desk ++ entry e.ask r ∷ []) (sym gives)
      ∙ sym (take_next journals.desk (count parts.Desk) e is.is_there)
      ∙ ap (λ (n : ℕ). take n journals.desk) (sym more) in
      let servers = each_same (λ n (es : List NodeEntry). take (count (parts.Server n)) es) (λ n (es : List NodeEntry). take (other (parts.Server n)) es) 1 journals.servers
      (λ n es. ap (λ (c : ℕ). take c es) (sym (same (parts.Server n) (λ e. let h : Path Part (parts.Server n) parts.Desk = e in cc)))) in
      let view = ap (λ (n : ℕ). take n journals.view) (sym (same parts.View (λ e. let h : Path Part parts.View parts.Desk = e in cc))) in
      world_grown (firsts journals count) (steps.Desk e.ask)
      (not_refused (firsts journals count) parts.Desk (length (take (count parts.Desk) journals.desk)) (unfounded_in_desk_ask (firsts journals count) e.ask)
      (room journals.limits.entries (length (take (count parts.Desk) journals.desk)) (omega (arith, short, is.less, are.desk_fits))) none)
      ∙ (λ i. record { levels = journals.levels; limits = journals.limits; servers = servers i; desk = desk i; view = view i })

  view_more : (e : ViewEntry) → IsEntry journals.view (count parts.View) e
      → other parts.View ≡ suc (count parts.View) → ((q : Part) → q ≢ parts.View → other q ≡ count q)
      → world_after (firsts journals count) (steps.View e.ask) ≡ firsts journals other
  view_more e is more same =
      let short = length-take-le (count parts.View) journals.view (omega (arith, is.less)) in
      let gives : e.reply ≡ view_reply (view_at journals.levels (take (count parts.View) journals.view)) e.ask =
      legal_at view_reply_at view_after_at (view_state journals.levels []) 1 journals.view (count parts.View) e legal.view is.is_there
      ∙ ap (λ (l : Live). view_reply l e.ask) (replays journals.levels (take (count parts.View) journals.view)
      (legal_first view_reply_at view_after_at (view_state journals.levels []) 1 journals.view (count parts.View) legal.view)) in
      let view : take (count parts.View) journals.view ++ view_entry (firsts journals count) e.ask ∷ [] ≡ take (other parts.View) journals.view =
      ap (λ (r : ViewReply). take (count parts.View) journals.view ++ entry e.ask r ∷ []) (sym gives)
      ∙ sym (take_next journals.view (count parts.View) e is.is_there)
      ∙ ap (λ (n : ℕ). take n journals.view) (sym more) in
      let servers = each_same (λ n (es : List NodeEntry). take (count (parts.Server n)) es) (λ n (es : List NodeEntry). take (other (parts.Server n)) es) 1 journals.servers
      (λ n es. ap (λ (c : ℕ). take c es) (sym (same (parts.Server n) (λ e. let h : Path Part (parts.Server n) parts.View = e in cc)))) in
      let desk = ap (λ (n : ℕ). take n journals.desk) (sym (same parts.Desk (λ e. let h : Path Part parts.Desk parts.View = e in cc))) in
      world_grown (firsts journals count) (steps.View e.ask)
      (not_refused (firsts journals count) parts.View (length (take (count parts.View) journals.view)) None
      (room journals.limits.entries (length (take (count parts.View) journals.view)) (omega (arith, short, is.less, are.view_fits))) refl)
      ∙ (λ i. record { levels = journals.levels; limits = journals.limits; servers = servers i; desk = desk i; view = view i })

  -- a step that is next
  step_more : (part : Part) (step : Step) → step_at journals part (suc (count part)) ≡ Some step → unfounded_citation (firsts journals count) step ≡ None
      → other part ≡ suc (count part) → ((q : Part) → q ≢ part → other q ≡ count q)
      → world_after (firsts journals count) step ≡ firsts journals other
  step_more (parts.Server server) step is none more same =
      let made = map-some (λ (e : NodeEntry). steps.Node server e.ask) (server_entry journals server (suc (count (parts.Server server)))) step is in
      let found = chained (λ (es : List NodeEntry). item_at es (suc (count (parts.Server server)))) (item_at journals.servers server) made.0 made.1 in
      ap (world_after (firsts journals count)) (sym made.2)
      ∙ node_more server found.0 made.0 found.1 (is_entry found.0 (count (parts.Server server)) made.0 found.2) (ap (unfounded_citation (firsts journals count)) made.2 ∙ none) more same
  step_more parts.Desk step is none more same =
      let made = map-some (λ (e : DeskEntry). steps.Desk e.ask) (item_at journals.desk (suc (count parts.Desk))) step is in
      ap (world_after (firsts journals count)) (sym made.2)
      ∙ desk_more made.0 (is_entry journals.desk (count parts.Desk) made.0 made.1) (ap (unfounded_citation (firsts journals count)) made.2 ∙ none) more same
  step_more parts.View step is none more same =
      let made = map-some (λ (e : ViewEntry). steps.View e.ask) (item_at journals.view (suc (count parts.View))) step is in
      ap (world_after (firsts journals count)) (sym made.2)
      ∙ view_more made.0 (is_entry journals.view (count parts.View) made.0 made.1) more same

-- ---- the whole order

nothing_first : (journals : JournalsView) → AreJournals journals → firsts journals (times []) ≡ no_entries journals.levels journals.limits
nothing_first journals are =
    let number : length journals.servers ≡ 2 ^ journals.levels - 1 = (let one = are.one_each in omega (arith, one)) in
    let servers = each_none (λ n (es : List NodeEntry). take (times [] (parts.Server n)) es) 1 journals.servers (λ n es. take_none es) ∙ ap (λ (n : ℕ). replicate n []) number in
    λ i. record { levels = journals.levels; limits = journals.limits; servers = servers i; desk = take_none journals.desk i; view = take_none journals.view i }

all_first : (journals : JournalsView) (count : Part → ℕ) → ((part : Part) → count part ≡ entries_of journals part) → firsts journals count ≡ journals
all_first journals count all =
    let servers = each_is (λ n (es : List NodeEntry). take (count (parts.Server n)) es) 1 journals.servers
    (λ place es is.
    let journal : server_journal journals (1 + place) ≡ es =
    ap (λ (o : Option (List NodeEntry)). unwrap_or o []) (ap (item_at journals.servers) (omega arith) ∙ item_at-suc journals.servers place ∙ is) in
    ap (λ (n : ℕ). take n es) (all (parts.Server (1 + place)) ∙ ap length journal) ∙ take_all (length es) es (omega arith)) in
    let desk = ap (λ (n : ℕ). take n journals.desk) (all parts.Desk) ∙ take_all (length journals.desk) journals.desk (omega arith) in
    let view = ap (λ (n : ℕ). take n journals.view) (all parts.View) ∙ take_all (length journals.view) journals.view (omega arith) in
    λ i. record { levels = journals.levels; limits = journals.limits; servers = servers i; desk = desk i; view = view i }

runs_from : (journals : JournalsView) → AreJournals journals → AreLegal journals → (before order : List Part) → ArePlaced journals before order
    → run_from (placed_journals journals before) (steps_from journals before order) ≡ placed_journals journals (before ++ order)
runs_from journals are legal before [] done = ap (placed_journals journals) (sym (append-nil before))
runs_from journals are legal before (part ∷ order) done =
    ap (λ (o : Option Step). run_from (placed_journals journals before) (option_to_list o ++ steps_from journals (before ++ part ∷ []) order)) done.0.is_there
    ∙ ap (λ (w : JournalsView). run_from w (steps_from journals (before ++ part ∷ []) order))
    (step_more journals are legal (times before) (times (before ++ part ∷ [])) part done.0.step done.0.is_there done.0.founded (times-same before part) (times-other before part))
    ∙ runs_from journals are legal (before ++ part ∷ []) order done.1
    ∙ ap (placed_journals journals) (append_assoc before (part ∷ []) order)

-- the asks in the order of one that explains the journals make these journals
pub run_is : (journals : JournalsView) → AreJournals journals → (order : List Part) → Explains journals order → run journals.levels journals.limits (asks_of journals order) ≡ journals
run_is journals are order explains =
    ap (λ (w : JournalsView). run_from w (asks_of journals order)) (sym (nothing_first journals are))
    ∙ runs_from journals are explains.legal [] order explains.founded
    ∙ all_first journals (times order) explains.all

pub of_run : (journals : JournalsView) → AreJournals journals → (order : List Part) → Explains journals order → IsOfRun journals
of_run journals are order explains = (asks_of journals order, sym (run_is journals are order explains))
