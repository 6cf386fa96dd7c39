-- A service stands as its journals say, also after one more entry.
use Rattle.std.proofs.Common.{◌≡◌, ◌≤◌, ◌<◌, ◌+◌, ◌-◌, ◌^◌, ℕ, suc, Bool, true, false, cond, List, [], ◌∷◌, ◌++◌, length, map, set, get_or, replicate, Option, Some, None, refl, sym, ap, subst, ◌∙◌, arith}
use Rattle.std.proofs.lemmas.List.{get_or-map, length-map, length-set, length-replicate, length_push, map-set, set-get_or}
use Rattle.std.proofs.lemmas.{Option.{get_or_from_slice_get, slice_get-get_or, slice_get_within}, List.Sums.fold-append}
use Rattle.std.proofs.lemmas.{List.Elements.{All-set, All-replicate, All-push}, Nat.pow_pos}
use Rattle.std.specs.{Prelude.{nat_lt, slice_get, reverse, Result, Ok, Err, IfOk, OnErr}, Result.IsErrAnd}
use Rattle.std.specs.Option.{option_map, unwrap_or}
use Rattle.tq_shape.specs.{Limits.LimitsView, Tree.IsServer, Journal.entry, declared.part.Entry.Entry}
use Rattle.tq_shape.specs.declared.{fault.AskFault.AskFault, journaled.Answered.Answered}
use Rattle.tq_shape.specs.declared.part.Part.TheVariants as parts
use Rattle.tq_shape.specs.declared.fault.AskFault.TheVariants as ask_faults
use Rattle.tq_asks.specs.declared.ask.{NodeAsk.NodeAsk, NodeReply.NodeReply}
use Rattle.tq_node.specs.{Node.NodeView, NodeJournal.NodeEntry, Records.node_reply}
use Rattle.tq_desk.specs.{declared.ask.{DeskAsk.DeskAsk, DeskReply.DeskReply}, DeskJournal.DeskEntry, DeskStep.DeskView}
use Rattle.tq_desk.proofs.DecisionLog.{desk_keeps}
use Rattle.tq_live.specs.{Live.{Live, best}, View.{view_reply, is_server, are_costs, choice_reply}}
use Rattle.tq_live.specs.declared.{purpose.Purpose.Purpose, view.ViewAsk.ViewAsk, view.ViewReply.ViewReply}
use Rattle.tq_live.specs.declared.view.ViewAsk.TheVariants.{SetCost, Mark, Choose}
use Rattle.tq_live.specs.declared.view.ViewReply.TheVariants.{CostSet, Marked, Refused}
use Rattle.tq_live.specs.declared.view.ViewRefusal.TheVariants.{NoSuchServer, BadCost}
use Rattle.tq_tables.specs.Tables.{FollowsDesk, FollowsNode, FollowsView, MayAskNode, both, desk_replies, node_in, node_replies, view_replies, entries_of, with_node, TablesView, tables_of}
use Rattle.tq_tables.specs.{declared.parts.Replies.Replies, Parts.{AreLegal, bounds_of, node_after_all}}
use Rattle.tq_tables.specs.Journals.{JournalsView, AreJournals, IsOfTree, ViewEntry, with_desk, with_view, no_entries}
use Rattle.tq_tables.{specs.Tabled.journals_in, proofs.{Restood.{is_there, node_in-at, node_is}, RowLaws.desk_at-is}}
use Rattle.tq_core.specs.{declared.{answer.{Reply.Reply, Step.Step}, citation.Citation.Citation}, Headline.OffersBest}
use Rattle.tq_core.specs.{World.{item_at, view_at}, Founded.{unfounded_in_node_ask, unfounded_in_desk_ask}}
use Rattle.tq_core.{specs.Service.{answer_of, refusal_of, told_by, IsService}, proofs.Legal.{all_offered, legal_run}}
use Rattle.tq_core.specs.Steps.{refuse_entry, refuse_at, refusal, answer, server_journal, node_entry, desk_entry, view_entry, world_with_step, world_after, run, IsOfRun, IsTold}
use Rattle.tq_core.proofs.{Journaled.{entry_room, item_above, node_room}, Runs.{told_answer, told_refusal, world_grown}}
use Rattle.tq_core.specs.declared.answer.Reply.TheVariants as replies
use Rattle.tq_core.specs.declared.answer.Step.TheVariants as steps

-- ---- whether an ask is taken

module _ (world : JournalsView) (step : Step) (found : Option AskFault) (is : option_map refusal_of found ≡ refusal world step) where
  -- one that is not is told why
  pub refused-told : (fault : AskFault) → found ≡ Some fault → IsTold world step (Err (refusal_of fault))
  refused-told fault some = told_refusal world step (refusal_of fault) (ap (option_map refusal_of) (sym some) ∙ is)

  pub not-refused : found ≡ None → refusal world step ≡ None
  not-refused none = sym is ∙ ap (option_map refusal_of) none

-- an ask of a service that is taken: it stands afterwards, and the ask was told what the step is to be told
pub record Asked {R : Type 0} (into : R → Reply) (tables : TablesView) (old new : JournalsView) (step : Step) (answered : Answered R) : Type 0 where
  pub stands : IsService tables new
  pub told : IsTold old step (Ok (answer_of into answered))
  pub after : new ≡ world_after old step

ran-push : (world : JournalsView) (step : Step) → refusal world step ≡ None → (done : List Step) → world ≡ run world.levels world.limits done
    → world_with_step world step ≡ run world.levels world.limits (done ++ step ∷ [])
ran-push world step none done ran =
    sym (world_grown world step none)
    ∙ ap (λ (w : JournalsView). world_after w step) ran
    ∙ sym (fold-append world_after (no_entries world.levels world.limits) done (step ∷ []))

-- ---- an ask that is entered

-- the new tables follow the old ones' journals with this entry more, whatever is replied
abbrev Follows : {A R : Type 0} → (JournalsView → Entry A R → JournalsView) → TablesView → TablesView → A → Type 0
Follows {A} {R} with_entry old new ask =
    (journals : JournalsView) (reply : R) → AreLegal (with_entry journals (entry ask reply)) → old ≡ tables_of journals → new ≡ tables_of (with_entry journals (entry ask reply))

module _ {A R : Type 0} (into : R → Reply) (with_entry : JournalsView → Entry A R → JournalsView) (tables new : TablesView) (world after : JournalsView) (service : IsService tables world)
    (step : Step) (ask : A) (reply : R) (answered : Answered R) where
  entered_here : refusal world step ≡ None → Follows with_entry tables new ask
      → with_entry world (entry ask reply) ≡ world_with_step world step → AreJournals (world_with_step world step) → IsOfRun (world_with_step world step)
      → answer_of into answered ≡ answer world step
      → (new ≡ tables_of (world_with_step world step) → after ≡ world_with_step world step)
      → Asked into new world after step answered
  entered_here none follows grows journals ran answers moved =
      let legal = subst (λ (w : JournalsView). AreLegal w) (sym grows) (legal_run (world_with_step world step) ran) in
      let stand = follows world reply legal service.stand ∙ ap tables_of grows in
      let goes = moved stand in
      record {
        stands = subst (λ (w : JournalsView). IsService new w) (sym goes) (record { journals = journals; ran = ran; stand = stand });
        told = told_answer world step (answer_of into answered) none answers;
        after = goes ∙ sym (world_grown world step none);
      }

-- the same of what was given
asked_at : {R : Type 0} (into : R → Reply) (tables : TablesView) (world given new : JournalsView) (step : Step) (answered : Answered R) → world ≡ given
    → (refusal world step ≡ None → Asked into tables world new step answered) → refusal given step ≡ None → Asked into tables given new step answered
asked_at into tables world given new step answered here asked none =
    subst (λ (w : JournalsView). Asked into tables w new step answered) here (asked (ap (λ (w : JournalsView). refusal w step) here ∙ none))

-- ---- the desk

-- the desk is of the tree of the journals
pub desk-levels : (tables : TablesView) (world : JournalsView) → IsService tables world → tables.desk.levels ≡ world.levels
desk-levels tables world service =
    ap (λ (t : TablesView). t.desk.levels) service.stand
    ∙ ap (λ (d : DeskView). d.levels) (desk_at-is world.levels world.limits world.desk)
    ∙ (desk_keeps (bounds_of world.levels world.limits) (reverse world.desk) (legal_run world service.ran).desk).levels

module _ (tables new : TablesView) (world given : JournalsView) (here : world ≡ given) (service : IsService tables world) (after : List DeskEntry) (ask : DeskAsk) where
  desk_journals : refusal world (steps.Desk ask) ≡ None → AreJournals (world_with_step world (steps.Desk ask))
  desk_journals none =
      let room = entry_room world parts.Desk (length world.desk) (unfounded_in_desk_ask world ask) none in
      record {
        one_each = service.journals.one_each;
        servers_fit = service.journals.servers_fit;
        desk_fits = let l = length_push world.desk (desk_entry world ask) in omega arith;
        view_fits = service.journals.view_fits;
        of_tree = service.journals.of_tree;
      }

  pub desk_asked : refusal given (steps.Desk ask) ≡ None → FollowsDesk tables new ask → (number : ℕ) → number ≡ length world.desk + 1
      → (made : Replies DeskReply) → made ≡ desk_replies tables.desk ask → after ≡ world.desk ++ entry ask made.entered ∷ []
      → Asked replies.Desk new given (journals_in new world.limits world.servers after world.view) (steps.Desk ask) (record { number = number; reply = made.told })
  desk_asked none follows number counted made are more =
      let answered : Answered DeskReply = record { number = number; reply = made.told } in
      let next : number ≡ suc (length world.desk) = omega (arith, counted) in
      let said = are ∙ ap (λ (t : TablesView). desk_replies t.desk ask) service.stand in
      asked_at replies.Desk new world given (journals_in new world.limits world.servers after world.view) (steps.Desk ask) answered here
      (λ none. entered_here replies.Desk with_desk tables new world (journals_in new world.limits world.servers after world.view) service (steps.Desk ask) ask (desk_entry world ask).reply answered none follows
      refl (desk_journals none) (service.ran.0 ++ steps.Desk ask ∷ [], ran-push world (steps.Desk ask) none service.ran.0 service.ran.1)
      (λ i. record { number = next i; reply = replies.Desk (said i).told })
      (λ stand i. record {
        levels = (stand i).levels;
        limits = world.limits;
        servers = world.servers;
        desk = (more ∙ ap (λ (r : Replies DeskReply). world.desk ++ entry ask r.entered ∷ []) said) i;
        view = world.view;
      })) none

-- ---- the view

cost_of_tree : (levels : ℕ) (there good : Bool) → IsOfTree levels (cond there (cond good CostSet (Refused BadCost)) (Refused NoSuchServer))
cost_of_tree levels true true = tt
cost_of_tree levels true false = tt
cost_of_tree levels false good = tt

mark_of_tree : (levels : ℕ) (there : Bool) → IsOfTree levels (cond there Marked (Refused NoSuchServer))
mark_of_tree levels true = tt
mark_of_tree levels false = tt

choice_of_tree : (live : Live) (purpose : Purpose) (least : Option (List ℕ)) → IsOfTree live.levels (choice_reply live purpose least)
choice_of_tree live purpose None = refl
choice_of_tree live purpose (Some servers) = refl

reply_of_tree : (live : Live) (ask : ViewAsk) → IsOfTree live.levels (view_reply live ask)
reply_of_tree live (SetCost server read write) = cost_of_tree live.levels (is_server live.levels server) (are_costs read write)
reply_of_tree live (Mark server up) = mark_of_tree live.levels (is_server live.levels server)
reply_of_tree live (Choose purpose) = choice_of_tree live purpose (best live purpose 1)

module _ (tables new : TablesView) (world given : JournalsView) (here : world ≡ given) (service : IsService tables world) (after : List ViewEntry) (ask : ViewAsk) where
  view_journals : refusal world (steps.View ask) ≡ None → AreJournals (world_with_step world (steps.View ask))
  view_journals none =
      let e = view_entry world ask in
      let room = entry_room world parts.View (length world.view) None none in
      let P : ViewEntry → Type 0 = λ x. IsOfTree world.levels x.reply in
      record {
        one_each = service.journals.one_each;
        servers_fit = service.journals.servers_fit;
        desk_fits = service.journals.desk_fits;
        view_fits = let l = length_push world.view e in omega arith;
        of_tree = All-push P world.view e service.journals.of_tree (reply_of_tree (view_at world.levels world.view) ask);
      }

  pub view_asked : refusal given (steps.View ask) ≡ None → FollowsView tables new ask → (number : ℕ) → number ≡ length world.view + 1
      → (made : Replies ViewReply) → made ≡ view_replies tables.view ask → after ≡ world.view ++ entry ask made.entered ∷ []
      → Asked replies.View new given (journals_in new world.limits world.servers world.desk after) (steps.View ask) (record { number = number; reply = made.told })
  view_asked none follows number counted made are more =
      let answered : Answered ViewReply = record { number = number; reply = made.told } in
      let next : number ≡ suc (length world.view) = omega (arith, counted) in
      let said = are ∙ ap (λ (t : TablesView). view_replies t.view ask) service.stand in
      asked_at replies.View new world given (journals_in new world.limits world.servers world.desk after) (steps.View ask) answered here
      (λ none. entered_here replies.View with_view tables new world (journals_in new world.limits world.servers world.desk after) service (steps.View ask) ask (view_entry world ask).reply answered none follows
      refl (view_journals none) (service.ran.0 ++ steps.View ask ∷ [], ran-push world (steps.View ask) none service.ran.0 service.ran.1)
      (λ i. record { number = next i; reply = replies.View (said i).told })
      (λ stand i. record {
        levels = (stand i).levels;
        limits = world.limits;
        servers = world.servers;
        desk = world.desk;
        view = (more ∙ ap (λ (r : Replies ViewReply). world.view ++ entry ask r.entered ∷ []) said) i;
      })) none

-- what an ask of the view is told is an offer
pub told_offers : {R : Type 0} (reply : R → Reply) (world : JournalsView) (step : Step) (result : Result (Answered R) AskFault)
    → IsTold world step (told_by reply result) → IfOk result (λ told. OffersBest world step (answer_of reply told))
told_offers reply world step (Ok told) is = (all_offered world (step ∷ []) (Ok (answer_of reply told) ∷ []) (is, tt)).0
told_offers reply world step (Err fault) is = tt

-- ---- a server

-- its journal, in a service
module _ (tables : TablesView) (world : JournalsView) (service : IsService tables world) (server : ℕ) (journal : List NodeEntry) (at : item_at world.servers server ≡ Some journal) where
  there : (0 < server) × (slice_get world.servers (server - 1) ≡ Some journal)
  there = item_above world.servers server journal at

  entries_are : entries_of world server ≡ journal
  entries_are = get_or_from_slice_get world.servers (server - 1) journal [] there.1

  journal_is : server_journal world server ≡ journal
  journal_is = ap (λ (o : Option (List NodeEntry)). unwrap_or o []) at

  may_ask : MayAskNode tables server (length journal + 1)
  may_ask =
      let less = slice_get_within world.servers (server - 1) journal there.1 in
      record {
        journals = world;
        stand = service.stand;
        there = (there.0, omega (arith, less, there.0));
        next = ap (λ (entries : List NodeEntry). length entries + 1) (sym entries_are);
      }

  node_stands : node_in tables.nodes server ≡ node_after_all world.levels server (server_journal world server)
  node_stands =
      let within = is_there tables server (length journal + 1) may_ask in
      node_is world server tables (node_in tables.nodes server) service.stand within.0 (node_in-at tables.nodes server (omega (arith, within.0, within.1))) within.1
      ∙ ap (node_after_all world.levels server) (entries_are ∙ sym journal_is)

  module _ (ask : NodeAsk) where
    node_refusal : refusal world (steps.Node server ask) ≡ refuse_entry world (parts.Server server) (length journal) (unfounded_in_node_ask world ask)
    node_refusal = ap (λ (o : Option (List NodeEntry)). refuse_at world server o (unfounded_in_node_ask world ask)) at

    node_journals : refusal world (steps.Node server ask) ≡ None → AreJournals (world_with_step world (steps.Node server ask))
    node_journals none =
        let entries = server_journal world server in
        let e = node_entry world server ask in
        let P : List NodeEntry → Type 0 = λ x. length x ≤ world.limits.entries in
        let fits : length (entries ++ e ∷ []) ≤ world.limits.entries =
        (let r = (node_room world server (unfounded_in_node_ask world ask) none).room in let l = length_push entries e in omega arith) in
        record {
          one_each = let count = length-set world.servers (server - 1) (entries ++ e ∷ []) in let old = service.journals.one_each in omega arith;
          servers_fit = All-set P world.servers (server - 1) (entries ++ e ∷ []) fits service.journals.servers_fit;
          desk_fits = service.journals.desk_fits;
          view_fits = service.journals.view_fits;
          of_tree = service.journals.of_tree;
        }

    node_here : (new : TablesView) (servers : List (List NodeEntry)) (after : List NodeEntry) → servers ≡ set world.servers (server - 1) after → refusal world (steps.Node server ask) ≡ None
        → FollowsNode tables new server ask → (number : ℕ) → number ≡ length journal + 1 → (made : Replies NodeReply) → made ≡ node_replies tables.nodes server ask → after ≡ journal ++ entry ask made.entered ∷ []
        → Asked replies.Node new world (journals_in new world.limits servers world.desk world.view) (steps.Node server ask) (record { number = number; reply = made.told })
    node_here new servers after placed none follows number counted made are more =
        let e = node_entry world server ask in
        let answered : Answered NodeReply = record { number = number; reply = made.told } in
        let count = ap (λ (entries : List NodeEntry). length entries) journal_is in
        let next : number ≡ suc (length (server_journal world server)) = omega (arith, counted, count) in
        let said = are ∙ ap (λ (n : NodeView). both (node_reply n.server n.state ask)) node_stands in
        entered_here replies.Node (λ all e. with_node all server e) tables new world (journals_in new world.limits servers world.desk world.view) service (steps.Node server ask) ask e.reply answered none follows
        (λ i. record world { servers = set world.servers (server - 1) ((entries_are ∙ sym journal_is) i ++ e ∷ []) })
        (node_journals none) (service.ran.0 ++ steps.Node server ask ∷ [], ran-push world (steps.Node server ask) none service.ran.0 service.ran.1)
        (λ i. record { number = next i; reply = replies.Node (said i).told })
        (λ stand i. record {
          levels = (stand i).levels;
          limits = world.limits;
          servers = (placed
              ∙ ap (λ (entries : List NodeEntry). set world.servers (server - 1) entries)
              (more ∙ ap (λ (r : Replies NodeReply). journal ++ entry ask r.entered ∷ []) said ∙ ap (λ (entries : List NodeEntry). entries ++ e ∷ []) (sym journal_is))) i;
          desk = world.desk;
          view = world.view;
        })

-- a journal whose entries are the same, beside the same tables, leaves all as they are
same_servers : {V : Type 0} (items : V → List NodeEntry) (journals : List V) (k : ℕ) (journal after : V) → journal ≡ get_or journals k journal → items after ≡ items journal → map items (set journals k after) ≡ map items journals
same_servers {V} items journals k journal after at same =
    map-set items journals k after
    ∙ ap (λ (entries : List NodeEntry). set (map items journals) k entries) same
    ∙ sym (map-set items journals k journal)
    ∙ ap (λ (one : V). map items (set journals k one)) at
    ∙ ap (map items) (set-get_or journals k journal)

pub node_stays : {V : Type 0} (items : V → List NodeEntry) (journals : List V) (tables : TablesView) (limits : LimitsView) (desk : List DeskEntry) (view : List ViewEntry) (given : JournalsView)
    → journals_in tables limits (map items journals) desk view ≡ given → IsService tables (journals_in tables limits (map items journals) desk view)
    → (k : ℕ) (journal after : V) → journal ≡ get_or journals k journal → items after ≡ items journal → (now : TablesView) → now ≡ tables
    → (let world = journals_in now limits (map items (set journals k after)) desk view in IsService now world × (world ≡ given))
node_stays items journals tables limits desk view given here service k journal after at same now stays =
    let world = journals_in now limits (map items (set journals k after)) desk view in
    let all : world ≡ journals_in tables limits (map items journals) desk view = λ i. journals_in (stays i) limits (same_servers items journals k journal after at same i) desk view in
    (subst (λ (t : TablesView). IsService t world) (sym stays) (subst (λ (w : JournalsView). IsService tables w) (sym all) service), all ∙ here)

-- of want of memory it is told that the step would be taken
pub memory_told : {R : Type 0} (into : R → Reply) (world : JournalsView) (step : Step) (result : Result (Answered R) AskFault) → IsErrAnd result (λ fault. fault ≡ ask_faults.Memory) → refusal world step ≡ None
    → IsTold world step (told_by into result)
memory_told into world step (Ok told) is none = absurd is
memory_told into world step (Err fault) is none = subst (λ (f : AskFault). IsTold world step (Err (refusal_of f))) (sym is) none

pub on_err : {T E : Type 0} (P : Type 0) (result : Result T E) → P → OnErr result P
on_err P (Ok told) holds = tt
on_err P (Err fault) holds = holds

-- an ask of a server of the tree, whatever the number is called that the step has
module _ {V : Type 0} (items : V → List NodeEntry) (journals : List V) (tables : TablesView) (limits : LimitsView) (desk : List DeskEntry) (view : List ViewEntry) (given : JournalsView)
    (here : journals_in tables limits (map items journals) desk view ≡ given) (service : IsService tables (journals_in tables limits (map items journals) desk view))
    (levels server number : ℕ) (tree : levels ≡ given.levels) (of_tree : IsServer levels server) (same : server ≡ number) (ask : NodeAsk)
    (counted : V) (found : Option AskFault) (entries : ℕ) (unfounded : Option Citation)
    (at : counted ≡ get_or journals (server - 1) counted) (count : entries ≡ length (items counted)) (cited : unfounded ≡ unfounded_in_node_ask given ask)
    (refused : option_map refusal_of found ≡ refuse_entry given (parts.Server server) entries unfounded) where
  there_at : (journal : V) → journal ≡ get_or journals (server - 1) journal → item_at (map items journals) server ≡ Some (items journal)
  there_at journal at =
      let above : nat_lt 0 server ≡ true = (let positive = of_tree.0 in grind (arith, positive)) in
      let one = service.journals.one_each in
      let inside : server < 2 ^ tables.levels = subst (λ (l : ℕ). server < 2 ^ l) (tree ∙ ap (λ (w : JournalsView). w.levels) (sym here)) of_tree.1 in
      let within : server - 1 < length (map items journals) = omega (arith, one, of_tree.0, inside) in
      let less : server - 1 < length journals = (let l = length-map journals items in omega (arith, l, within)) in
      ap (λ (b : Bool). cond b (slice_get (map items journals) (server - 1)) None) above
      ∙ slice_get-get_or (map items journals) (server - 1) [] within
      ∙ ap (λ (entries : List NodeEntry). Some entries) (get_or-map items journals (server - 1) journal [] less ∙ ap items (sym at))

  refusal_is : option_map refusal_of found ≡ refusal given (steps.Node server ask)
  refusal_is =
      refused
      ∙ (λ i. refuse_entry given (parts.Server server) (count i) (cited i))
      ∙ ap (λ (w : JournalsView). refuse_entry w (parts.Server server) (length (items counted)) (unfounded_in_node_ask w ask)) (sym here)
      ∙ sym (node_refusal tables (journals_in tables limits (map items journals) desk view) service server (items counted) (there_at counted at) ask)
      ∙ ap (λ (w : JournalsView). refusal w (steps.Node server ask)) here

  pub node_refused : (fault : AskFault) → found ≡ Some fault → IsTold given (steps.Node number ask) (Err (refusal_of fault))
  node_refused fault some =
      subst (λ (n : ℕ). IsTold given (steps.Node n ask) (Err (refusal_of fault))) same (refused-told given (steps.Node server ask) found refusal_is fault some)

  pub node_free : found ≡ None → refusal given (steps.Node number ask) ≡ None
  node_free none = subst (λ (n : ℕ). refusal given (steps.Node n ask) ≡ None) same (not-refused given (steps.Node server ask) found refusal_is none)

  pub node_asked : found ≡ None → (journal : V) → journal ≡ get_or journals (server - 1) journal → (new : TablesView) → FollowsNode tables new server ask → (next : ℕ) → next ≡ entries + 1
      → (made : Replies NodeReply) → made ≡ node_replies tables.nodes server ask → (after : V) → items after ≡ items journal ++ entry ask made.entered ∷ []
      → Asked replies.Node new given (journals_in new limits (map items (set journals (server - 1) after)) desk view) (steps.Node number ask) (record { number = next; reply = made.told })
  node_asked none journal where_journal new follows next is made are after more =
      let world = journals_in tables limits (map items journals) desk view in
      let servers = map items (set journals (server - 1) after) in
      let answered : Answered NodeReply = record { number = next; reply = made.told } in
      let one : items counted ≡ items journal = ap (λ (o : Option (List NodeEntry)). unwrap_or o []) (sym (there_at counted at) ∙ there_at journal where_journal) in
      let behind = is ∙ ap (λ n. n + 1) (count ∙ ap (λ (all : List NodeEntry). length all) one) in
      subst (λ (n : ℕ). Asked replies.Node new given (journals_in new limits servers desk view) (steps.Node n ask) answered) same
      (asked_at replies.Node new world given (journals_in new limits servers desk view) (steps.Node server ask) answered here
      (λ none. node_here tables world service server (items journal) (there_at journal where_journal) ask new servers (items after) (map-set items journals (server - 1) after) none follows next behind made are more)
      (not-refused given (steps.Node server ask) found refusal_is none))

-- ---- a new service

pub opened : (tables : TablesView) (levels : ℕ) (limits : LimitsView) (world : JournalsView) → world ≡ no_entries levels limits → tables ≡ tables_of (no_entries levels limits) → IsService tables world
opened tables levels limits world all stand =
    let positive : 0 < 2 ^ levels = pow_pos levels in
    let count : length (replicate {A = List NodeEntry} (2 ^ levels - 1) []) ≡ 2 ^ levels - 1 = length-replicate (2 ^ levels - 1) [] in
    let P : List NodeEntry → Type 0 = λ entries. length entries ≤ limits.entries in
    subst (λ (w : JournalsView). IsService tables w) (sym all) (record {
      journals = record {
        one_each = omega arith;
        servers_fit = All-replicate P (2 ^ levels - 1) [] (omega arith);
        desk_fits = omega arith;
        view_fits = omega arith;
        of_tree = λ k d within. absurd (omega (arith, within));
      };
      ran = ([], refl);
      stand = stand;
    })
