-- A Choose is answered with the best quorum for its purpose that is up, or with a blocker where none is. The journals
-- of a run are legal, and what is answered in it is offered.
use Rattle.std.proofs.Common.{◌≡◌, ℕ, Bool, true, false, List, [], Option, Some, None, is_some, not, sum_by, refl, sym, ap, subst, ◌∙◌, ◌+◌, ◌-◌, nat_lt, cond, suc, ◌∷◌, ◌++◌, arith}
use Rattle.std.proofs.lemmas.Bool.{false≢true}
use Rattle.std.specs.{Option.unwrap_or, Prelude.{reverse, slice_get, if◌then◌else◌, Result, Ok, Err, IfOk}}
use Rattle.tq_live.specs.{Live.{Live, cost_of, best, blocker, IsChoice}, declared.purpose.Purpose.Purpose}
use Rattle.tq_live.specs.View.{choice_reply, view_reply, view_reply_at, view_after_at, view_state, IsLegalView}
use Rattle.tq_live.{specs.declared.view.ViewAsk.ViewAsk, proofs.{Either.{has-either, first-choice}, Journal.replays}}
use Rattle.tq_live.specs.declared.choice.Choice.TheVariants as choices
use Rattle.tq_live.specs.declared.view.ViewAsk.TheVariants as asks
use Rattle.tq_tables.specs.{Journals.JournalsView, Parts.{AreLegal, AreLegalServers}, Tables.{TablesView, tables_of}}
use Rattle.tq_tables.specs.Journals.{no_entries}
use Rattle.tq_core.specs.declared.answer.{Answer.Answer, Reply.Reply, Refusal.Refusal, Step.Step}
use Rattle.tq_core.specs.World.{view_at, item_at}
use Rattle.tq_core.specs.Headline.{IsOffer, OffersBest, HasCommittedReads, AreOffered, Headline}
use Rattle.tq_core.specs.Steps.{answer, IsOfRun, refusal, world_with_step, world_after, run_from, run, view_entry, server_journal, told_at, is_memory, IsTold, AreTold}
use Rattle.tq_core.proofs.{Journaled.{bounds_of, HasEvents, run_events}, Worlds.{legal_nodes, legal_desk}}
use Rattle.tq_core.specs.declared.answer.Reply.TheVariants as replies
use Rattle.tq_core.specs.declared.answer.Step.TheVariants as steps
use Rattle.tq_shape.{specs.{Limits.LimitsView, Journal.state_at}, proofs.Joined.legal-push}
use Rattle.tq_node.specs.NodeJournal.{NodeEntry, IsLegalNode}
use Rattle.tq_desk.specs.DeskJournal.{DeskEntry, IsLegalDesk}

found_one : {A : Type 0} (o : Option A) (d : A) → is_some o ≡ true → o ≡ Some (unwrap_or o d)
found_one None d is = absurd (false≢true is)
found_one (Some x) d is = refl

true_from_not : (b : Bool) → false ≡ not b → b ≡ true
true_from_not true e = refl
true_from_not false e = absurd (false≢true e)

offer : (live : Live) (purpose : Purpose) (least : Option (List ℕ)) → best live purpose 1 ≡ least → IsOffer live purpose (replies.View (choice_reply live purpose least))
offer live purpose (Some servers) is =
    let choice : IsChoice live purpose (choices.Quorum (record { servers = servers; levels = live.levels }) (sum_by (cost_of live purpose) servers)) = (is, refl, refl) in
    (choice, first-choice live purpose (choices.Quorum (record { servers = servers; levels = live.levels }) (sum_by (cost_of live purpose) servers)) choice)
offer live purpose None is =
    let blocked : is_some (blocker live) ≡ true = true_from_not (is_some (blocker live)) (sym (ap is_some is) ∙ has-either live purpose) in
    let choice : IsChoice live purpose (choices.Blocked (record { servers = unwrap_or (blocker live) []; levels = live.levels })) = (is, found_one (blocker live) [] blocked, refl) in
    (choice, first-choice live purpose (choices.Blocked (record { servers = unwrap_or (blocker live) []; levels = live.levels })) choice)

-- the answer of a view that was asked to choose
pub choose_offers : (live : Live) (purpose : Purpose) (reply : Reply) → reply ≡ replies.View (view_reply live (asks.Choose purpose)) → IsOffer live purpose reply
choose_offers live purpose reply is = subst (IsOffer live purpose) (sym is) (offer live purpose (best live purpose 1) refl)

pub view_offers : (world : JournalsView) (ask : ViewAsk) (answered : Answer) → answered ≡ answer world (steps.View ask) → OffersBest world (steps.View ask) answered
view_offers world (asks.Choose purpose) answered is = choose_offers (view_at world.levels world.view) purpose answered.reply (ap (λ (a : Answer). a.reply) is)
view_offers world (asks.SetCost server read write) answered is = tt
view_offers world (asks.Mark server up) answered is = tt

-- ---- legal

-- ---- the view's journal

HasLegalView : JournalsView → Type 0
HasLegalView world = IsLegalView world.levels world.view

view_grown : (world : JournalsView) (ask : ViewAsk) → IsLegalView world.levels world.view → IsLegalView world.levels (world.view ++ view_entry world ask ∷ [])
view_grown world ask legal =
    legal-push view_reply_at view_after_at (view_state world.levels []) world.view (view_entry world ask) legal
    (ap (λ (l : Live). view_reply l ask) (sym (replays world.levels world.view legal)))

grown_view : (world : JournalsView) (step : Step) → HasLegalView world → HasLegalView (world_with_step world step)
unfolding HasLegalView
grown_view world (steps.Node server ask) legal = legal
grown_view world (steps.Desk ask) legal = legal
grown_view world (steps.View ask) legal = view_grown world ask legal

one_view : (world : JournalsView) (step : Step) → HasLegalView world → HasLegalView (world_after world step)
one_view world step legal = by (refusal world step)
  where
    by : (refused : Option Refusal) → HasLegalView (state_at refused world (world_with_step world step))
    by None = grown_view world step legal
    by (Some reason) = legal

all_views : (world : JournalsView) (steps : List Step) → HasLegalView world → HasLegalView (run_from world steps)
all_views world [] legal = legal
all_views world (step ∷ rest) legal = all_views (world_after world step) rest (one_view world step legal)

run_view : (levels : ℕ) (limits : LimitsView) (steps : List Step) → HasLegalView (run levels limits steps)
unfolding HasLegalView
run_view levels limits steps = all_views (no_entries levels limits) steps tt

-- ---- the servers' journals

legal_servers : (first : ℕ) (servers : List (List NodeEntry)) → ((i : ℕ) → IsLegalNode (first + i) (reverse (unwrap_or (slice_get servers i) []))) → AreLegalServers first servers
legal_servers first [] legal = tt
legal_servers first (entries ∷ servers) legal = (
  subst (λ (n : ℕ). IsLegalNode n (reverse entries)) (plain first) (legal 0),
  legal_servers (first + 1) servers (λ i. subst (λ (n : ℕ). IsLegalNode n (reverse (unwrap_or (slice_get servers i) []))) (next first i) (legal (suc i))),
)
  where
    plain : (n : ℕ) → n + 0 ≡ n
    plain n = omega arith

    next : (n i : ℕ) → n + suc i ≡ (n + 1) + i
    next n i = omega arith

at_number : {E : Type 0} (items : List E) (i : ℕ) → item_at items (1 + i) ≡ slice_get items i
at_number {E} items i =
    let above : nat_lt 0 (1 + i) ≡ true = grind arith in
    let place : (1 + i) - 1 ≡ i = omega arith in
    ap (λ b. cond b (slice_get items ((1 + i) - 1)) None) above ∙ ap (slice_get items) place

journal_of_number : (world : JournalsView) (i : ℕ) → server_journal world (1 + i) ≡ unwrap_or (slice_get world.servers i) []
journal_of_number world i = ap (λ (o : Option (List NodeEntry)). unwrap_or o []) (at_number world.servers i)

-- ---- all of them

legal_world : (world : JournalsView) → HasEvents world → HasLegalView world → AreLegal world
unfolding HasLegalView
legal_world world has view = record {
  servers = legal_servers 1 world.servers (λ i. subst (λ (J : List NodeEntry). IsLegalNode (1 + i) J) (has.1.nodes (1 + i) ∙ ap reverse (journal_of_number world i)) (legal_nodes (bounds_of world) has.0 has.1.ran (1 + i)));
  desk = subst (λ (J : List DeskEntry). IsLegalDesk (bounds_of world) J) has.1.desk (legal_desk (bounds_of world) has.0 has.1.ran);
  view = view;
}

pub legal_run : (world : JournalsView) → IsOfRun world → AreLegal world
legal_run world ran =
    subst (λ (w : JournalsView). AreLegal w) (sym ran.1)
    (legal_world (run world.levels world.limits ran.0) (run_events world.levels world.limits ran.0) (run_view world.levels world.limits ran.0))

-- ---- offers

told_is : (world : JournalsView) (step : Step) (answered : Answer) → Ok answered ≡ told_at (refusal world step) (answer world step) → answered ≡ answer world step
told_is world step answered = by (refusal world step)
  where
    by : (refused : Option Refusal) → Ok answered ≡ told_at refused (answer world step) → answered ≡ answer world step
    by None is = let same : Path (Result Answer Refusal) (Ok answered) (Ok (answer world step)) = is in cc
    by (Some reason) is = absurd (let no : Path (Result Answer Refusal) (Ok answered) (Err reason) = is in cc)

one_offer : (world : JournalsView) (step : Step) (answered : Answer) → answered ≡ answer world step → OffersBest world step answered
one_offer world (steps.Node server ask) answered is = tt
one_offer world (steps.Desk ask) answered is = tt
one_offer world (steps.View ask) answered is = view_offers world ask answered is

offered : (world : JournalsView) (step : Step) (result : Result Answer Refusal) → IsTold world step result → IfOk result (λ answered. OffersBest world step answered)
offered world step (Ok answered) told = one_offer world step answered (told_is world step answered told)
offered world step (Err reason) told = tt

-- steps that are told what they are to be told are offered the best
pub all_offered : (world : JournalsView) (steps : List Step) (results : List (Result Answer Refusal)) → AreTold world steps results → AreOffered world steps results
all_offered world [] [] told = tt
all_offered world [] (result ∷ results) told = absurd told
all_offered world (step ∷ steps) [] told = absurd told
all_offered world (step ∷ steps) (result ∷ results) told =
    (offered world step result told.0, all_offered (if is_memory result then world else world_after world step) steps results told.1)

-- ---- the headline

pub headline : (world : JournalsView) (tables : TablesView) → tables ≡ tables_of world → HasCommittedReads world → Headline world tables
headline world tables same reads =
    record { rows = same; choice = λ purpose. view_offers world (asks.Choose purpose) (answer world (steps.View (asks.Choose purpose))) refl; reads = reads }
