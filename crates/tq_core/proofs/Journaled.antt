-- A step that is not refused: its part has room in its journal. A world of journals, each the oldest entry first, and
-- the events that made it, the newest first.
use Rattle.std.proofs.Common.{◌≡◌, ◌<◌, ◌-◌, ℕ, zero, suc, Bool, true, false, cond, List, [], ◌∷◌, length, Option, Some, None, refl, sym, ap, subst, ◌∙◌, nat_le, nat_lt, arith, ◌≢◌, ◌^◌, eqb, ◌++◌, set, replicate, reverse}
use Rattle.std.proofs.lemmas.Bool.{eqb-true, eq-eqb, false≢true}
use Rattle.std.specs.{Prelude.{slice_get, if◌then◌else◌}, Option.{unwrap_or, option_and_then}}
use Rattle.tq_shape.specs.{declared.part.Part.Part, Limits.LimitsView, Journal.{entry_at, entry, state_at}}
use Rattle.tq_shape.proofs.{Joined.{reverse-push, at-reverse, state-reverse}, Options.or_else-none}
use Rattle.tq_shape.specs.declared.part.Part.TheVariants as parts
use Rattle.tq_tables.specs.Journals.{JournalsView, no_entries}
use Rattle.tq_node.specs.NodeJournal.{NodeEntry, nothing_stored, node_state, inner}
use Rattle.tq_node.specs.Records.{NodeState, node_reply, node_after}
use Rattle.tq_core.specs.declared.{answer.{Refusal.Refusal, Step.Step}, citation.Citation.Citation}
use Rattle.tq_core.{specs.World.{item_at, server_entry, node_at, desk_at}, proofs.Runs.world_grown}
use Rattle.tq_core.specs.Steps.{refuse_unfounded, refuse_entry, refuse_at, server_journal, refusal, node_entry, desk_entry, world_with_step, world_after, run_from, run}
use Rattle.tq_core.specs.Founded.{is_founded_grant, is_founded_vote, is_founded_copy, is_founded_verdict, is_granted, is_voted, is_peeked, is_ended, unfounded_op, unfounded_vote, unfounded_in_desk_ask, unfounded_in_node_ask, unfounded_in_work}
use Rattle.tq_core.proofs.Contents.{granted-is, voted-is, peeked-is, ended-is, tested-is, unless_none, ops-are, votes-are}
use Rattle.tq_core.proofs.Worlds.{Event, AtNode, AtDesk, node_journal, desk_journal, IsFoundedGrant, IsFoundedVote, IsFoundedSource, IsFoundedWork, IsFoundedAsk, IsRun}
use Rattle.tq_core.specs.declared.answer.Refusal.TheVariants as refusals
use Rattle.tq_asks.specs.declared.ask.{CitedVote.CitedVote, NodeAsk.NodeAsk, Verdict.Verdict, WorkAsk.WorkAsk}
use Rattle.tq_asks.specs.declared.ask.NodeAsk.TheVariants as node_asks
use Rattle.tq_asks.specs.declared.ask.WorkAsk.TheVariants as work
use Rattle.tq_desk.specs.{declared.ask.DeskAsk.DeskAsk, DeskStep.{DeskView, desk_reply}}
use Rattle.tq_desk.specs.DeskJournal.{DeskBounds, desk_state, opened_desk, step_reply, step_after, VerdictAt, DeskEntry}
use Rattle.tq_desk.specs.declared.ask.DeskAsk.TheVariants as desk_asks
use Rattle.tq_evidence.specs.declared.{grant.Grant.Grant, vote.Vote.Vote}
use Rattle.tq_core.specs.declared.answer.Step.TheVariants as steps

refuses_nothing : (test : Bool) (part : Part) (citation : Option Citation) → (if test then Some (refusals.JournalFull part) else refuse_unfounded citation) ≡ None → test ≡ false
refuses_nothing true part citation none = cc
refuses_nothing false part citation none = refl

room_of : (limit entries : ℕ) → nat_le limit entries ≡ false → entries < limit
room_of limit entries few = grind (arith, few)

-- the part has room in its journal
pub entry_room : (world : JournalsView) (part : Part) (entries : ℕ) (citation : Option Citation) → refuse_entry world part entries citation ≡ None → entries < world.limits.entries
entry_room world part entries citation none = room_of world.limits.entries entries (refuses_nothing (nat_le world.limits.entries entries) part citation none)

-- there is such a server, and its journal has room
pub record HasRoom (world : JournalsView) (server : ℕ) : Type 0 where
  pub above : 0 < server
  pub within : server - 1 < length world.servers
  pub is_there : slice_get world.servers (server - 1) ≡ Some (server_journal world server)
  pub room : length (server_journal world server) < world.limits.entries

pub item_above : {E : Type 0} (items : List E) (number : ℕ) (x : E) → item_at items number ≡ Some x → (0 < number) × (slice_get items (number - 1) ≡ Some x)
item_above {E} items number x is = by (nat_lt 0 number) refl is
  where
    by : (above : Bool) → nat_lt 0 number ≡ above → cond above (slice_get items (number - 1)) None ≡ Some x → (0 < number) × (slice_get items (number - 1) ≡ Some x)
    by true less some = (grind (arith, less), some)
    by false less some = absurd (let none : Path (Option E) None (Some x) = some in cc)

get_within : {E : Type 0} (items : List E) (place : ℕ) (x : E) → slice_get items place ≡ Some x → place < length items
get_within {E} [] place x is = absurd (let none : Path (Option E) None (Some x) = is in cc)
get_within (y ∷ items) zero x is = omega arith
get_within (y ∷ items) (suc place) x is = let less = get_within items place x is in omega arith

pub node_room : (world : JournalsView) (server : ℕ) (citation : Option Citation) → refuse_at world server (item_at world.servers server) citation ≡ None → HasRoom world server
node_room world server citation none = by (item_at world.servers server) refl none
  where
    by : (entries : Option (List NodeEntry)) → item_at world.servers server ≡ entries → refuse_at world server entries citation ≡ None → HasRoom world server
    by None is refused = absurd (let no : Path (Option Refusal) (Some refusals.NoSuchServer) None = refused in cc)
    by (Some entries) is refused =
        let here = item_above world.servers server entries is in
        let same : server_journal world server ≡ entries = ap (λ (o : Option (List NodeEntry)). unwrap_or o []) is in
        let room = entry_room world (parts.Server server) (length entries) citation refused in
        record {
          above = here.0;
          within = get_within world.servers (server - 1) entries here.1;
          is_there = here.1 ∙ ap (λ x. Some x) (sym same);
          room = subst (λ (x : List NodeEntry). length x < world.limits.entries) (sym same) room;
        }

-- ---- journaled

abbrev pub bounds_of : JournalsView → DeskBounds
bounds_of world = record { levels = world.levels; limits = world.limits }

-- the events are a run, and the journals of the world are theirs
pub record IsJournaled (events : List Event) (world : JournalsView) : Type 0 where
  pub ran : IsRun (bounds_of world) events
  pub nodes : (server : ℕ) → node_journal events server ≡ reverse (server_journal world server)
  pub desk : desk_journal events ≡ reverse world.desk

-- ---- the entry of a number

entry_of : {E : Type 0} (entries : List E) (number : ℕ) (e : E) → item_at entries number ≡ Some e → entry_at (reverse entries) number ≡ Some e
entry_of {E} entries number e is =
    let above = item_above entries number e is in
    let positive = above.0 in
    let place : number ≡ suc (number - 1) = omega arith in
    ap (λ (n : ℕ). entry_at (reverse entries) n) place ∙ at-reverse entries (number - 1) ∙ above.1

server_entry_of : (servers : Option (List NodeEntry)) (number : ℕ) (e : NodeEntry) → option_and_then (λ entries. item_at entries number) servers ≡ Some e
    → entry_at (reverse (unwrap_or servers [])) number ≡ Some e
server_entry_of None number e is = absurd (let none : Path (Option NodeEntry) None (Some e) = is in cc)
server_entry_of (Some entries) number e is = entry_of entries number e is

-- ---- what a test finds founded is founded

module _ (events : List Event) (world : JournalsView) (journaled : IsJournaled events world) where
  node_entry_at : (server number : ℕ) (e : NodeEntry) → server_entry world server number ≡ Some e → entry_at (node_journal events server) number ≡ Some e
  node_entry_at server number e is =
      ap (λ (J : List NodeEntry). entry_at J number) (journaled.nodes server) ∙ server_entry_of (item_at world.servers server) number e is

  grant-is : (txn : ℕ) (file : List ℕ) (grant : Grant) → is_founded_grant world txn file grant ≡ true → IsFoundedGrant events txn file grant
  grant-is txn file grant is =
      let found = tested-is (λ (e : NodeEntry). is_granted txn file grant e.ask e.reply) (server_entry world grant.server grant.number) is in
      let e = found.0 in
      let same = granted-is txn file grant e.ask e.reply found.2 in
      node_entry_at grant.server grant.number e found.1
      ∙ ap (λ a. Some (entry a e.reply)) same.0 ∙ ap (λ r. Some (entry (node_asks.Work (work.Lock grant.mode txn file)) r)) same.1

  vote-is : (txn : ℕ) (vote : Vote) → is_founded_vote world txn vote ≡ true → IsFoundedVote events txn vote
  vote-is txn vote is =
      let found = tested-is (λ (e : NodeEntry). is_voted txn vote e.ask e.reply) (server_entry world vote.server vote.number) is in
      let e = found.0 in
      let same = voted-is txn vote e.ask e.reply found.2 in
      record {
        asked = same.0;
        is_there = node_entry_at vote.server vote.number e found.1
            ∙ ap (λ a. Some (entry a e.reply)) same.1 ∙ ap (λ r. Some (entry (node_asks.Work (work.Prepare txn same.0)) r)) same.2;
      }

  copy-is : (file : List ℕ) (version : ℕ) (content : List ℕ) (from : CitedVote) → is_founded_copy world file version content from ≡ true → IsFoundedSource events file version content from
  copy-is file version content from is =
      let found = tested-is (λ (e : NodeEntry). is_peeked file version content e.ask e.reply) (server_entry world from.server from.number) is in
      let e = found.0 in
      let same = peeked-is file version content e.ask e.reply found.2 in
      node_entry_at from.server from.number e found.1
      ∙ ap (λ a. Some (entry a e.reply)) same.0 ∙ ap (λ r. Some (entry (node_asks.Work (work.Peek file)) r)) same.1

  verdict-is : (txn : ℕ) (verdict : Verdict) (cite : ℕ) → is_founded_verdict world txn verdict cite ≡ true → VerdictAt (desk_journal events) cite txn verdict
  verdict-is txn verdict cite is =
      let found = tested-is (λ (e : DeskEntry). is_ended txn verdict e.ask e.reply) (item_at world.desk cite) is in
      let e = found.0 in
      record {
        entry = e;
        is_there = ap (λ (J : List DeskEntry). entry_at J cite) journaled.desk ∙ entry_of world.desk cite e found.1;
        gives = ended-is txn verdict e.ask e.reply found.2;
      }

  -- ---- no citation is unfounded

  work-is : (ask : WorkAsk) → unfounded_in_work world ask ≡ None → IsFoundedWork events (Some ask)
  work-is (work.Decide txn verdict cite) none = verdict-is txn verdict cite (unless_none (is_founded_verdict world txn verdict cite) _ none)
  work-is (work.Refresh file version content from) none = copy-is file version content from (unless_none (is_founded_copy world file version content from) _ none)
  work-is (work.Lock mode txn file) none = tt
  work-is (work.Prepare txn writes) none = tt
  work-is (work.Release txn) none = tt
  work-is (work.Peek file) none = tt

  node_ask-is : (ask : NodeAsk) → unfounded_in_node_ask world ask ≡ None → IsFoundedWork events (inner ask)
  node_ask-is (node_asks.Work ask) none = work-is ask none
  node_ask-is node_asks.Crash none = tt
  node_ask-is node_asks.Return none = tt
  node_ask-is (node_asks.CrashIn after ask) none = work-is ask none

  desk_ask-is : (ask : DeskAsk) → unfounded_in_desk_ask world ask ≡ None → IsFoundedAsk events ask
  desk_ask-is (desk_asks.Commit txn ops votes) none =
      let both = or_else-none (unfounded_op world txn ops) (unfounded_vote world txn votes) none in
      record {
        grants = λ op has grant has_grant. grant-is txn op.file grant (ops-are world txn ops both.0 op has grant has_grant);
        each_vote = λ vote has. vote-is txn vote (votes-are world txn votes both.1 vote has);
      }
  desk_ask-is desk_asks.Begin none = tt
  desk_ask-is (desk_asks.Resolve txn) none = tt

-- ---- one step more

no_citation : (citation : Option Citation) → refuse_unfounded citation ≡ None → citation ≡ None
no_citation None none = refl
no_citation (Some citation) none = absurd (let some : Path (Option Refusal) (Some (Rattle.tq_core.specs.declared.answer.Refusal.TheVariants.Unfounded citation.part citation.number)) None = none in cc)

passed : (full : Bool) (part : Rattle.tq_shape.specs.declared.part.Part.Part) (citation : Option Citation) → (if full then Some (Rattle.tq_core.specs.declared.answer.Refusal.TheVariants.JournalFull part) else refuse_unfounded citation) ≡ None → citation ≡ None
passed true part citation none = absurd (let some : Path (Option Refusal) (Some (Rattle.tq_core.specs.declared.answer.Refusal.TheVariants.JournalFull part)) None = none in cc)
passed false part citation none = no_citation citation none

passed_at : (world : JournalsView) (server : ℕ) (entries : Option (List NodeEntry)) (citation : Option Citation) → refuse_at world server entries citation ≡ None → citation ≡ None
passed_at world server None citation none = absurd (let some : Path (Option Refusal) (Some Rattle.tq_core.specs.declared.answer.Refusal.TheVariants.NoSuchServer) None = none in cc)
passed_at world server (Some entries) citation none = passed (nat_le world.limits.entries (length entries)) (Rattle.tq_shape.specs.declared.part.Part.TheVariants.Server server) citation none

get_set_same : {A : Type 0} (xs : List A) (i : ℕ) (y : A) → i < length xs → slice_get (set xs i y) i ≡ Some y
get_set_same [] i y within = absurd (omega arith)
get_set_same (x ∷ xs) zero y within = refl
get_set_same (x ∷ xs) (suc i) y within = get_set_same xs i y (omega arith)

get_set_other : {A : Type 0} (xs : List A) (i j : ℕ) (y : A) → i ≢ j → slice_get (set xs i y) j ≡ slice_get xs j
get_set_other [] i j y apart = refl
get_set_other (x ∷ xs) zero zero y apart = absurd (apart refl)
get_set_other (x ∷ xs) zero (suc j) y apart = refl
get_set_other (x ∷ xs) (suc i) zero y apart = refl
get_set_other (x ∷ xs) (suc i) (suc j) y apart = get_set_other xs i j y (λ same. apart (ap (λ (n : ℕ). suc n) same))

-- the journal of a server after one entry more at a server
item_set_same : (servers : List (List NodeEntry)) (server : ℕ) (entries : List NodeEntry) → 0 < server → server - 1 < length servers
    → item_at (set servers (server - 1) entries) server ≡ Some entries
item_set_same servers server entries above within = by (nat_lt 0 server) refl
  where
    by : (b : Bool) → nat_lt 0 server ≡ b → cond b (slice_get (set servers (server - 1) entries) (server - 1)) None ≡ Some entries
    by true t = get_set_same servers (server - 1) entries within
    by false t = absurd (grind (arith, t, above))

item_set_other : (servers : List (List NodeEntry)) (server other : ℕ) (entries : List NodeEntry) → 0 < server → server ≢ other
    → item_at (set servers (server - 1) entries) other ≡ item_at servers other
item_set_other servers server other entries above apart = by (nat_lt 0 other) refl
  where
    by : (b : Bool) → nat_lt 0 other ≡ b → cond b (slice_get (set servers (server - 1) entries) (other - 1)) None ≡ cond b (slice_get servers (other - 1)) None
    by true t =
        let positive : 0 < other = grind (arith, t) in
        get_set_other servers (server - 1) (other - 1) entries (λ same. apart (omega arith))
    by false t = refl

-- ---- the entries that stand

pub item_below : {E : Type 0} (items : List E) (number : ℕ) (x : E) → 0 < number → slice_get items (number - 1) ≡ Some x → item_at items number ≡ Some x
item_below {E} items number x above is =
    let less : nat_lt 0 number ≡ true = grind (arith, above) in
    ap (λ b. cond b (slice_get items (number - 1)) None) less ∙ is

get_push : {E : Type 0} (items : List E) (place : ℕ) (e last : E) → slice_get items place ≡ Some e → slice_get (items ++ last ∷ []) place ≡ Some e
get_push {E} [] place e last is = absurd (let none : Path (Option E) None (Some e) = is in cc)
get_push (x ∷ items) zero e last is = is
get_push (x ∷ items) (suc place) e last is = get_push items place e last is

get_last : {E : Type 0} (items : List E) (last : E) → slice_get (items ++ last ∷ []) (length items) ≡ Some last
get_last [] last = refl
get_last (x ∷ items) last = get_last items last

item_push : {E : Type 0} (items : List E) (number : ℕ) (e last : E) → item_at items number ≡ Some e → item_at (items ++ last ∷ []) number ≡ Some e
item_push items number e last is =
    let above = item_above items number e is in
    item_below (items ++ last ∷ []) number e above.0 (get_push items (number - 1) e last above.1)

item_last : {E : Type 0} (items : List E) (last : E) → item_at (items ++ last ∷ []) (suc (length items)) ≡ Some last
item_last items last =
    item_below (items ++ last ∷ []) (suc (length items)) last (omega arith) (ap (slice_get (items ++ last ∷ [])) (omega arith) ∙ get_last items last)

-- a server's ask that is taken leaves each entry, and enters the reply
module _ (world : JournalsView) (server : ℕ) (ask : NodeAsk) (none : refusal world (steps.Node server ask) ≡ None) where
  abbrev entries_after : List NodeEntry
  entries_after = server_journal world server ++ node_entry world server ask ∷ []

  room : HasRoom world server
  room = node_room world server (unfounded_in_node_ask world ask) none

  -- the entry of a number, in a journal that was looked up
  abbrev entry_in : ℕ → Option (List NodeEntry) → Option NodeEntry
  entry_in number = option_and_then (λ entries. item_at entries number)

  entered_at : (number : ℕ) → server_entry (world_with_step world (steps.Node server ask)) server number ≡ item_at entries_after number
  entered_at number = ap (entry_in number) (item_set_same world.servers server entries_after room.above room.within)

  entry_kept : (other number : ℕ) (e : NodeEntry) → server_entry world other number ≡ Some e → server_entry (world_with_step world (steps.Node server ask)) other number ≡ Some e
  entry_kept other number e is = by (eqb server other) refl
    where
      by : (b : Bool) → eqb server other ≡ b → server_entry (world_with_step world (steps.Node server ask)) other number ≡ Some e
      by true t =
          let same = eqb-true server other t in
          let before = sym (ap (entry_in number) (item_below world.servers server (server_journal world server) room.above room.is_there)) ∙ ap (λ (n : ℕ). server_entry world n number) same ∙ is in
          ap (λ (n : ℕ). server_entry (world_with_step world (steps.Node server ask)) n number) (sym same)
          ∙ entered_at number
          ∙ item_push (server_journal world server) number e (node_entry world server ask) before
      by false t =
          let apart : server ≢ other = λ same. absurd (false≢true (sym t ∙ eq-eqb server other same)) in
          ap (entry_in number) (item_set_other world.servers server other entries_after room.above apart) ∙ is

  pub entry_new : server_entry (world_after world (steps.Node server ask)) server (suc (length (server_journal world server))) ≡ Some (node_entry world server ask)
  entry_new =
      let last = suc (length (server_journal world server)) in
      ap (λ (w : JournalsView). server_entry w server last) (world_grown world (steps.Node server ask) none)
      ∙ entered_at last
      ∙ item_last (server_journal world server) (node_entry world server ask)

-- each entry of a server that stands is there after a step too
pub entry_stays : (world : JournalsView) (step : Step) (server number : ℕ) (e : NodeEntry) → server_entry world server number ≡ Some e → server_entry (world_after world step) server number ≡ Some e
entry_stays world step server number e is = by step (refusal world step) refl
  where
    by : (step : Step) (refused : Option Refusal) → refusal world step ≡ refused → server_entry (state_at refused world (world_with_step world step)) server number ≡ Some e
    by (steps.Node other ask) None none = entry_kept world other ask none server number e is
    by step None none = is
    by step (Some reason) refuses = is

-- and so it is at the desk
pub desk_new : (world : JournalsView) (ask : DeskAsk) → refusal world (steps.Desk ask) ≡ None → item_at (world_after world (steps.Desk ask)).desk (suc (length world.desk)) ≡ Some (desk_entry world ask)
desk_new world ask none =
    ap (λ (w : JournalsView). item_at w.desk (suc (length world.desk))) (world_grown world (steps.Desk ask) none) ∙ item_last world.desk (desk_entry world ask)

pub desk_stays : (world : JournalsView) (step : Step) (number : ℕ) (e : DeskEntry) → item_at world.desk number ≡ Some e → item_at (world_after world step).desk number ≡ Some e
desk_stays world step number e is = by step (refusal world step)
  where
    by : (step : Step) (refused : Option Refusal) → item_at (state_at refused world (world_with_step world step)).desk number ≡ Some e
    by (steps.Desk ask) None = item_push world.desk number e (desk_entry world ask) is
    by step None = is
    by step (Some reason) = is

node_state-is : (server : ℕ) (entries : List NodeEntry) → node_at server entries ≡ node_state server (reverse entries)
node_state-is server entries = state-reverse (λ old number ask. node_reply server old ask) (node_after server) nothing_stored entries

desk_state-is : (bounds : DeskBounds) (entries : List DeskEntry) → desk_at bounds.levels bounds.limits entries ≡ desk_state bounds (reverse entries)
desk_state-is bounds entries = state-reverse step_reply step_after (opened_desk bounds) entries

node_step : (events : List Event) (world : JournalsView) (server : ℕ) (ask : NodeAsk) → IsJournaled events world → refusal world (steps.Node server ask) ≡ None
    → IsJournaled (AtNode server (node_entry world server ask) ∷ events) (world_with_step world (steps.Node server ask))
node_step events world server ask journaled none =
    let room = node_room world server (unfounded_in_node_ask world ask) none in
    let founded = node_ask-is events world journaled ask (passed_at world server (item_at world.servers server) (unfounded_in_node_ask world ask) none) in
    let state : node_at server (server_journal world server) ≡ node_state server (node_journal events server) =
    node_state-is server (server_journal world server) ∙ ap (node_state server) (sym (journaled.nodes server)) in
    record {
      ran = (journaled.ran, ap (λ (s : NodeState). node_reply server s ask) state, founded);
      nodes = λ other. by other room (eqb server other) refl;
      desk = journaled.desk;
    }
  where
    by : (other : ℕ) → HasRoom world server → (b : Bool) → eqb server other ≡ b
        → cond b (node_entry world server ask ∷ node_journal events other) (node_journal events other) ≡ reverse (server_journal (world_with_step world (steps.Node server ask)) other)
    by other room true t =
        let same = eqb-true server other t in
        ap (λ (J : List NodeEntry). node_entry world server ask ∷ J) (ap (node_journal events) (sym same) ∙ journaled.nodes server)
        ∙ sym (reverse-push (server_journal world server) (node_entry world server ask))
        ∙ ap (λ (o : Option (List NodeEntry)). reverse (unwrap_or o []))
        (sym (item_set_same world.servers server (server_journal world server ++ node_entry world server ask ∷ []) room.above room.within))
        ∙ ap (λ (n : ℕ). reverse (server_journal (world_with_step world (steps.Node server ask)) n)) same
    by other room false t =
        let apart : server ≢ other = λ same. absurd (false≢true (sym t ∙ eq-eqb server other same)) in
        journaled.nodes other
        ∙ ap (λ (o : Option (List NodeEntry)). reverse (unwrap_or o []))
        (sym (item_set_other world.servers server other (server_journal world server ++ node_entry world server ask ∷ []) room.above apart))

desk_step : (events : List Event) (world : JournalsView) (ask : DeskAsk) → IsJournaled events world → refusal world (steps.Desk ask) ≡ None
    → IsJournaled (AtDesk (desk_entry world ask) ∷ events) (world_with_step world (steps.Desk ask))
desk_step events world ask journaled none =
    let founded = desk_ask-is events world journaled ask (passed (nat_le world.limits.entries (length world.desk)) Rattle.tq_shape.specs.declared.part.Part.TheVariants.Desk (unfounded_in_desk_ask world ask) none) in
    let state : desk_at world.levels world.limits world.desk ≡ desk_state (bounds_of world) (desk_journal events) =
    desk_state-is (bounds_of world) world.desk ∙ ap (desk_state (bounds_of world)) (sym journaled.desk) in
    record {
      ran = (journaled.ran, ap (λ (d : DeskView). desk_reply d ask) state, founded);
      nodes = journaled.nodes;
      desk = ap (λ (J : List DeskEntry). desk_entry world ask ∷ J) journaled.desk ∙ sym (reverse-push world.desk (desk_entry world ask));
    }

-- some events make the world
abbrev pub HasEvents : JournalsView → Type 0
HasEvents world = (events : List Event) × IsJournaled events world

grown_step : (world : JournalsView) (step : Step) → HasEvents world → refusal world step ≡ None → HasEvents (world_with_step world step)
grown_step world (steps.Node server ask) has none = (AtNode server (node_entry world server ask) ∷ has.0, node_step has.0 world server ask has.1 none)
grown_step world (steps.Desk ask) has none = (AtDesk (desk_entry world ask) ∷ has.0, desk_step has.0 world ask has.1 none)
grown_step world (steps.View ask) has none = (has.0, record { ran = has.1.ran; nodes = has.1.nodes; desk = has.1.desk })

one_step : (world : JournalsView) (step : Step) → HasEvents world → HasEvents (world_after world step)
one_step world step has = by (refusal world step) refl
  where
    by : (refused : Option Refusal) → refusal world step ≡ refused → HasEvents (state_at refused world (world_with_step world step))
    by None none = grown_step world step has none
    by (Some reason) is = has

all_steps : (world : JournalsView) (steps : List Step) → HasEvents world → HasEvents (run_from world steps)
all_steps world [] has = has
all_steps world (step ∷ steps) has = all_steps (world_after world step) steps (one_step world step has)

none_there : (count place : ℕ) → unwrap_or (slice_get (replicate {A = List NodeEntry} count []) place) [] ≡ []
none_there zero place = refl
none_there (suc count) zero = refl
none_there (suc count) (suc place) = none_there count place

none_at : (count number : ℕ) → unwrap_or (item_at (replicate {A = List NodeEntry} count []) number) [] ≡ []
none_at count number = by (nat_lt 0 number)
  where
    by : (b : Bool) → unwrap_or (cond b (slice_get (replicate {A = List NodeEntry} count []) (number - 1)) None) [] ≡ []
    by true = none_there count (number - 1)
    by false = refl

no_events : (levels : ℕ) (limits : LimitsView) → IsJournaled [] (no_entries levels limits)
no_events levels limits = record {
  ran = tt;
  nodes = λ server. ap reverse (sym (none_at (2 ^ levels - 1) server));
  desk = refl;
}

-- each run is made by events
pub run_events : (levels : ℕ) (limits : LimitsView) (steps : List Step) → HasEvents (run levels limits steps)
run_events levels limits steps = all_steps (no_entries levels limits) steps ([], no_events levels limits)
