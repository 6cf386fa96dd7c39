-- What crosses threads in a run: callers and clusters, part by part, since a search through all of them runs out of
-- steps. What a caller has seen of servers.
use denote.RattleType.{RattleType}
use denote.Param.Send.{IsSend, IsSync, recorded_send, struct_send, sendable}
use denote.Struct.Declared.{shape}
use denote.Struct.Tuple.{TupleAt, type_at, field_at}
use Rattle.std.proofs.Common.{ℕ, List, [], ◌∷◌, ◌≡◌, ◌≤◌, ◌<◌, ◌+◌, ◌-◌, ◌^◌, zero, suc, length, map, max, set, get_or, refl, sym, ap, subst, ◌∙◌, arith}
use Rattle.std.proofs.{Crossing.crosses, lemmas.List.{length-map, map-set, get_or-map, get_or-set_same, set-get_or}}
use Rattle.std.specs.Prelude.{Result, Ok, Err, IfErr, OnOk, OnErr}
use Rattle.std.proofs.MapsCrossing as maps
use Rattle.std.proofs.MapsCrossingOver as others
use Rattle.tq_live.proofs.Ways.{tree_send}
use Rattle.tq_store.specs.contracts.copies.Copies as Copies
use Rattle.tq_locks.specs.contracts.table.LockTable as LockTable
use Rattle.tq_intents.specs.contracts.intents.Intents as Intents
use Rattle.tq_intents.specs.contracts.record.OpenVote as OpenVote
use Rattle.tq_intents.specs.contracts.shared_write.SharedWrite as SharedWrite
use Rattle.tq_asks.specs.contracts.ask.NodeAsk as TheNodeAsk
use Rattle.tq_asks.specs.contracts.ask.NodeReply as TheNodeReply
use Rattle.tq_asks.specs.contracts.ask.WorkAsk as WorkAsk
use Rattle.tq_node.specs.contracts.node.Node as Node
use Rattle.tq_evidence.specs.contracts.op.Op as Op
use Rattle.tq_desk.specs.contracts.ask.DeskAsk as DeskAsk
use Rattle.tq_desk.specs.contracts.ask.DeskReply as DeskReply
use Rattle.tq_desk.specs.contracts.desk.Desk as Desk
use Rattle.tq_live.specs.contracts.view.ViewAsk as ViewAsk
use Rattle.tq_live.specs.contracts.view.ViewReply as ViewReply
use Rattle.tq_live.specs.contracts.view.View as View
use Rattle.tq_txn.specs.contracts.asker.Exchange as TheExchange
use Rattle.tq_cluster.specs.contracts.caller.Caller as Caller
use Rattle.tq_cluster.specs.contracts.cluster.Cluster as Cluster
use Rattle.tq_syntax.specs.contracts.script.Script as Script
use Rattle.tq_cluster.specs.contracts.ends.Taker as Taker
use Rattle.tq_cluster.proofs.ends.Taker.TheSendSync as takers
use Rattle.tq_cluster.specs.contracts.workers.Message as Message
use Rattle.tq_cluster.proofs.workers.Message.TheSendSync as messages
use Rattle.tq_cells.specs.Passes.{Seen}
use Rattle.tq_shape.specs.{Tree.IsServer, declared.part.Part.Part}
use Rattle.tq_shape.specs.declared.part.Part.TheVariants as parts
use Rattle.tq_asks.specs.declared.ask.{NodeAsk.NodeAsk, NodeReply.NodeReply}
use Rattle.tq_txn.specs.declared.asker.Exchange.{Exchange}
use Rattle.tq_tables.specs.Journals.{JournalsView}
use Rattle.tq_mirror.specs.declared.{entries.Entries.Entries, fault.PullFault.PullFault}
use Rattle.tq_mirror.specs.Prefixes.{IsPartOf, IsPullFault, journals_with, prefix_length}
use Rattle.tq_cluster.specs.{Told.{CallerView, SeesOn, seen_of, having_seen}, Rounds.{IsPull, last_come, seen_then}}

-- ---- asks and replies

-- what a server is asked to work on, which clones of an ask share
work_ask_send : IsSend WorkAsk.the_field.row
work_ask_send = search (sendable, crosses, maps.crosses, others.crosses) depth 60 fits 30000

work_ask_sync : IsSync WorkAsk.the_field.row
work_ask_sync = search (sendable, crosses, maps.crosses, others.crosses) depth 60 fits 30000

node_ask_send : IsSend TheNodeAsk.the_field.row
node_ask_send = search (work_ask_send, work_ask_sync, sendable, crosses, maps.crosses, others.crosses) depth 60 fits 30000

node_reply_send : IsSend TheNodeReply.the_field.row
node_reply_send = search (sendable, crosses, maps.crosses, others.crosses) depth 60 fits 30000

-- the operations of a commit are shared too
op_send : IsSend Op.the_field.row
op_send = search (sendable, crosses) depth 60 fits 30000

op_sync : IsSync Op.the_field.row
op_sync = search (sendable, crosses) depth 60 fits 30000

desk_ask_send : IsSend DeskAsk.the_field.row
desk_ask_send = search (op_send, op_sync, sendable, crosses, maps.crosses, others.crosses) depth 60 fits 30000

desk_reply_send : IsSend DeskReply.the_field.row
desk_reply_send = search (sendable, crosses, maps.crosses, others.crosses) depth 60 fits 30000

view_ask_send : IsSend ViewAsk.the_field.row
view_ask_send = search (sendable, crosses, maps.crosses, others.crosses) depth 60 fits 30000

view_reply_send : IsSend ViewReply.the_field.row
view_reply_send = search (sendable, crosses, maps.crosses, others.crosses) depth 60 fits 30000

-- ---- parts

copies_send : IsSend Copies.the_field.row
copies_send = search (sendable, crosses, maps.crosses, others.crosses) depth 60 fits 30000

locks_send : IsSend LockTable.the_field.row
locks_send = search (sendable, crosses, maps.crosses, others.crosses) depth 60 fits 30000

-- a write that others share may stand in an ask
shared_write_send : IsSend SharedWrite.the_field.row
shared_write_send = search (sendable, crosses, maps.crosses, others.crosses) depth 60 fits 30000

open_vote_send : IsSend OpenVote.the_field.row
open_vote_send = search (sendable, crosses, maps.crosses, others.crosses) depth 60 fits 30000

intents_send : IsSend Intents.the_field.row
intents_send = search (open_vote_send, shared_write_send, sendable, crosses, maps.crosses, others.crosses) depth 60 fits 30000

node_send : IsSend Node.the_field.row
node_send = search (copies_send, locks_send, intents_send, sendable, crosses, maps.crosses, others.crosses) depth 60 fits 30000

desk_send : IsSend Desk.the_field.row
desk_send = search (sendable, crosses, maps.crosses, others.crosses) depth 60 fits 30000

view_send : IsSend View.the_field.row
view_send = search (tree_send, sendable, crosses, maps.crosses, others.crosses) depth 60 fits 30000

-- ---- callers, scripts and clusters

exchange_send : IsSend TheExchange.the_field.row
exchange_send = search (node_ask_send, node_reply_send, desk_ask_send, desk_reply_send, view_ask_send, view_reply_send, sendable, crosses, maps.crosses, others.crosses) depth 60 fits 30000

pub caller_send : IsSend Caller.the_field.row
caller_send = search (exchange_send, node_ask_send, node_reply_send, desk_ask_send, desk_reply_send, view_ask_send, view_reply_send, sendable, crosses) depth 60 fits 30000

pub script_sync : IsSync Script.the_field.row
script_sync = search (sendable, crosses) depth 60 fits 30000

pub cluster_sync : (G : RattleType) → IsSync G → IsSync (Cluster.the_field G).row
cluster_sync G y = search (node_send, desk_send, view_send, node_ask_send, node_reply_send, desk_ask_send, desk_reply_send, view_ask_send, view_reply_send, sendable, crosses) depth 60 fits 30000

-- ---- ends of the queue, and what a thread takes along

pub taker_send : IsSend (Taker.the_row Message.the_row)
taker_send = takers.the_send Message.the_row messages.the_send

pub five_send : (name : List ℕ) (A B C D E : RattleType) → IsSend A → IsSend B → IsSend C → IsSend D → IsSend E → IsSend (TupleAt name (A ∷ B ∷ C ∷ D ∷ E ∷ []))
five_send name A B C D E a b c d e =
    let parts = A ∷ B ∷ C ∷ D ∷ E ∷ [] in
    recorded_send (field_at name parts).row _ _ (type_at name parts).to_one (struct_send (shape (type_at name parts)) (a, (b, (c, (d, (e, tt))))))

-- ---- seen

module _ {A R : Type 0} where
  abbrev numbers : List (Seen A R) → List ℕ
  numbers passes = map (λ (p : Seen A R). p.seen) passes

  -- of the server of the pass that was changed
  pub seen_here : (passes : List (Seen A R)) (place : ℕ) (pass : Seen A R) → place < length passes → get_or (map (λ (p : Seen A R). p.seen) (set passes place pass)) place 0 ≡ pass.seen
  seen_here passes place pass less =
      let count : length (numbers passes) ≡ length passes = length-map passes (λ (p : Seen A R). p.seen) in
      ap (λ (l : List ℕ). get_or l place 0) (map-set (λ (p : Seen A R). p.seen) passes place pass)
      ∙ get_or-set_same (numbers passes) place pass.seen 0 (omega (arith, less, count))

  -- of a server whose pass is as it was
  pub seen_before : (passes : List (Seen A R)) (place : ℕ) (pass : Seen A R) → place < length passes → pass ≡ get_or passes place pass → get_or (map (λ (p : Seen A R). p.seen) passes) place 0 ≡ pass.seen
  seen_before passes place pass less is = get_or-map (λ (p : Seen A R). p.seen) passes place pass 0 less ∙ ap (λ (p : Seen A R). p.seen) (sym is)

-- a caller with these passes
abbrev pub seeing : ℕ → List Exchange → List (Seen NodeAsk NodeReply) → ℕ → ℕ → CallerView
seeing levels told passes desk view = record { levels = levels; told = told; seen = record { servers = map (λ (p : Seen NodeAsk NodeReply). p.seen) passes; desk = desk; view = view } }

pub caller_saw : (levels : ℕ) (told : List Exchange) (passes : List (Seen NodeAsk NodeReply)) (desk view number : ℕ) (pass : Seen NodeAsk NodeReply) (old : CallerView)
    → seeing levels told passes desk view ≡ old → seeing levels told (set passes (number - 1) pass) desk view ≡ having_seen old (parts.Server number) pass.seen
caller_saw levels told passes desk view number pass old same =
    (λ i. record { levels = levels; told = told; seen = record { servers = map-set (λ (p : Seen NodeAsk NodeReply). p.seen) passes (number - 1) pass i; desk = desk; view = view } })
    ∙ ap (λ (o : CallerView). having_seen o (parts.Server number) pass.seen) same

-- ---- what was seen after an ask, or after a pull of a part: of the other parts what was seen before

-- the caller had seen the one number of the part, and has seen the other
pub record SawOne (old new : CallerView) (part : Part) (before after : ℕ) : Type 0 where
  pub was : seen_of old part ≡ before
  pub here : seen_of new part ≡ after
  pub others : new ≡ having_seen old part after

-- of a server, by the pass at its place
pub server_saw : (levels : ℕ) (told : List Exchange) (passes : List (Seen NodeAsk NodeReply)) (desk view number : ℕ) (part : Part) (before after : Seen NodeAsk NodeReply) (old : CallerView)
    → seeing levels told passes desk view ≡ old → number - 1 < length passes → part ≡ parts.Server number → before ≡ get_or passes (number - 1) before
    → SawOne old (seeing levels told (set passes (number - 1) after) desk view) part before.seen after.seen
server_saw levels told passes desk view number part before after old same less named is =
    subst (λ (p : Part). SawOne old (seeing levels told (set passes (number - 1) after) desk view) p before.seen after.seen) (sym named)
    (record {
      was = ap (λ (v : CallerView). get_or v.seen.servers (number - 1) 0) (sym same) ∙ seen_before passes (number - 1) before less is;
      here = seen_here passes (number - 1) after less;
      others = caller_saw levels told passes desk view number after old same;
    })

-- of the desk, and of the view
pub desk_saw : (levels : ℕ) (told : List Exchange) (passes : List (Seen NodeAsk NodeReply)) (before after view : ℕ) (part : Part) (old : CallerView) → seeing levels told passes before view ≡ old → part ≡ parts.Desk
    → SawOne old (seeing levels told passes after view) part before after
desk_saw levels told passes before after view part old same named =
    subst (λ (p : Part). SawOne old (seeing levels told passes after view) p before after) (sym named)
    (record { was = ap (λ (o : CallerView). seen_of o parts.Desk) (sym same); here = refl; others = ap (λ (o : CallerView). having_seen o parts.Desk after) same })

pub view_saw : (levels : ℕ) (told : List Exchange) (passes : List (Seen NodeAsk NodeReply)) (desk before after : ℕ) (part : Part) (old : CallerView) → seeing levels told passes desk before ≡ old → part ≡ parts.View
    → SawOne old (seeing levels told passes desk after) part before after
view_saw levels told passes desk before after part old same named =
    subst (λ (p : Part). SawOne old (seeing levels told passes desk after) p before after) (sym named)
    (record { was = ap (λ (o : CallerView). seen_of o parts.View) (sym same); here = refl; others = ap (λ (o : CallerView). having_seen o parts.View after) same })

-- what was seen of a part, seen once more
seen_again : (caller : CallerView) (part : Part) → (having_seen caller part (seen_of caller part)).seen ≡ caller.seen
seen_again caller (parts.Server number) = λ i. record { servers = set-get_or caller.seen.servers (number - 1) 0 i; desk = caller.seen.desk; view = caller.seen.view }
seen_again caller parts.Desk = refl
seen_again caller parts.View = refl

-- the part was asked, and told a number
pub asked_seen : (old new : CallerView) (part : Part) (before after number : ℕ) → SawOne old new part before after → after ≡ max before number → seen_of new part ≡ max (seen_of old part) number
asked_seen old new part before after number saw told = saw.here ∙ told ∙ ap (λ (n : ℕ). max n number) (sym saw.was)

-- or nothing
pub asked_none : (old new : CallerView) (part : Part) (before after : ℕ) → SawOne old new part before after → after ≡ before → new.seen ≡ old.seen
asked_none old new part before after saw told =
    ap (λ (c : CallerView). c.seen) saw.others ∙ ap (λ (n : ℕ). (having_seen old part n).seen) (told ∙ sym saw.was) ∙ seen_again old part

pub asked_others : (old new : CallerView) (part : Part) (before after : ℕ) → SawOne old new part before after → new.seen ≡ (having_seen old part (seen_of new part)).seen
asked_others old new part before after saw = ap (λ (c : CallerView). c.seen) saw.others ∙ ap (λ (n : ℕ). (having_seen old part n).seen) (sym saw.here)

pub on_err : {T E : Type 0} (P : Type 0) (r : Result T E) → P → OnErr r P
on_err P (Ok x) holds = tt
on_err P (Err f) holds = holds

-- the pass of the server that the part is lies within the passes
pub has_pass : (passes : List (Seen NodeAsk NodeReply)) (levels number : ℕ) (part : Part) (old : CallerView) → IsPartOf levels part → part ≡ parts.Server number → old.levels ≡ levels → length passes + 1 ≡ 2 ^ old.levels
    → number - 1 < length passes
has_pass passes levels number part old within named same count =
    let of_tree : IsServer levels number = subst (IsPartOf levels) named within in
    let least = of_tree.0 in
    let most : number < 2 ^ old.levels = subst (λ (l : ℕ). number < 2 ^ l) (sym same) of_tree.1 in
    omega (arith, count, least, most)

-- a part of that name was pulled by its pass: so was the part, by the caller
pub record PartPull {T : Type 0} (end : Result T PullFault) (part : Part) (old new : JournalsView) (before after : CallerView) : Type 0 where
  pub grows : OnOk end ((more : Entries) × (new ≡ journals_with old part more))
  pub seen : OnOk end (seen_of after part ≤ prefix_length new part)
  pub err : OnErr end (new ≡ old)
  pub fault : IfErr end (λ fault. (more : Entries) × IsPullFault old part more (seen_of after part) fault)
  pub saw : seen_of after part ≡ seen_then old new before part
  pub others : after ≡ having_seen before part (seen_of after part)

pub part_pull : {T : Type 0} (end : Result T PullFault) (part there : Part) (prefixes old new : JournalsView) (before after : CallerView) (seen sees : ℕ) → part ≡ there → prefixes ≡ old → SawOne before after part seen sees
    → IsPull there prefixes new seen sees end → PartPull end part old new before after
part_pull {T} end part there prefixes old new before after seen sees named same saw pulled =
    let pull : IsPull part old new seen sees end =
    subst (λ (p : Part). IsPull p old new seen sees end) (sym named) (subst (λ (o : JournalsView). IsPull there o new seen sees end) same pulled) in
    record {
      grows = pull.grows;
      seen = subst (λ (n : ℕ). OnOk end (n ≤ prefix_length new part)) (sym saw.here) pull.seen;
      err = pull.err;
      fault = subst (λ (n : ℕ). IfErr end (λ f. (more : Entries) × IsPullFault old part more n f)) (sym saw.here) pull.fault;
      saw = saw.here ∙ pull.saw ∙ ap (λ (n : ℕ). max n (last_come old new part)) (sym saw.was);
      others = saw.others ∙ ap (λ (n : ℕ). having_seen before part n) (sym saw.here);
    }

-- ---- what was seen, and no less after

set-grows : (numbers : List ℕ) (place at seen : ℕ) → get_or numbers place 0 ≤ seen → get_or numbers at 0 ≤ get_or (set numbers place seen) at 0
set-grows [] place at seen less = omega arith
set-grows (x ∷ xs) zero zero seen less = less
set-grows (x ∷ xs) zero (suc at) seen less = omega arith
set-grows (x ∷ xs) (suc place) zero seen less = omega arith
set-grows (x ∷ xs) (suc place) (suc at) seen less = set-grows xs place at seen less

having-grows : (caller : CallerView) (there : Part) (seen : ℕ) → seen_of caller there ≤ seen → SeesOn caller (having_seen caller there seen)
having-grows caller (parts.Server there) seen less (parts.Server number) = set-grows caller.seen.servers (there - 1) (number - 1) seen less
having-grows caller (parts.Server there) seen less parts.Desk = omega arith
having-grows caller (parts.Server there) seen less parts.View = omega arith
having-grows caller parts.Desk seen less (parts.Server number) = omega arith
having-grows caller parts.Desk seen less parts.Desk = less
having-grows caller parts.Desk seen less parts.View = omega arith
having-grows caller parts.View seen less (parts.Server number) = omega arith
having-grows caller parts.View seen less parts.Desk = omega arith
having-grows caller parts.View seen less parts.View = less

pub sees-on-same : (caller : CallerView) → SeesOn caller caller
sees-on-same caller part = omega arith

-- one part more was asked, or pulled
pub sees-on-after : (first old new : CallerView) (there : Part) → SeesOn first old → (seen : ℕ) × (seen_of old there ≤ seen) × (new ≡ having_seen old there seen) → SeesOn first new
sees-on-after first old new there before (seen, less, same) part =
    let more = before part in
    let grown = having-grows old there seen less part in
    subst (λ (c : CallerView). seen_of first part ≤ seen_of c part) (sym same) (omega (arith, more, grown))
