-- A world as the list of what its servers and its desk answered, in the order in which they did, the newest first. The
-- journals of a world as it grows: legal, and with founded entries.
use Rattle.std.specs.Prelude.{◌≡◌, ℕ, Bool, true, cond, List, [], ◌∷◌, Option, Some}
use Rattle.std.proofs.{Common.{eqb, false, None, refl, subst, ◌⊎◌, inl, inr}, lemmas.Bool.eqb-true}
use Rattle.tq_shape.{specs.Journal.{Has, entry_at}, proofs.Places.{at-cases, at-old}}
use Rattle.tq_asks.specs.declared.ask.{CitedVote.CitedVote, WorkAsk.WorkAsk, Verdict.Verdict}
use Rattle.tq_asks.specs.declared.ask.WorkAsk.TheVariants as work
use Rattle.tq_node.specs.Records.{node_reply}
use Rattle.tq_node.specs.NodeJournal.{NodeEntry, node_state, inner, GrantAt, PeekAt, YesAt, IsLegalNode, InnerAt, DecisionAt}
use Rattle.tq_desk.{specs.{declared.ask.DeskAsk.DeskAsk, DeskStep.desk_reply}, proofs.DeskFinal.commit-cases}
use Rattle.tq_desk.specs.DeskJournal.{DeskBounds, DeskEntry, desk_state, VerdictAt, IsLegalDesk, Commit, commits}
use Rattle.tq_desk.specs.declared.ask.DeskAsk.TheVariants as asks
use Rattle.tq_evidence.specs.declared.{grant.Grant.Grant, op.Op.Op, vote.Vote.Vote}
use Rattle.tq_desk.specs.declared.ask.DeskReply.TheVariants as replies

pub data Event : Type 0 where
  AtNode : ℕ → NodeEntry → Event
  AtDesk : DeskEntry → Event

abbrev pub node_journal : List Event → ℕ → List NodeEntry
node_journal [] server = []
node_journal (AtNode other entry ∷ earlier) server = cond (eqb other server) (entry ∷ node_journal earlier server) (node_journal earlier server)
node_journal (AtDesk entry ∷ earlier) server = node_journal earlier server

abbrev pub desk_journal : List Event → List DeskEntry
desk_journal [] = []
desk_journal (AtNode server entry ∷ earlier) = desk_journal earlier
desk_journal (AtDesk entry ∷ earlier) = entry ∷ desk_journal earlier

-- ---- what an ask cites stands among the events

abbrev pub IsFoundedGrant : List Event → ℕ → List ℕ → Grant → Type 0
IsFoundedGrant world txn file grant = GrantAt (node_journal world grant.server) grant.number txn file grant.mode grant.version grant.content

abbrev pub IsFoundedVote : List Event → ℕ → Vote → Type 0
IsFoundedVote world txn vote = YesAt (node_journal world vote.server) vote.number txn vote.held vote.writes

abbrev pub IsFoundedSource : List Event → List ℕ → ℕ → List ℕ → CitedVote → Type 0
IsFoundedSource world file version content from = PeekAt (node_journal world from.server) from.number file version content

abbrev pub IsFoundedWork : List Event → Option WorkAsk → Type 0
IsFoundedWork world (Some (work.Decide txn verdict cite)) = VerdictAt (desk_journal world) cite txn verdict
IsFoundedWork world (Some (work.Refresh file version content from)) = IsFoundedSource world file version content from
IsFoundedWork world other = Unit {0}

pub record IsFoundedCommit (world : List Event) (txn : ℕ) (ops : List Op) (votes : List Vote) : Type 0 where
  pub grants : (op : Op) → Has ops op → (grant : Grant) → Has op.grants grant → IsFoundedGrant world txn op.file grant
  pub each_vote : (vote : Vote) → Has votes vote → IsFoundedVote world txn vote

abbrev pub IsFoundedAsk : List Event → DeskAsk → Type 0
IsFoundedAsk world (asks.Commit txn ops votes) = IsFoundedCommit world txn ops votes
IsFoundedAsk world other = Unit {0}

-- each event is the legal answer of its part to an ask whose citations are founded in what was before
abbrev pub IsRun : DeskBounds → List Event → Type 0
IsRun bounds [] = Unit {0}
IsRun bounds (AtNode server entry ∷ earlier) =
    IsRun bounds earlier
    × (entry.reply ≡ node_reply server (node_state server (node_journal earlier server)) entry.ask)
    × IsFoundedWork earlier (inner entry.ask)
IsRun bounds (AtDesk entry ∷ earlier) =
    IsRun bounds earlier
    × (entry.reply ≡ desk_reply (desk_state bounds (desk_journal earlier)) entry.ask)
    × IsFoundedAsk earlier entry.ask

-- two members of the coterie have a server in common
abbrev pub MeetsAll : (List ℕ → Bool) → Type 0
MeetsAll is_member = (a b : List ℕ) → is_member a ≡ true → is_member b ≡ true → (server : ℕ) × Has a server × Has b server

-- ---- worlds

-- ---- legal parts

pub legal_nodes : (bounds : DeskBounds) (world : List Event) → IsRun bounds world → (s : ℕ) → IsLegalNode s (node_journal world s)
legal_nodes bounds [] run s = tt
legal_nodes bounds (AtDesk e ∷ world) run s = legal_nodes bounds world run.0 s
legal_nodes bounds (AtNode r e ∷ world) run s =
    by (eqb r s) refl (legal_nodes bounds world run.0 s)
  where
    by : (b : Bool) → eqb r s ≡ b → IsLegalNode s (node_journal world s) → IsLegalNode s (cond b (e ∷ node_journal world s) (node_journal world s))
    by true t ih = (subst (λ (q : ℕ). e.reply ≡ node_reply q (node_state q (node_journal world q)) e.ask) (eqb-true r s t) run.1, ih)
    by false t ih = ih

pub legal_desk : (bounds : DeskBounds) (world : List Event) → IsRun bounds world → IsLegalDesk bounds (desk_journal world)
legal_desk bounds [] run = tt
legal_desk bounds (AtNode r e ∷ world) run = legal_desk bounds world run.0
legal_desk bounds (AtDesk e ∷ world) run = (run.1, legal_desk bounds world run.0)

-- ---- what stands stays

pub node_stays : (x : Event) (world : List Event) (s n : ℕ) (y : NodeEntry) → entry_at (node_journal world s) n ≡ Some y → entry_at (node_journal (x ∷ world) s) n ≡ Some y
node_stays (AtDesk e) world s n y h = h
node_stays (AtNode r e) world s n y h = by (eqb r s)
  where
    by : (b : Bool) → entry_at (cond b (e ∷ node_journal world s) (node_journal world s)) n ≡ Some y
    by true = at-old e (node_journal world s) n y h
    by false = h

pub desk_stays : (x : Event) (world : List Event) (n : ℕ) (y : DeskEntry) → entry_at (desk_journal world) n ≡ Some y → entry_at (desk_journal (x ∷ world)) n ≡ Some y
desk_stays (AtDesk e) world n y h = at-old e (desk_journal world) n y h
desk_stays (AtNode r e) world n y h = h

pub founded_work_stays : (x : Event) (world : List Event) (a : Option WorkAsk) → IsFoundedWork world a → IsFoundedWork (x ∷ world) a
founded_work_stays x world None h = tt
founded_work_stays x world (Some (work.Lock m t f)) h = tt
founded_work_stays x world (Some (work.Prepare t w)) h = tt
founded_work_stays x world (Some (work.Decide t v k)) h = record { entry = h.entry; is_there = desk_stays x world k h.entry h.is_there; gives = h.gives }
founded_work_stays x world (Some (work.Release t)) h = tt
founded_work_stays x world (Some (work.Peek f)) h = tt
founded_work_stays x world (Some (work.Refresh f v c from)) h = node_stays x world from.server from.number _ h

pub founded_commit_stays : (x : Event) (world : List Event) (t : ℕ) (ops : List Op) (votes : List Vote) → IsFoundedCommit world t ops votes → IsFoundedCommit (x ∷ world) t ops votes
founded_commit_stays x world t ops votes h = record {
  grants = λ op has grant has_grant. node_stays x world grant.server grant.number _ (h.grants op has grant has_grant);
  each_vote = λ vote has. let y = h.each_vote vote has in record { asked = y.asked; is_there = node_stays x world vote.server vote.number _ y.is_there };
}

-- ---- founded entries

node_cases : (b : Bool) (e : NodeEntry) (K : List NodeEntry) (n : ℕ) (y : NodeEntry) → entry_at (cond b (e ∷ K) K) n ≡ Some y → (e ≡ y) ⊎ (entry_at K n ≡ Some y)
node_cases false e K n y h = inr h
node_cases true e K n y h =
    elim (at-cases e K n y h) [
      | inl p ↦ inl p.1
      | inr q ↦ inr q
    ]

pub founded_node : (bounds : DeskBounds) (world : List Event) → IsRun bounds world → (s n : ℕ) (y : NodeEntry) → entry_at (node_journal world s) n ≡ Some y → IsFoundedWork world (inner y.ask)
founded_node bounds [] run s n y h = cc
founded_node bounds (AtDesk e ∷ world) run s n y h = founded_work_stays (AtDesk e) world (inner y.ask) (founded_node bounds world run.0 s n y h)
founded_node bounds (AtNode r e ∷ world) run s n y h =
    founded_work_stays (AtNode r e) world (inner y.ask) (by (node_cases (eqb r s) e (node_journal world s) n y h) (λ k. founded_node bounds world run.0 s n y k))
  where
    by : (e ≡ y) ⊎ (entry_at (node_journal world s) n ≡ Some y) → (entry_at (node_journal world s) n ≡ Some y → IsFoundedWork world (inner y.ask)) → IsFoundedWork world (inner y.ask)
    by (inl p) ih = subst (λ (z : NodeEntry). IsFoundedWork world (inner z.ask)) p run.2
    by (inr q) ih = ih q

pub founded_inner : (bounds : DeskBounds) (world : List Event) → IsRun bounds world → (s n : ℕ) (a : WorkAsk) → InnerAt (node_journal world s) n a → IsFoundedWork world (Some a)
founded_inner bounds world run s n a at = subst (λ (o : Option WorkAsk). IsFoundedWork world o) at.is_inner (founded_node bounds world run s n at.entry at.is_there)

pub founded_decision : (bounds : DeskBounds) (world : List Event) → IsRun bounds world → (s n t : ℕ) (v : Verdict) → DecisionAt (node_journal world s) n t v → (k : ℕ) × VerdictAt (desk_journal world) k t v
founded_decision bounds world run s n t v d = (d.cite, founded_inner bounds world run s n (work.Decide t v d.cite) d.decides)

-- ---- commits

pub founded_commits : (bounds : DeskBounds) (world : List Event) → IsRun bounds world → (c : Commit) → Has (commits (desk_journal world)) c → IsFoundedCommit world c.txn c.ops c.votes
founded_commits bounds [] run c h = absurd h
founded_commits bounds (AtNode r e ∷ world) run c h = founded_commit_stays (AtNode r e) world c.txn c.ops c.votes (founded_commits bounds world run.0 c h)
founded_commits bounds (AtDesk e ∷ world) run c h =
    founded_commit_stays (AtDesk e) world c.txn c.ops c.votes (by (commit-cases e.ask e.reply (commits (desk_journal world)) c h) (λ k. founded_commits bounds world run.0 c k))
  where
    by : ((i : ℕ) × (e.ask ≡ asks.Commit c.txn c.ops c.votes) × (e.reply ≡ replies.Committed i)) ⊎ Has (commits (desk_journal world)) c
        → (Has (commits (desk_journal world)) c → IsFoundedCommit world c.txn c.ops c.votes) → IsFoundedCommit world c.txn c.ops c.votes
    by (inl p) ih = subst (λ (a : DeskAsk). IsFoundedAsk world a) p.1 run.2
    by (inr q) ih = ih q
