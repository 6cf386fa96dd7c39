-- What an entry says that passes a test: it is that entry, and it passes. An ask of the desk is founded where each
-- grant and each vote is that it cites.
use Rattle.std.specs.{Prelude.{◌==◌, ◌&&◌, not}, Cmp.Lexicographic.pointwise, List.find}
use Rattle.std.specs.Option.{option_map, option_map_or}
use Rattle.std.proofs.Common.{◌≡◌, ℕ, Bool, true, false, List, [], ◌∷◌, map, Option, Some, None, refl, ap, ◌∙◌, inl, inr, subst, sym}
use Rattle.std.proofs.lemmas.Bool.{and_from, and_parts, cond-false, eqb-true, eq-eqb, false≢true}
use Rattle.tq_shape.specs.{Journal.{Has, entry, or_else}, declared.part.Part.TheVariants.Desk}
use Rattle.tq_shape.proofs.{Options.{map-none, or_else-none}, Places.none-Has}
use Rattle.tq_store.specs.{declared.write.Write.Write, Names.same_name}
use Rattle.tq_asks.specs.declared.ask.{CitedVote.CitedVote, NodeAsk.NodeAsk, NodeReply.NodeReply, Verdict.Verdict}
use Rattle.tq_asks.specs.Verdicts.{same_verdict}
use Rattle.tq_asks.specs.declared.ask.NodeAsk.TheVariants as node_asks
use Rattle.tq_asks.specs.declared.ask.NodeReply.TheVariants as node_replies
use Rattle.tq_asks.specs.declared.ask.Verdict.TheVariants as verdicts
use Rattle.tq_asks.specs.declared.ask.WorkAsk.TheVariants as work
use Rattle.tq_desk.specs.{declared.ask.DeskAsk.DeskAsk, declared.ask.DeskReply.DeskReply, DeskStep.citation}
use Rattle.tq_desk.specs.DeskJournal.{DeskEntry, gives_verdict}
use Rattle.tq_desk.specs.declared.ask.DeskAsk.TheVariants as desk_asks
use Rattle.tq_desk.specs.declared.ask.DeskRefusal.TheVariants as desk_refusals
use Rattle.tq_desk.specs.declared.ask.DeskReply.TheVariants as desk_replies
use Rattle.tq_evidence.specs.declared.{grant.Grant.Grant, op.Op.Op, vote.Vote.Vote}
use Rattle.tq_node.specs.NodeJournal.{NodeEntry}
use Rattle.tq_desk.specs.DeskStep as log
use Rattle.tq_core.specs.{World.{item_at, server_entry}, declared.citation.Citation.Citation}
use Rattle.tq_core.specs.Founded.{cites, cites_votes, is_granted, is_voted, is_peeked, is_ended, is_founded_grant, is_founded_vote, cited_grant, cited_vote, unless, unfounded_grant, unfounded_op, unfounded_vote, unfounded_in_desk_ask, unfounded_in_node_ask}
use Rattle.tq_tables.specs.{Journals.JournalsView, Same.{same_mode, same_lock, same_write}}
use Rattle.tq_tables.proofs.Equal.{work-is, node_ask-self, node_reply-is, node_reply-self, desk_reply-self, verdict-is}

-- lists whose items are the same in pairs
pairs-is : {A B : Type 0} (test : A → B → Bool) (f : B → A) → ((a : A) (b : B) → test a b ≡ true → a ≡ f b) → (xs : List A) (ys : List B) → pointwise test xs ys ≡ true → xs ≡ map f ys
pairs-is test f same [] [] is = refl
pairs-is test f same [] (y ∷ ys) is = absurd (false≢true is)
pairs-is test f same (x ∷ xs) [] is = absurd (false≢true is)
pairs-is test f same (x ∷ xs) (y ∷ ys) is =
    let both = and_parts (test x y) (pointwise test xs ys) is in
    ap (λ z. z ∷ xs) (same x y both.0) ∙ ap (λ zs. f y ∷ zs) (pairs-is test f same xs ys both.1)

cites-is : (a : CitedVote) (b : Vote) → cites a b ≡ true → a ≡ citation b
cites-is a b same =
    let both = and_parts (a.server == b.server) (a.number == b.number) same in
    let server = eqb-true a.server b.server both.0 in
    let number = eqb-true a.number b.number both.1 in
    λ i. record { server = server i; number = number i }

commit-is : (verdict : Verdict) (votes : List Vote) → cites_votes verdict votes ≡ true → verdict ≡ verdicts.Commit (log.cited_votes votes)
commit-is verdicts.Abort votes same = absurd (false≢true same)
commit-is (verdicts.Commit cited) votes same = ap (λ v. verdicts.Commit v) (pairs-is cites citation cites-is cited votes same)

-- ---- entries

pub granted-is : (txn : ℕ) (file : List ℕ) (grant : Grant) (ask : NodeAsk) (reply : NodeReply) → is_granted txn file grant ask reply ≡ true
    → (ask ≡ node_asks.Work (work.Lock grant.mode txn file)) × (reply ≡ node_replies.Granted grant.version grant.content)
granted-is txn file grant (node_asks.Work (work.Lock mode t f)) (node_replies.Granted version content) is =
    let a = and_parts (t == txn && same_name f file && same_mode mode grant.mode && version == grant.version)
    (same_name content grant.content) is in
    let b = and_parts (t == txn && same_name f file && same_mode mode grant.mode) (version == grant.version) a.0 in (
      ap (λ ask. node_asks.Work ask) (work-is (work.Lock mode t f) (work.Lock grant.mode txn file) b.0),
      node_reply-is (node_replies.Granted version content) (node_replies.Granted grant.version grant.content)
          (and_from (version == grant.version) (same_name content grant.content) b.1 a.1),
    )
granted-is txn file grant ask reply is = absurd (false≢true is)

pub voted-is : (txn : ℕ) (vote : Vote) (ask : NodeAsk) (reply : NodeReply) → is_voted txn vote ask reply ≡ true
    → (asked : List Write) × (ask ≡ node_asks.Work (work.Prepare txn asked)) × (reply ≡ node_replies.Yes vote.held vote.writes)
voted-is txn vote (node_asks.Work (work.Prepare t asked)) (node_replies.Yes held writes) is =
    let a = and_parts (t == txn && pointwise same_lock held vote.held) (pointwise same_write writes vote.writes) is in
    let b = and_parts (t == txn) (pointwise same_lock held vote.held) a.0 in
    let t_is = eqb-true t txn b.0 in
    let reply_is = node_reply-is (node_replies.Yes held writes) (node_replies.Yes vote.held vote.writes)
    (and_from (pointwise same_lock held vote.held) (pointwise same_write writes vote.writes) b.1 a.1) in
    (asked, (λ i. node_asks.Work (work.Prepare (t_is i) asked)), reply_is)
voted-is txn vote ask reply is = absurd (false≢true is)

pub peeked-is : (file : List ℕ) (version : ℕ) (content : List ℕ) (ask : NodeAsk) (reply : NodeReply) → is_peeked file version content ask reply ≡ true
    → (ask ≡ node_asks.Work (work.Peek file)) × (reply ≡ node_replies.Copy version content)
peeked-is file version content (node_asks.Work (work.Peek f)) (node_replies.Copy v c) is =
    let a = and_parts (same_name f file && v == version) (same_name c content) is in
    let b = and_parts (same_name f file) (v == version) a.0 in (
      ap (λ ask. node_asks.Work ask) (work-is (work.Peek f) (work.Peek file) b.0),
      node_reply-is (node_replies.Copy v c) (node_replies.Copy version content)
          (and_from (v == version) (same_name c content) b.1 a.1),
    )
peeked-is file version content ask reply is = absurd (false≢true is)

pub ended-is : (txn : ℕ) (verdict : Verdict) (ask : DeskAsk) (reply : DeskReply) → is_ended txn verdict ask reply ≡ true → gives_verdict (record { ask = ask; reply = reply }) txn verdict
ended-is txn verdict (desk_asks.Commit t ops votes) (desk_replies.Committed serial) is =
    let both = and_parts (t == txn) (cites_votes verdict votes) is in
    let t_is = eqb-true t txn both.0 in
    inl (ops, votes, serial, (λ i. record { ask = desk_asks.Commit (t_is i) ops votes; reply = desk_replies.Committed serial }), commit-is verdict votes both.1)
ended-is txn verdict (desk_asks.Commit t ops votes) (desk_replies.Refused (desk_refusals.Decided final)) is =
    let both = and_parts (t == txn) (same_verdict final verdict) is in
    let t_is = eqb-true t txn both.0 in
    let v_is = verdict-is final verdict both.1 in
    inr (inr (ops, votes, λ i. record { ask = desk_asks.Commit (t_is i) ops votes; reply = desk_replies.Refused (desk_refusals.Decided (v_is i)) }))
ended-is txn verdict (desk_asks.Resolve t) (desk_replies.Verdict final) is =
    let both = and_parts (t == txn) (same_verdict final verdict) is in
    let t_is = eqb-true t txn both.0 in
    let v_is = verdict-is final verdict both.1 in
    inr (inl (λ i. record { ask = desk_asks.Resolve (t_is i); reply = desk_replies.Verdict (v_is i) }))
ended-is txn verdict ask reply is = absurd (false≢true is)

cites-self : (votes : List Vote) → pointwise cites (log.cited_votes votes) votes ≡ true
cites-self [] = refl
cites-self (vote ∷ votes) =
    and_from (cites (citation vote) vote) (pointwise cites (log.cited_votes votes) votes)
    (and_from (vote.server == vote.server) (vote.number == vote.number) (eq-eqb vote.server vote.server refl) (eq-eqb vote.number vote.number refl)) (cites-self votes)

-- what gives a verdict passes
gives-ended : (txn : ℕ) (verdict : Verdict) (e : DeskEntry) → gives_verdict e txn verdict → is_ended txn verdict e.ask e.reply ≡ true
gives-ended txn verdict e (inl is) =
    ap (λ (x : DeskEntry). is_ended txn verdict x.ask x.reply) is.3
    ∙ and_from (txn == txn) (cites_votes verdict is.1) (eq-eqb txn txn refl) (ap (λ v. cites_votes v is.1) is.4 ∙ cites-self is.1)
gives-ended txn verdict e (inr (inl is)) =
    ap (λ (x : DeskEntry). is_ended txn verdict x.ask x.reply) is ∙ and_from (txn == txn) (same_verdict verdict verdict) (eq-eqb txn txn refl) (desk_reply-self (desk_replies.Verdict verdict))
gives-ended txn verdict e (inr (inr is)) =
    ap (λ (x : DeskEntry). is_ended txn verdict x.ask x.reply) is.2 ∙ and_from (txn == txn) (same_verdict verdict verdict) (eq-eqb txn txn refl) (desk_reply-self (desk_replies.Verdict verdict))

-- a test of the entry that was looked up
pub tested-is : {E : Type 0} (test : E → Bool) (o : Option E) → option_map_or test o false ≡ true → (e : E) × (o ≡ Some e) × (test e ≡ true)
tested-is test None is = absurd (false≢true is)
tested-is test (Some e) is = (e, refl, is)

-- ---- what is founded

pub unless_none : (founded : Bool) (citation : Citation) → unless founded citation ≡ None → founded ≡ true
unless_none true citation none = refl
unless_none false citation none = absurd (let some : Path (Option Citation) (Some citation) None = none in cc)

both_none : (a b : Option Citation) → a ≡ None → b ≡ None → or_else a b ≡ None
both_none a b left right = ap (λ o. or_else o b) left ∙ right

all_founded : {A : Type 0} (founded : A → Bool) (xs : List A) → find (λ x. not (founded x)) xs ≡ None → (x : A) → Has xs x → founded x ≡ true
all_founded founded xs none x has = by (founded x) (none-Has (λ y. not (founded y)) xs none x has)
  where
    by : (b : Bool) → (not b ≡ true → ⊥) → b ≡ true
    by true never = refl
    by false never = absurd (never refl)

none_found : {A : Type 0} (founded : A → Bool) (xs : List A) → ((x : A) → Has xs x → founded x ≡ true) → find (λ x. not (founded x)) xs ≡ None
none_found founded [] all = refl
none_found founded (x ∷ xs) all =
    cond-false (not (founded x)) (Some x) (find (λ y. not (founded y)) xs) (ap not (all x (inl refl)))
    ∙ none_found founded xs (λ y has. all y (inr has))

module _ (world : JournalsView) (txn : ℕ) where
  -- a grant, or a vote, is founded where its entry stands
  pub granted-founded : (file : List ℕ) (grant : Grant)
      → server_entry world grant.server grant.number ≡ Some (entry (node_asks.Work (work.Lock grant.mode txn file)) (node_replies.Granted grant.version grant.content)) → is_founded_grant world txn file grant ≡ true
  granted-founded file grant stands =
      let asked = node_ask-self (node_asks.Work (work.Lock grant.mode txn file)) in
      let replied = and_parts (grant.version == grant.version) (same_name grant.content grant.content) (node_reply-self (node_replies.Granted grant.version grant.content)) in
      let before = txn == txn && same_name file file && same_mode grant.mode grant.mode in
      ap (λ (o : Option NodeEntry). option_map_or (λ e. is_granted txn file grant e.ask e.reply) o false) stands
      ∙ and_from (before && grant.version == grant.version) (same_name grant.content grant.content) (and_from before (grant.version == grant.version) asked replied.0) replied.1

  pub voted-founded : (vote : Vote) (asked : List Write)
      → server_entry world vote.server vote.number ≡ Some (entry (node_asks.Work (work.Prepare txn asked)) (node_replies.Yes vote.held vote.writes)) → is_founded_vote world txn vote ≡ true
  voted-founded vote asked stands =
      let replied = and_parts (pointwise same_lock vote.held vote.held) (pointwise same_write vote.writes vote.writes) (node_reply-self (node_replies.Yes vote.held vote.writes)) in
      ap (λ (o : Option NodeEntry). option_map_or (λ e. is_voted txn vote e.ask e.reply) o false) stands
      ∙ and_from (txn == txn && pointwise same_lock vote.held vote.held) (pointwise same_write vote.writes vote.writes)
      (and_from (txn == txn) (pointwise same_lock vote.held vote.held) (eq-eqb txn txn refl) replied.0) replied.1

  -- no citation is unfounded exactly where each grant of each op, and each vote, is founded
  pub ops-are : (ops : List Op) → unfounded_op world txn ops ≡ None → (op : Op) → Has ops op → (grant : Grant) → Has op.grants grant → is_founded_grant world txn op.file grant ≡ true
  ops-are [] none op has grant has_grant = absurd has
  ops-are (first ∷ ops) none op (inl same) grant has_grant =
      let here = (or_else-none (unfounded_grant world txn first.file first.grants) (unfounded_op world txn ops) none).0 in
      let clean = map-none cited_grant (find (λ (g : Grant). not (is_founded_grant world txn first.file g)) first.grants) here in
      subst (λ (o : Op). is_founded_grant world txn o.file grant ≡ true) same
      (all_founded (is_founded_grant world txn first.file) first.grants clean grant (subst (λ (o : Op). Has o.grants grant) (sym same) has_grant))
  ops-are (first ∷ ops) none op (inr has) grant has_grant =
      ops-are ops (or_else-none (unfounded_grant world txn first.file first.grants) (unfounded_op world txn ops) none).1 op has grant has_grant

  pub votes-are : (votes : List Vote) → unfounded_vote world txn votes ≡ None → (vote : Vote) → Has votes vote → is_founded_vote world txn vote ≡ true
  votes-are votes none =
      all_founded (is_founded_vote world txn) votes (map-none cited_vote (find (λ (v : Vote). not (is_founded_vote world txn v)) votes) none)

  ops-founded : (ops : List Op) → ((op : Op) → Has ops op → (grant : Grant) → Has op.grants grant → is_founded_grant world txn op.file grant ≡ true) → unfounded_op world txn ops ≡ None
  ops-founded [] all = refl
  ops-founded (op ∷ ops) all =
      both_none (unfounded_grant world txn op.file op.grants) (unfounded_op world txn ops)
      (ap (option_map cited_grant) (none_found (is_founded_grant world txn op.file) op.grants (all op (inl refl))))
      (ops-founded ops (λ other has. all other (inr has)))

  pub commit-founded : (ops : List Op) (votes : List Vote) → ((op : Op) → Has ops op → (grant : Grant) → Has op.grants grant → is_founded_grant world txn op.file grant ≡ true)
      → ((vote : Vote) → Has votes vote → is_founded_vote world txn vote ≡ true) → unfounded_in_desk_ask world (desk_asks.Commit txn ops votes) ≡ None
  commit-founded ops votes granted voted =
      both_none (unfounded_op world txn ops) (unfounded_vote world txn votes) (ops-founded ops granted)
      (ap (option_map cited_vote) (none_found (is_founded_vote world txn) votes voted))

-- a verdict is founded where the entry stands that gives it
pub verdict-founded : (world : JournalsView) (txn : ℕ) (verdict : Verdict) (cite : ℕ) (e : DeskEntry) → item_at world.desk cite ≡ Some e → gives_verdict e txn verdict
    → unfounded_in_node_ask world (node_asks.Work (work.Decide txn verdict cite)) ≡ None
verdict-founded world txn verdict cite e stands gives =
    let cited : Citation = record { part = Desk; number = cite } in
    ap (λ founded. unless founded cited) (ap (λ (o : Option DeskEntry). option_map_or (λ x. is_ended txn verdict x.ask x.reply) o false) stands ∙ gives-ended txn verdict e gives)
