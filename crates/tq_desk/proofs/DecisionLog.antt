-- What a refusal, or none, says of the desk. What a desk keeps, after a legal journal, is what the journal says.
use Rattle.std.specs.{Prelude.{not, nat_lt, nat_le, ◌&&◌}, Cmp.{nat_cmp_total, unsigned_ties}, Ordering.nat_cmp}
use Rattle.std.proofs.Common.{◌≡◌, ℕ, Bool, true, false, List, length, Option, Some, None, ◌+◌, ◌++◌, cond, nat_eq, [], ◌∷◌, refl, sym, ap, subst, ◌∙◌, arith}
use Rattle.std.proofs.lemmas.Bool.{eqb-true}
use Rattle.std.specs.FinMap as fin
use Rattle.tq_asks.specs.declared.ask.Verdict.{Verdict}
use Rattle.tq_desk.specs.declared.ask.DeskAsk.TheVariants as asks
use Rattle.tq_desk.specs.declared.ask.{DeskRefusal.DeskRefusal, DeskAsk.DeskAsk, DeskReply.DeskReply}
use Rattle.tq_desk.specs.DeskStep.{DeskView, is_begun, with_files, desk_refusal, Finals, cited_votes, desk_after, desk_answer, desk_answered, desk_reply, final_or_abort, reply_at, finals_after_resolve}
use Rattle.tq_desk.specs.DeskJournal.{DeskBounds, DeskEntry, desk_state, ending_of, final, IsLegalDesk}
use Rattle.tq_desk.specs.DecisionLog.{AnswersByLog, EndsStay, IsDecisionLog, Keeps, log_reply}
use Rattle.tq_desk.specs.declared.ask.DeskRefusal.TheVariants as refusals
use Rattle.tq_evidence.specs.{declared.op.Op.Op, declared.vote.Vote.Vote, Evidence.{failed_rule, IsGood}}
use Rattle.tq_shape.specs.Journal.{refuse, refuse_for, state_at, or_else, refuse-none, refuse_for-none, entry}
use Rattle.tq_shape.proofs.Places.{Some-same}
use Rattle.tq_asks.specs.declared.ask.Verdict.TheVariants as verdicts
use Rattle.tq_desk.specs.declared.ask.DeskReply.TheVariants as replies

pub refuse-other : (b : Bool) (r s : DeskRefusal) (next : Option DeskRefusal) → (r ≡ s → ⊥) → refuse b r next ≡ Some s → next ≡ Some s
refuse-other true r s next ne h = absurd (ne (Some-same h))
refuse-other false r s next ne h = h

pub refuse_for-other : {A : Type 0} (o : Option A) (r : A → DeskRefusal) (s : DeskRefusal) (next : Option DeskRefusal) → ((x : A) → r x ≡ s → ⊥) → refuse_for o r next ≡ Some s → next ≡ Some s
refuse_for-other None r s next ne h = h
refuse_for-other (Some x) r s next ne h = absurd (ne x (Some-same h))

pub refuse_for-decided : (o : Option Verdict) (v : Verdict) (next : Option DeskRefusal) → (next ≡ Some (refusals.Decided v) → ⊥) → refuse_for o refusals.Decided next ≡ Some (refusals.Decided v) → o ≡ Some v
refuse_for-decided None v next ne h = absurd (ne h)
refuse_for-decided (Some x) v next ne h = cc

pub commit_open : (st : DeskView) (t : ℕ) (ops : List Op) (votes : List Vote) → desk_refusal st (asks.Commit t ops votes) ≡ None
    → (fin.get st.finals t ≡ None) × IsGood st.levels ops votes
commit_open st t ops votes h =
    let a = (refuse-none (not (is_begun st t)) refusals.NoSuchTxn _ h).1 in
    let b = refuse_for-none (fin.get st.finals t) refusals.Decided _ a in
    let c = (refuse-none (nat_lt st.limits.ops (length ops)) refusals.TooManyOps _ b.1).1 in
    let d = refuse_for-none (failed_rule st.levels ops votes) refusals.BadEvidence _ c in
    (b.0, d.0)

pub commit_decided : (st : DeskView) (t : ℕ) (ops : List Op) (votes : List Vote) (v : Verdict) → desk_refusal st (asks.Commit t ops votes) ≡ Some (refusals.Decided v)
    → fin.get st.finals t ≡ Some v
commit_decided st t ops votes v h =
    let a = refuse-other (not (is_begun st t)) refusals.NoSuchTxn (refusals.Decided v) _ (λ e. cc) h in
    refuse_for-decided (fin.get st.finals t) v _ (λ n.
    let c = refuse-other (nat_lt st.limits.ops (length ops)) refusals.TooManyOps (refusals.Decided v) _ (λ e. cc) n in
    let d = refuse_for-other (failed_rule st.levels ops votes) refusals.BadEvidence (refusals.Decided v) _ (λ x e. cc) c in
    let e = refuse-other (nat_lt st.limits.files (fin.len (with_files st.files ops))) refusals.TooManyFiles (refusals.Decided v) None (λ e. cc) d in cc) a

-- ---- decision log

or_else-None : (o : Option Verdict) → o ≡ or_else o None
or_else-None None = refl
or_else-None (Some v) = refl

-- ---- the ends recorded

-- an end put in where there was none is the first
put_final : (m : Finals) (txn : ℕ) (v : Verdict) (t : ℕ) → fin.get m txn ≡ None → fin.get (fin.insert m txn v) t ≡ or_else (fin.get m t) (cond (nat_eq t txn) (Some v) None)
put_final m txn v t none =
    fin.get-insert nat_cmp_total m txn v t
    ∙ ap (λ b. cond b (Some v) (fin.get m t)) (sym (unsigned_ties t txn))
    ∙ by (nat_eq t txn) refl
  where
    by : (b : Bool) → nat_eq t txn ≡ b → cond b (Some v) (fin.get m t) ≡ or_else (fin.get m t) (cond b (Some v) None)
    by true same = ap (λ o. or_else o (Some v)) (sym (ap (fin.get m) (eqb-true t txn same) ∙ none))
    by false other = or_else-None (fin.get m t)

-- an end told where there was one is not the first
kept_final : (m : Finals) (txn : ℕ) (old v : Verdict) (t : ℕ) → fin.get m txn ≡ Some old → fin.get m t ≡ or_else (fin.get m t) (cond (nat_eq t txn) (Some v) None)
kept_final m txn old v t some = by (nat_eq t txn) refl
  where
    by : (b : Bool) → nat_eq t txn ≡ b → fin.get m t ≡ or_else (fin.get m t) (cond b (Some v) None)
    by true same =
        let is : fin.get m t ≡ Some old = ap (fin.get m) (eqb-true t txn same) ∙ some in
        is ∙ ap (λ o. or_else o (Some v)) (sym is)
    by false other = or_else-None (fin.get m t)

resolved_final : (m : Finals) (txn t : ℕ) (o : Option Verdict) → fin.get m txn ≡ o → fin.get (finals_after_resolve o m txn) t ≡ or_else (fin.get m t) (cond (nat_eq t txn) (Some verdicts.Abort) None)
resolved_final m txn t None e = put_final m txn verdicts.Abort t e
resolved_final m txn t (Some v) e = kept_final m txn v verdicts.Abort t e

-- ---- one entry more

module _ (bounds : DeskBounds) (journal : List DeskEntry) (old : DeskView) (keeps : Keeps bounds journal old) where
  unchanged : (ask : DeskAsk) (reason : DeskRefusal) → Keeps bounds (entry ask (replies.Refused reason) ∷ journal) old
  unchanged asks.Begin reason = record { levels = keeps.levels; limits = keeps.limits; begun = keeps.begun; finals = λ t. keeps.finals t ∙ or_else-None (final journal t); commits = keeps.commits; files = keeps.files }
  unchanged (asks.Commit txn ops votes) reason = record { levels = keeps.levels; limits = keeps.limits; begun = keeps.begun; finals = λ t. keeps.finals t ∙ or_else-None (final journal t); commits = keeps.commits; files = keeps.files }
  unchanged (asks.Resolve txn) reason = record { levels = keeps.levels; limits = keeps.limits; begun = keeps.begun; finals = λ t. keeps.finals t ∙ or_else-None (final journal t); commits = keeps.commits; files = keeps.files }

  changed : (ask : DeskAsk) → desk_refusal old ask ≡ None → Keeps bounds (entry ask (desk_answer old ask) ∷ journal) (desk_answered old ask)
  changed asks.Begin open_to =
      record {
        levels = keeps.levels;
        limits = keeps.limits;
        begun = ap (λ n. n + 1) keeps.begun;
        finals = λ t. keeps.finals t ∙ or_else-None (final journal t);
        commits = keeps.commits;
        files = keeps.files;
      }
  changed (asks.Resolve txn) open_to =
      record {
        levels = keeps.levels;
        limits = keeps.limits;
        begun = keeps.begun;
        finals = λ t. resolved_final old.finals txn t (fin.get old.finals txn) refl ∙ ap (λ o. or_else o (cond (nat_eq t txn) (Some verdicts.Abort) None)) (keeps.finals t);
        commits = keeps.commits;
        files = keeps.files;
      }
  changed (asks.Commit txn ops votes) open_to =
      let fresh = (commit_open old txn ops votes open_to).0 in
      record {
        levels = keeps.levels;
        limits = keeps.limits;
        begun = keeps.begun;
        finals = λ t. put_final old.finals txn (verdicts.Commit (cited_votes votes)) t fresh ∙ ap (λ o. or_else o (cond (nat_eq t txn) (Some (verdicts.Commit (cited_votes votes))) None)) (keeps.finals t);
        commits = let same = keeps.commits in omega arith;
        files = ap (λ files. with_files files ops) keeps.files;
      }

  one_more : (ask : DeskAsk) → Keeps bounds (entry ask (desk_reply old ask) ∷ journal) (desk_after old ask)
  one_more ask = by (desk_refusal old ask) refl
    where
      by : (o : Option DeskRefusal) → desk_refusal old ask ≡ o → Keeps bounds (entry ask (reply_at o (desk_answer old ask)) ∷ journal) (state_at o old (desk_answered old ask))
      by None open_to = changed ask open_to
      by (Some reason) refused = unchanged ask reason

  -- the step's reply is the log's
  pub reply-log : (ask : DeskAsk) → desk_reply old ask ≡ log_reply bounds journal ask
  reply-log asks.Begin = λ i. replies.Txn (keeps.begun i + 1)
  reply-log (asks.Resolve txn) = λ i.
      reply_at (refuse (not (nat_le 1 txn && nat_le txn (keeps.begun i))) refusals.NoSuchTxn None) (replies.Verdict (final_or_abort (keeps.finals txn i)))
  reply-log (asks.Commit txn ops votes) = λ i.
      reply_at
      (refuse (not (nat_le 1 txn && nat_le txn (keeps.begun i))) refusals.NoSuchTxn
      (refuse_for (keeps.finals txn i) refusals.Decided
      (refuse (nat_lt (keeps.limits i).ops (length ops)) refusals.TooManyOps
      (refuse_for (failed_rule (keeps.levels i) ops votes) refusals.BadEvidence
      (refuse (nat_lt (keeps.limits i).files (fin.len (with_files (keeps.files i) ops))) refusals.TooManyFiles None)))))
      (replies.Committed (keeps.commits i + 1))

-- ---- whole journals

pub desk_keeps : (bounds : DeskBounds) (journal : List DeskEntry) → IsLegalDesk bounds journal → Keeps bounds journal (desk_state bounds journal)
desk_keeps bounds [] legal = record { levels = refl; limits = refl; begun = refl; finals = λ t. fin.get-empty nat_cmp t; commits = refl; files = refl }
desk_keeps bounds (e ∷ earlier) legal =
    let more = one_more bounds earlier (desk_state bounds earlier) (desk_keeps bounds earlier legal.1) e.ask in
    subst (λ (reply : DeskReply). Keeps bounds (entry e.ask reply ∷ earlier) (desk_after (desk_state bounds earlier) e.ask)) (sym legal.0) (same more)
  where
    same : Keeps bounds (entry e.ask (desk_reply (desk_state bounds earlier) e.ask) ∷ earlier) (desk_after (desk_state bounds earlier) e.ask) → Keeps bounds (entry e.ask (desk_reply (desk_state bounds earlier) e.ask) ∷ earlier) (desk_after (desk_state bounds earlier) e.ask)
    same k = k

pub legal-log : (bounds : DeskBounds) (journal : List DeskEntry) → IsLegalDesk bounds journal → IsDecisionLog bounds journal
legal-log bounds [] legal = tt
legal-log bounds (e ∷ earlier) legal =
    (legal.0 ∙ reply-log bounds earlier (desk_state bounds earlier) (desk_keeps bounds earlier legal.1) e.ask, legal-log bounds earlier legal.1)

pub log-legal : (bounds : DeskBounds) (journal : List DeskEntry) → IsDecisionLog bounds journal → IsLegalDesk bounds journal
log-legal bounds [] log = tt
log-legal bounds (e ∷ earlier) log =
    let legal = log-legal bounds earlier log.1 in
    (log.0 ∙ sym (reply-log bounds earlier (desk_state bounds earlier) (desk_keeps bounds earlier legal) e.ask), legal)

-- an answer of the step is the log's
pub answers : (old new : DeskView) (ask : DeskAsk) (reply : DeskReply) → reply ≡ desk_reply old ask → new ≡ desk_after old ask
    → (bounds : DeskBounds) (journal : List DeskEntry) → IsLegalDesk bounds journal → old ≡ desk_state bounds journal → AnswersByLog old new ask reply bounds journal
answers old new ask reply replied stood bounds journal legal stands =
    let is : reply ≡ desk_reply (desk_state bounds journal) ask = replied ∙ ap (λ d. desk_reply d ask) stands in
    record {
      reply_is = is ∙ reply-log bounds journal (desk_state bounds journal) (desk_keeps bounds journal legal) ask;
      legal = (is, legal);
      stands = stood ∙ ap (λ d. desk_after d ask) stands;
    }

-- ---- an end once recorded stays

or_else-Some : (o p : Option Verdict) (v : Verdict) → o ≡ Some v → or_else o p ≡ Some v
or_else-Some None p v e = cc
or_else-Some (Some w) p v e = e

pub ends_stay : EndsStay
ends_stay [] journal txn v e = e
ends_stay (l ∷ later) journal txn v e = or_else-Some (final (later ++ journal) txn) (ending_of l.ask l.reply txn) v (ends_stay later journal txn v e)
