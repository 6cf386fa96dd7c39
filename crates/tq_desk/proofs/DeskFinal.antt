-- The laws of the desk's journal: what is told is final, and a commit is fresh.
use Rattle.std.specs.{Prelude.{not, nat_le, ◌&&◌}, Cmp.nat_cmp_total, Ordering.{nat_cmp, is_eq, eq_by_cmp}}
use Rattle.std.{specs.FinMap.nat_cmp-IsAntisymmetric, proofs.lemmas.{Cmp.tied_itself, Bool.Decides.nat_tests}}
use Rattle.std.proofs.Common.{◌≡◌, ℕ, suc, ◌+◌, ◌++◌, arith, true, List, [], ◌∷◌, length, Option, Some, None, refl, sym, ap, subst, ◌∙◌, ◌⊎◌, inl, inr}
use Rattle.std.proofs.lemmas.Bool.{cases_Bool, cond-true, cond-false, false≢true, not-false}
use Rattle.std.specs.FinMap as fin
use Rattle.tq_shape.specs.Journal.{Has, refuse, state_at, refuse-none}
use Rattle.tq_shape.proofs.{Places.{at-cases, at-old, at-new, Some-same}, Options.is_eq-Equal}
use Rattle.tq_coterie.specs.Coterie.{is_quorum}
use Rattle.tq_asks.specs.{declared.ask.Verdict.Verdict, Verdicts.IsCited}
use Rattle.tq_asks.specs.declared.ask.Verdict.TheVariants as verdicts
use Rattle.tq_desk.specs.declared.ask.{DeskAsk.DeskAsk, DeskRefusal.DeskRefusal, DeskReply.DeskReply}
use Rattle.tq_desk.specs.DeskStep.{DeskView, Finals, is_begun, cited_votes, finals_after_resolve, desk_refusal, final_or_abort, desk_answer, desk_answered, reply_at, desk_reply, desk_after}
use Rattle.tq_desk.specs.DeskJournal.{DeskBounds, DeskEntry, desk_state, IsLegalDesk, final, Commit, with_commit, commits, gives_verdict, VerdictAt, DeskLaws, IsShown}
use Rattle.tq_desk.specs.DecisionLog.{EndsAreTold}
use Rattle.tq_desk.proofs.{Shown.shown_by, DecisionLog.{commit_decided, commit_open, desk_keeps, ends_stay}}
use Rattle.tq_desk.specs.declared.ask.DeskAsk.TheVariants as asks
use Rattle.tq_desk.specs.declared.ask.DeskRefusal.TheVariants as refusals
use Rattle.tq_desk.specs.declared.ask.DeskReply.TheVariants as replies
use Rattle.tq_evidence.specs.{declared.op.Op.Op, declared.vote.Vote.Vote, Evidence.{failed_rule, IsGood}}

-- ---- commits

pub commit-cases : (a : DeskAsk) (r : DeskReply) (list : List Commit) (c : Commit) → Has (with_commit a r list) c
    → ((i : ℕ) × (a ≡ asks.Commit c.txn c.ops c.votes) × (r ≡ replies.Committed i)) ⊎ Has list c
commit-cases (asks.Commit t ops votes) (replies.Committed i) list c (inl e) = inl (i, ap (λ (x : Commit). asks.Commit x.txn x.ops x.votes) e, refl)
commit-cases (asks.Commit t ops votes) (replies.Committed i) list c (inr h) = inr h
commit-cases a r list c h = inr h

pub commit-old : (a : DeskAsk) (r : DeskReply) (list : List Commit) (c : Commit) → Has list c → Has (with_commit a r list) c
commit-old (asks.Commit t ops votes) (replies.Committed i) list c h = inr h
commit-old a r list c h = h

-- ---- the map of verdicts

get_same : (m : Finals) (t : ℕ) (v : Verdict) → fin.get (fin.insert m t v) t ≡ Some v
get_same m t v = fin.get-insert nat_cmp_total m t v t ∙ cond-true (eq_by_cmp nat_cmp t t) (Some v) (fin.get m t) (ap is_eq (tied_itself nat_cmp_total t))

get_cases : (m : Finals) (u : ℕ) (v : Verdict) (t : ℕ) → ((t ≡ u) × (fin.get (fin.insert m u v) t ≡ Some v)) ⊎ (fin.get (fin.insert m u v) t ≡ fin.get m t)
get_cases m u v t =
    elim (cases_Bool (eq_by_cmp nat_cmp t u)) [
      | inl e ↦ inl (nat_cmp-IsAntisymmetric t u (is_eq-Equal (nat_cmp t u) e), fin.get-insert nat_cmp_total m u v t ∙ cond-true (eq_by_cmp nat_cmp t u) (Some v) (fin.get m t) e)
      | inr f ↦ inr (fin.get-insert nat_cmp_total m u v t ∙ cond-false (eq_by_cmp nat_cmp t u) (Some v) (fin.get m t) f)
    ]

-- ---- what is final stays

resolved_stays : (m : Finals) (u t : ℕ) (v : Verdict) (o : Option Verdict) → fin.get m u ≡ o → fin.get m t ≡ Some v → fin.get (finals_after_resolve o m u) t ≡ Some v
resolved_stays m u t v (Some w) e h = h
resolved_stays m u t v None e h =
    elim (get_cases m u verdicts.Abort t) [
      | inl p ↦ let n : Path (Option Verdict) None (Some v) = sym e ∙ ap (fin.get m) (sym p.0) ∙ h in cc
      | inr q ↦ q ∙ h
    ]

answered_stays : (st : DeskView) (a : DeskAsk) (t : ℕ) (v : Verdict) → desk_refusal st a ≡ None → fin.get st.finals t ≡ Some v → fin.get (desk_answered st a).finals t ≡ Some v
answered_stays st asks.Begin t v o h = h
answered_stays st (asks.Resolve u) t v o h = resolved_stays st.finals u t v (fin.get st.finals u) refl h
answered_stays st (asks.Commit u ops votes) t v o h =
    elim (get_cases st.finals u (verdicts.Commit (cited_votes votes)) t) [
      | inl p ↦ let n : Path (Option Verdict) None (Some v) = sym (commit_open st u ops votes o).0 ∙ ap (fin.get st.finals) (sym p.0) ∙ h in cc
      | inr q ↦ q ∙ h
    ]

stays : (st : DeskView) (a : DeskAsk) (t : ℕ) (v : Verdict) → fin.get st.finals t ≡ Some v → fin.get (desk_after st a).finals t ≡ Some v
stays st a t v h = by (desk_refusal st a) refl
  where
    by : (o : Option DeskRefusal) → desk_refusal st a ≡ o → fin.get (state_at o st (desk_answered st a)).finals t ≡ Some v
    by None e = answered_stays st a t v e h
    by (Some r) e = h

-- the end that the desk has kept
abbrev kept : DeskBounds → List DeskEntry → ℕ → Option Verdict
kept bounds journal t = fin.get (desk_state bounds journal).finals t

-- ---- what is told is final

resolved_told : (m : Finals) (t : ℕ) (v : Verdict) (o : Option Verdict) → fin.get m t ≡ o → v ≡ final_or_abort o → fin.get (finals_after_resolve o m t) t ≡ Some v
resolved_told m t v (Some w) e same = e ∙ ap (λ (x : Verdict). Some x) (sym same)
resolved_told m t v None e same = get_same m t verdicts.Abort ∙ ap (λ (x : Verdict). Some x) (sym same)

gives_final : (st : DeskView) (e : DeskEntry) (t : ℕ) (v : Verdict) → e.reply ≡ desk_reply st e.ask → gives_verdict e t v → fin.get (desk_after st e.ask).finals t ≡ Some v
gives_final st e t v legal (inl g) =
    subst (λ (a : DeskAsk). fin.get (desk_after st a).finals t ≡ Some v) (sym ask_is) (by (desk_refusal st (asks.Commit t g.0 g.1)) reply_is)
  where
    ask_is : e.ask ≡ asks.Commit t g.0 g.1
    ask_is = ap (λ (x : DeskEntry). x.ask) g.3

    reply_is : replies.Committed g.2 ≡ desk_reply st (asks.Commit t g.0 g.1)
    reply_is = sym (ap (λ (x : DeskEntry). x.reply) g.3) ∙ legal ∙ ap (desk_reply st) ask_is

    by : (o : Option DeskRefusal) → replies.Committed g.2 ≡ reply_at o (desk_answer st (asks.Commit t g.0 g.1)) → fin.get (state_at o st (desk_answered st (asks.Commit t g.0 g.1))).finals t ≡ Some v
    by None p = get_same st.finals t (verdicts.Commit (cited_votes g.1)) ∙ ap (λ (x : Verdict). Some x) (sym g.4)
    by (Some r) p = cc
gives_final st e t v legal (inr (inl g)) =
    subst (λ (a : DeskAsk). fin.get (desk_after st a).finals t ≡ Some v) (sym ask_is) (by (desk_refusal st (asks.Resolve t)) reply_is)
  where
    ask_is : e.ask ≡ asks.Resolve t
    ask_is = ap (λ (x : DeskEntry). x.ask) g

    reply_is : replies.Verdict v ≡ desk_reply st (asks.Resolve t)
    reply_is = sym (ap (λ (x : DeskEntry). x.reply) g) ∙ legal ∙ ap (desk_reply st) ask_is

    by : (o : Option DeskRefusal) → replies.Verdict v ≡ reply_at o (desk_answer st (asks.Resolve t)) → fin.get (state_at o st (desk_answered st (asks.Resolve t))).finals t ≡ Some v
    by None p = let same : v ≡ final_or_abort (fin.get st.finals t) = cc in resolved_told st.finals t v (fin.get st.finals t) refl same
    by (Some r) p = cc
gives_final st e t v legal (inr (inr g)) =
    subst (λ (a : DeskAsk). fin.get (desk_after st a).finals t ≡ Some v) (sym ask_is) (by (desk_refusal st (asks.Commit t g.0 g.1)) refl reply_is)
  where
    ask_is : e.ask ≡ asks.Commit t g.0 g.1
    ask_is = ap (λ (x : DeskEntry). x.ask) g.2

    reply_is : replies.Refused (refusals.Decided v) ≡ desk_reply st (asks.Commit t g.0 g.1)
    reply_is = sym (ap (λ (x : DeskEntry). x.reply) g.2) ∙ legal ∙ ap (desk_reply st) ask_is

    by : (o : Option DeskRefusal) → desk_refusal st (asks.Commit t g.0 g.1) ≡ o → replies.Refused (refusals.Decided v) ≡ reply_at o (desk_answer st (asks.Commit t g.0 g.1))
        → fin.get (state_at o st (desk_answered st (asks.Commit t g.0 g.1))).finals t ≡ Some v
    by None e p = cc
    by (Some r) e p = let same : refusals.Decided v ≡ r = cc in commit_decided st t g.0 g.1 v (e ∙ ap (λ (x : DeskRefusal). Some x) (sym same))

told_final : (bounds : DeskBounds) (D : List DeskEntry) → IsLegalDesk bounds D → (k t : ℕ) (v : Verdict) → VerdictAt D k t v → kept bounds D t ≡ Some v
told_final bounds [] legal k t v at = let n = at.is_there in cc
told_final bounds (e ∷ D) legal k t v at =
    elim (at-cases e D k at.entry at.is_there) [
      | inl p ↦ gives_final (desk_state bounds D) e t v legal.0 (subst (λ (x : DeskEntry). gives_verdict x t v) (sym p.1) at.gives)
      | inr q ↦ stays (desk_state bounds D) e.ask t v (told_final bounds D legal.1 k t v (record { entry = at.entry; is_there = q; gives = at.gives }))
    ]

-- ---- a Commit that is final is of a commit

abbrev IsEnded : List Commit → ℕ → Verdict → Type 0
IsEnded list t v = (v ≡ verdicts.Abort) ⊎ ((c : Commit) × Has list c × (c.txn ≡ t) × (v ≡ verdicts.Commit (cited_votes c.votes)))

ended_later : (a : DeskAsk) (r : DeskReply) (list : List Commit) (t : ℕ) (v : Verdict) → IsEnded list t v → IsEnded (with_commit a r list) t v
ended_later a r list t v (inl e) = inl e
ended_later a r list t v (inr c) = inr (c.0, commit-old a r list c.0 c.1, c.2, c.3)

resolved_ended : (m : Finals) (u t : ℕ) (v : Verdict) (o : Option Verdict) (list : List Commit) → fin.get (finals_after_resolve o m u) t ≡ Some v → (fin.get m t ≡ Some v → IsEnded list t v) → IsEnded list t v
resolved_ended m u t v (Some w) list h ih = ih h
resolved_ended m u t v None list h ih =
    elim (get_cases m u verdicts.Abort t) [
      | inl p ↦ inl (Some-same (sym h ∙ p.1))
      | inr q ↦ ih (sym q ∙ h)
    ]

answered_ended : (st : DeskView) (a : DeskAsk) (list : List Commit) (t : ℕ) (v : Verdict) → fin.get (desk_answered st a).finals t ≡ Some v → (fin.get st.finals t ≡ Some v → IsEnded list t v)
    → IsEnded (with_commit a (desk_answer st a) list) t v
answered_ended st asks.Begin list t v h ih = ih h
answered_ended st (asks.Resolve u) list t v h ih = resolved_ended st.finals u t v (fin.get st.finals u) list h ih
answered_ended st (asks.Commit u ops votes) list t v h ih =
    elim (get_cases st.finals u (verdicts.Commit (cited_votes votes)) t) [
      | inl p ↦ inr (record { txn = u; ops = ops; votes = votes }, inl refl, sym p.0, Some-same (sym h ∙ p.1))
      | inr q ↦ ended_later (asks.Commit u ops votes) (desk_answer st (asks.Commit u ops votes)) list t v (ih (sym q ∙ h))
    ]

ended : (bounds : DeskBounds) (D : List DeskEntry) → IsLegalDesk bounds D → (t : ℕ) (v : Verdict) → kept bounds D t ≡ Some v → IsEnded (commits D) t v
ended bounds [] legal t v h = let n : Path (Option Verdict) None (Some v) = sym (fin.get-empty nat_cmp t) ∙ h in cc
ended bounds (e ∷ D) legal t v h =
    subst (λ (r : DeskReply). IsEnded (with_commit e.ask r (commits D)) t v) (sym legal.0) (by (desk_refusal (desk_state bounds D) e.ask) h (λ k. ended bounds D legal.1 t v k))
  where
    by : (o : Option DeskRefusal) → fin.get (state_at o (desk_state bounds D) (desk_answered (desk_state bounds D) e.ask)).finals t ≡ Some v → (kept bounds D t ≡ Some v → IsEnded (commits D) t v)
        → IsEnded (with_commit e.ask (reply_at o (desk_answer (desk_state bounds D) e.ask)) (commits D)) t v
    by None k ih = answered_ended (desk_state bounds D) e.ask (commits D) t v k ih
    by (Some r) k ih = ended_later e.ask (replies.Refused r) (commits D) t v (ih k)

committed_of : (list : List Commit) (t : ℕ) (v : Verdict) (s n : ℕ) → IsCited v s n → IsEnded list t v → (c : Commit) × Has list c × (c.txn ≡ t) × (v ≡ verdicts.Commit (cited_votes c.votes))
committed_of list t v s n h (inl e) = absurd (false≢true (subst (λ (x : Verdict). IsCited x s n) e h))
committed_of list t v s n h (inr c) = c

stands_at : (D : List DeskEntry) (c : Commit) → Has (commits D) c → (k : ℕ) × VerdictAt D k c.txn (verdicts.Commit (cited_votes c.votes))
stands_at [] c h = absurd h
stands_at (e ∷ D) c h = by (commit-cases e.ask e.reply (commits D) c h) (λ k. stands_at D c k)
  where
    by : ((i : ℕ) × (e.ask ≡ asks.Commit c.txn c.ops c.votes) × (e.reply ≡ replies.Committed i)) ⊎ Has (commits D) c
        → (Has (commits D) c → (k : ℕ) × VerdictAt D k c.txn (verdicts.Commit (cited_votes c.votes))) → (k : ℕ) × VerdictAt (e ∷ D) k c.txn (verdicts.Commit (cited_votes c.votes))
    by (inl p) ih = (suc (length D), record { entry = e; is_there = at-new e D; gives = inl (c.ops, c.votes, p.0, (λ i. record { ask = p.1 i; reply = p.2 i }), refl) })
    by (inr q) ih = let r = ih q in (r.0, record { entry = (r.1).entry; is_there = at-old e D r.0 (r.1).entry (r.1).is_there; gives = (r.1).gives })

good_at : (bounds : DeskBounds) (D : List DeskEntry) (ops : List Op) (votes : List Vote) → IsLegalDesk bounds D → IsGood (desk_state bounds D).levels ops votes → IsGood bounds.levels ops votes
good_at bounds D ops votes legal good = let keeps = desk_keeps bounds D legal in ap (λ levels. failed_rule levels ops votes) (sym keeps.levels) ∙ good

commit_fresh : (bounds : DeskBounds) (D : List DeskEntry) (t : ℕ) (ops : List Op) (votes : List Vote) (i : ℕ)
    → IsLegalDesk bounds (record { ask = asks.Commit t ops votes; reply = replies.Committed i } ∷ D)
    → (kept bounds D t ≡ None) × IsShown (is_quorum bounds.levels) ops votes
commit_fresh bounds D t ops votes i legal = by (desk_refusal (desk_state bounds D) (asks.Commit t ops votes)) refl legal.0
  where
    by : (o : Option DeskRefusal) → desk_refusal (desk_state bounds D) (asks.Commit t ops votes) ≡ o → replies.Committed i ≡ reply_at o (desk_answer (desk_state bounds D) (asks.Commit t ops votes))
        → (kept bounds D t ≡ None) × IsShown (is_quorum bounds.levels) ops votes
    by None e p = let k = commit_open (desk_state bounds D) t ops votes e in (k.0, shown_by bounds.levels ops votes (good_at bounds D ops votes legal.1 k.1))
    by (Some r) e p = cc

-- ---- the laws, of the log's final verdicts

log_final : (bounds : DeskBounds) (D : List DeskEntry) → IsLegalDesk bounds D → (t : ℕ) → final D t ≡ kept bounds D t
log_final bounds D legal t = let keeps = desk_keeps bounds D legal in sym (keeps.finals t)

pub desk_laws : (bounds : DeskBounds) → DeskLaws bounds
desk_laws bounds = record {
  told = λ D legal k t v at. log_final bounds D legal t ∙ told_final bounds D legal k t v at;
  committed = λ D legal t v h s n cites. committed_of (commits D) t v s n cites (ended bounds D legal t v (sym (log_final bounds D legal t) ∙ h));
  stands = stands_at;
  fresh = λ D t ops votes i legal. let k = commit_fresh bounds D t ops votes i legal in (log_final bounds D legal.1 t ∙ k.0, k.1);
}

-- ---- what has ended was begun

more_begun : (t n : ℕ) → (nat_le 1 t && nat_le t n) ≡ true → (nat_le 1 t && nat_le t (n + 1)) ≡ true
more_begun t n h = grind (arith, nat_tests)

-- each transaction that has ended was begun
abbrev AreBegun : DeskView → Type 0
AreBegun st = (t : ℕ) (v : Verdict) → fin.get st.finals t ≡ Some v → is_begun st t ≡ true

put_begun : (st : DeskView) (u : ℕ) (w : Verdict) → AreBegun st → is_begun st u ≡ true → (t : ℕ) (v : Verdict) → fin.get (fin.insert st.finals u w) t ≡ Some v → is_begun st t ≡ true
put_begun st u w begun is t v h =
    elim (get_cases st.finals u w t) [
      | inl p ↦ ap (is_begun st) p.0 ∙ is
      | inr q ↦ begun t v (sym q ∙ h)
    ]

resolved_begun : (st : DeskView) (u : ℕ) (o : Option Verdict) → AreBegun st → is_begun st u ≡ true → (t : ℕ) (v : Verdict) → fin.get (finals_after_resolve o st.finals u) t ≡ Some v → is_begun st t ≡ true
resolved_begun st u None begun is t v h = put_begun st u verdicts.Abort begun is t v h
resolved_begun st u (Some w) begun is t v h = begun t v h

answered_begun : (st : DeskView) (a : DeskAsk) → desk_refusal st a ≡ None → AreBegun st → AreBegun (desk_answered st a)
answered_begun st asks.Begin o begun t v h = more_begun t st.begun (begun t v h)
answered_begun st (asks.Resolve u) o begun t v h =
    resolved_begun st u (fin.get st.finals u) begun (not-false (is_begun st u) ((refuse-none (not (is_begun st u)) refusals.NoSuchTxn None o).0)) t v h
answered_begun st (asks.Commit u ops votes) o begun t v h =
    put_begun st u (verdicts.Commit (cited_votes votes)) begun (not-false (is_begun st u) ((refuse-none (not (is_begun st u)) refusals.NoSuchTxn _ o).0)) t v h

after_begun : (st : DeskView) (a : DeskAsk) → AreBegun st → AreBegun (desk_after st a)
after_begun st a begun = by (desk_refusal st a) refl
  where
    by : (o : Option DeskRefusal) → desk_refusal st a ≡ o → AreBegun (state_at o st (desk_answered st a))
    by None e = answered_begun st a e begun
    by (Some r) e = begun

ended_begun : (bounds : DeskBounds) (D : List DeskEntry) → AreBegun (desk_state bounds D)
ended_begun bounds [] t v h = let n : Path (Option Verdict) None (Some v) = sym (fin.get-empty nat_cmp t) ∙ h in cc
ended_begun bounds (e ∷ D) t v h = after_begun (desk_state bounds D) e.ask (ended_begun bounds D) t v h

told_again : (st : DeskView) (t : ℕ) (v : Verdict) → is_begun st t ≡ true → fin.get st.finals t ≡ Some v → desk_reply st (asks.Resolve t) ≡ replies.Verdict v
told_again st t v begun is = λ i. reply_at (refuse (not (begun i)) refusals.NoSuchTxn None) (replies.Verdict (final_or_abort (is i)))

pub ends_told : (bounds : DeskBounds) → EndsAreTold bounds
ends_told bounds later journal t v reply e legal =
    let D = later ++ journal in
    let is : fin.get (desk_state bounds D).finals t ≡ Some v = sym (log_final bounds D legal.1 t) ∙ ends_stay later journal t v e in
    legal.0 ∙ told_again (desk_state bounds D) t v (ended_begun bounds D t v is) is
