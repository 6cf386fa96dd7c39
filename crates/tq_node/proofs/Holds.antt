-- Locks, votes and copies over a stretch of a journal, from the frames alone.
use Rattle.std.proofs.Common.{◌≡◌, ℕ, suc, ◌≤◌, ◌<◌, false, List, [], ◌∷◌, ◌++◌, length, Option, Some, None, refl, sym, ap, subst, ◌∙◌, ◌⊎◌, inl, inr, arith}
use Rattle.std.proofs.lemmas.List.{length-append}
use Rattle.std.specs.FinMap as fin
use Rattle.tq_store.specs.{Copies.copy_of, declared.copies.FileCopy.FileCopy}
use Rattle.tq_locks.specs.{Locks.{Locks, LockKey, stronger, lock_after}, declared.mode.Lock.Lock}
use Rattle.tq_locks.specs.declared.mode.{Mode.Mode, Mode.TheVariants.{Shared, Exclusive}}
use Rattle.tq_intents.specs.declared.record.OpenVote.{OpenVote}
use Rattle.tq_node.specs.{Records.Records, NodeJournal.{NodeEntry, IsLegalNode, GrantAt}}
use Rattle.tq_node.specs.NodeLaws.{IsOwner, IsSameHold, IsUnbroken, TakenAt}
use Rattle.tq_node.proofs.{Frames.{AreAmong, IsGrant, Frame}, ServerLaws.{votes_own, taken_old}}
use Rattle.tq_asks.specs.declared.ask.{NodeAsk.TheVariants.Work, Verdict.Verdict}
use Rattle.tq_asks.specs.declared.ask.NodeReply.TheVariants as replies
use Rattle.tq_asks.specs.declared.ask.WorkAsk.TheVariants as work
use Rattle.tq_shape.proofs.Places.{at-old, at-new, at-bound}

stronger-itself : (a : Mode) → stronger a a ≡ a
stronger-itself Shared = refl
stronger-itself Exclusive = refl

stronger-again : (a m : Mode) → stronger a (stronger a m) ≡ stronger a m
stronger-again Shared m = refl
stronger-again Exclusive m = refl

stronger-steps : (a b c : Mode) → stronger a b ≡ b → stronger b c ≡ c → stronger a c ≡ c
stronger-steps Shared b c p q = refl
stronger-steps Exclusive b c p q = subst (λ (m : Mode). stronger m c ≡ c) (sym p) q

hold_itself : (lock : Lock) → IsSameHold lock lock
hold_itself lock = record { since = refl; version = refl; no_stronger = stronger-itself lock.mode }

hold_steps : (a b c : Lock) → IsSameHold a b → IsSameHold b c → IsSameHold a c
hold_steps a b c p q = record { since = p.since ∙ q.since; version = p.version ∙ q.version; no_stronger = stronger-steps a.mode b.mode c.mode p.no_stronger q.no_stronger }

option_ext : {X : Type 0} (a b : Option X) → ((x : X) → a ≡ Some x → b ≡ Some x) → ((x : X) → b ≡ Some x → a ≡ Some x) → b ≡ a
option_ext None None f g = refl
option_ext None (Some y) f g = sym (g y refl)
option_ext (Some x) b f g = f x refl

-- what owns the same locks has the same locks
owner_alike : (a b : Locks) (t : ℕ) (vote : OpenVote) → IsOwner a t vote → IsOwner b t vote → (f : List ℕ) → fin.get b (f, t) ≡ fin.get a (f, t)
owner_alike a b t vote h k f = option_ext (fin.get a (f, t)) (fin.get b (f, t)) (one a b h k) (one b a k h)
  where
    one : (a b : Locks) → IsOwner a t vote → IsOwner b t vote → (lock : Lock) → fin.get a (f, t) ≡ Some lock → fin.get b (f, t) ≡ Some lock
    one a b h k lock g =
        let x = h.only f lock g in
        subst (λ (e : LockKey × Lock). fin.get b e.0 ≡ Some e.1) x.2 (k.held x.0 x.1)

module _ (s : ℕ) (state : List NodeEntry → Records)
    (start : state [] ≡ record { copies = fin.empty; locks = fin.empty; votes = fin.empty; down = false })
    (frames : (e : NodeEntry) (K : List NodeEntry) → IsLegalNode s (e ∷ K) → Frame s (suc (length K)) e (state K) (state (e ∷ K))) where
  -- ---- the first grant without a break

  -- the hold goes on
  goes_on : (e : NodeEntry) (K : List NodeEntry) (f : List ℕ) (t : ℕ) (was lock : Lock) → fin.get (state (e ∷ K)).locks (f, t) ≡ Some lock → IsSameHold was lock
      → IsUnbroken (λ K. (state K).locks) K f t was → IsUnbroken (λ K. (state K).locks) (e ∷ K) f t lock
  goes_on e K f t was lock here same h =
      record {
        first = (h.first.0, h.first.1, at-old e K lock.since _ (subst (λ (v : ℕ). GrantAt K lock.since t f h.first.0 v h.first.1) same.version (subst (λ (n : ℕ). GrantAt K n t f h.first.0 was.version h.first.1) same.since h.first.2)));
        none_before = before;
        ever_since = since;
      }
    where
      low : was.since ≤ length K
      low = at-bound K was.since _ h.first.2

      before : (later earlier : List NodeEntry) → e ∷ K ≡ later ++ earlier → suc (length earlier) ≡ lock.since → fin.get (state earlier).locks (f, t) ≡ None
      before [] earlier is at = let long = ap length is in let l = low in let z = same.since in absurd (omega arith)
      before (x ∷ l) earlier is at = let rest : K ≡ l ++ earlier = cc in h.none_before l earlier rest (at ∙ sym same.since)

      since : (later earlier : List NodeEntry) → e ∷ K ≡ later ++ earlier → lock.since ≤ length earlier → (w : Lock) × (fin.get (state earlier).locks (f, t) ≡ Some w) × IsSameHold w lock
      since [] earlier is at = (lock, subst (λ (J : List NodeEntry). fin.get (state J).locks (f, t) ≡ Some lock) is here, hold_itself lock)
      since (x ∷ l) earlier is at =
          let rest : K ≡ l ++ earlier = cc in
          let z = same.since in
          let w = h.ever_since l earlier rest (omega arith) in
          (w.0, w.1, hold_steps w.0 was lock w.2 same)

  -- it begins
  begins : (e : NodeEntry) (K : List NodeEntry) (f : List ℕ) (t : ℕ) (m : Mode) (lock : Lock) → fin.get (state (e ∷ K)).locks (f, t) ≡ Some lock → fin.get (state K).locks (f, t) ≡ None
      → e ≡ record { ask = Work (work.Lock m t f); reply = replies.Granted lock.version (copy_of (state K).copies f).content } → lock.since ≡ suc (length K)
      → IsUnbroken (λ K. (state K).locks) (e ∷ K) f t lock
  begins e K f t m lock here none is number =
      record {
        first = (m, (copy_of (state K).copies f).content, subst (λ (n : ℕ). GrantAt (e ∷ K) n t f m lock.version (copy_of (state K).copies f).content) (sym number) (at-new e K ∙ ap (λ (x : NodeEntry). Some x) is));
        none_before = before;
        ever_since = since;
      }
    where
      all_of : (l earlier : List NodeEntry) → K ≡ l ++ earlier → length earlier ≡ length K → K ≡ earlier
      all_of [] earlier p q = p
      all_of (x ∷ l) earlier p q = let long = ap length p in let sum = length-append l earlier in absurd (omega arith)

      before : (later earlier : List NodeEntry) → e ∷ K ≡ later ++ earlier → suc (length earlier) ≡ lock.since → fin.get (state earlier).locks (f, t) ≡ None
      before [] earlier p at = let long = ap length p in absurd (omega arith)
      before (x ∷ l) earlier p at =
          let rest : K ≡ l ++ earlier = cc in
          subst (λ (J : List NodeEntry). fin.get (state J).locks (f, t) ≡ None) (all_of l earlier rest (omega arith)) none

      since : (later earlier : List NodeEntry) → e ∷ K ≡ later ++ earlier → lock.since ≤ length earlier → (w : Lock) × (fin.get (state earlier).locks (f, t) ≡ Some w) × IsSameHold w lock
      since [] earlier p at = (lock, subst (λ (J : List NodeEntry). fin.get (state J).locks (f, t) ≡ Some lock) p here, hold_itself lock)
      since (x ∷ l) earlier p at =
          let rest : K ≡ l ++ earlier = cc in
          let long = ap length rest in
          let sum = length-append l earlier in
          absurd (omega arith)

  pub unbroken : (K : List NodeEntry) → IsLegalNode s K → (f : List ℕ) (t : ℕ) (lock : Lock) → fin.get (state K).locks (f, t) ≡ Some lock → IsUnbroken (λ K. (state K).locks) K f t lock
  unbroken [] legal f t lock h = let n : Path (Option Lock) None (Some lock) = sym (ap (λ (r : Records). fin.get r.locks (f, t)) start ∙ fin.get-empty _ (f, t)) ∙ h in absurd cc
  unbroken (e ∷ K) legal f t lock h = by (frames e K legal).locks (λ was k. unbroken K legal.1 f t was k)
    where
      after : (g : IsGrant (suc (length K)) e (state K) (state (e ∷ K))) → f ≡ g.file → t ≡ g.txn → (o : Option Lock) → fin.get (state K).locks (f, t) ≡ o
          → lock ≡ lock_after o g.mode (suc (length K)) (copy_of (state K).copies f).version
          → ((was : Lock) → fin.get (state K).locks (f, t) ≡ Some was → IsUnbroken (λ K. (state K).locks) K f t was) → IsUnbroken (λ K. (state K).locks) (e ∷ K) f t lock
      after g p q None o is ih =
          let version : lock.version ≡ (copy_of (state K).copies f).version = ap (λ (l : Lock). l.version) is in
          let told : e ≡ record { ask = Work (work.Lock g.mode t f); reply = replies.Granted lock.version (copy_of (state K).copies f).content } =
          g.granted
          ∙ (λ i. record { ask = Work (work.Lock g.mode (sym q i) (sym p i)); reply = replies.Granted (copy_of (state K).copies (sym p i)).version (copy_of (state K).copies (sym p i)).content })
          ∙ (λ i. record { ask = Work (work.Lock g.mode t f); reply = replies.Granted (sym version i) (copy_of (state K).copies f).content }) in
          begins e K f t g.mode lock h o told (ap (λ (l : Lock). l.since) is)
      after g p q (Some was) o is ih =
          let grown : stronger was.mode lock.mode ≡ lock.mode =
          ap (λ (l : Lock). stronger was.mode l.mode) is ∙ stronger-again was.mode g.mode ∙ sym (ap (λ (l : Lock). l.mode) is) in
          goes_on e K f t was lock h (record { since = sym (ap (λ (l : Lock). l.since) is); version = sym (ap (λ (l : Lock). l.version) is); no_stronger = grown }) (ih was o)

      by : AreAmong (state (e ∷ K)).locks (state K).locks ⊎ IsGrant (suc (length K)) e (state K) (state (e ∷ K))
          → ((was : Lock) → fin.get (state K).locks (f, t) ≡ Some was → IsUnbroken (λ K. (state K).locks) K f t was) → IsUnbroken (λ K. (state K).locks) (e ∷ K) f t lock
      by (inl among) ih =
          let x = among f t lock h in
          let same : stronger (x.0).mode lock.mode ≡ lock.mode = ap (λ (m : Mode). stronger m lock.mode) x.2 ∙ stronger-itself lock.mode in
          goes_on e K f t x.0 lock h (record { since = x.3; version = x.4; no_stronger = same }) (ih x.0 x.1)
      by (inr g) ih =
          elim (g.each f t lock h) [
            | inl same ↦ goes_on e K f t lock lock h (hold_itself lock) (ih lock same)
            | inr k ↦ after g k.0 k.1 (fin.get (state K).locks (f, t)) refl k.2 ih
          ]

  -- ---- an open vote keeps its locks until it ends

  pub stand : (later earlier : List NodeEntry) → IsLegalNode s (later ++ earlier) → (t : ℕ) (vote : OpenVote) → fin.get (state earlier).votes t ≡ Some vote
      → ((d : ℕ) (verdict : Verdict) → length earlier < d → TakenAt (later ++ earlier) d t verdict → ⊥)
      → (fin.get (state (later ++ earlier)).votes t ≡ Some vote) × ((f : List ℕ) → fin.get (state (later ++ earlier)).locks (f, t) ≡ fin.get (state earlier).locks (f, t))
  stand [] earlier legal t vote h none = (h, λ f. refl)
  stand (e ∷ l) earlier legal t vote h none =
      let K = l ++ earlier in
      let long = length-append l earlier in
      let so_far = stand l earlier legal.1 t vote h (λ d verdict more at. none d verdict more (taken_old e (l ++ earlier) d t verdict at)) in
      elim ((frames e (l ++ earlier) legal).went t vote so_far.0) [
        | inl stays ↦
            let was = votes_own s state start frames (l ++ earlier) legal.1 t vote so_far.0 in
            let now = votes_own s state start frames (e ∷ (l ++ earlier)) legal t vote stays in
            (stays, λ f. owner_alike (state (l ++ earlier)).locks (state (e ∷ (l ++ earlier))).locks t vote was now f ∙ so_far.1 f)
        | inr ends ↦ absurd (none (suc (length (l ++ earlier))) ends.0 (omega arith) (record { cite = ends.1; entry = e; is_there = at-new e (l ++ earlier); is_inner = ends.2; taken = ends.4 }))
      ]

  -- ---- copies only rise

  pub rise : (later earlier : List NodeEntry) → IsLegalNode s (later ++ earlier) → (f : List ℕ)
      → (copy_of (state (later ++ earlier)).copies f ≡ copy_of (state earlier).copies f) ⊎ ((copy_of (state earlier).copies f).version < (copy_of (state (later ++ earlier)).copies f).version)
  rise [] earlier legal f = inl refl
  rise (e ∷ l) earlier legal f =
      elim ((frames e (l ++ earlier) legal).copies f) [
        | inl same ↦
            elim (rise l earlier legal.1 f) [
              | inl before ↦ inl (same ∙ before)
              | inr before ↦ let v = ap (λ (c : FileCopy). c.version) same in inr (omega arith)
            ]
        | inr up ↦
            let v = up.0 in
            elim (rise l earlier legal.1 f) [
              | inl before ↦ let w = ap (λ (c : FileCopy). c.version) before in inr (omega arith)
              | inr before ↦ inr (omega arith)
            ]
      ]
