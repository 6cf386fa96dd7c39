-- The laws of a server's journal, from the frames alone.
use Rattle.std.proofs.Common.{◌≡◌, ◌≢◌, ℕ, suc, ◌≤◌, ◌<◌, false, List, [], ◌∷◌, length, Option, Some, None, refl, sym, ap, subst, ◌∙◌, ◌⊎◌, inl, inr, arith}
use Rattle.std.proofs.lemmas.Bool.{true≢false}
use Rattle.std.specs.FinMap as fin
use Rattle.tq_store.specs.{Copies.{copy_of, copy_at}, declared.copies.FileCopy.FileCopy, declared.write.Write.Write}
use Rattle.tq_locks.specs.{Locks.{conflicts, stronger, lock_after, HasNoConflict}, declared.mode.Lock.Lock}
use Rattle.tq_locks.specs.declared.mode.{Mode.Mode, Mode.TheVariants.{Shared, Exclusive}}
use Rattle.tq_intents.specs.{Kept.stable_lock, declared.record.KeptLock.KeptLock, declared.record.OpenVote.OpenVote}
use Rattle.tq_node.specs.{Records.Records, NodeLaws.{HasOrigin, IsBase, held_kept, IsStanding, IsEnded, TakenAt}}
use Rattle.tq_node.specs.NodeJournal.{NodeEntry, IsLegalNode, inner, GrantAt, TellsAt, YesAt, InnerAt, DecisionAt, HasHeld, HasWrite}
use Rattle.tq_node.proofs.Frames.{AreAmong, IsGrant, VotesOwn, IsRaised, Tells, Frame}
use Rattle.tq_asks.specs.{Verdicts.IsCited, declared.ask.{HeldLock.HeldLock, Verdict.Verdict, WorkAsk.WorkAsk}}
use Rattle.tq_asks.specs.declared.ask.NodeAsk.{NodeAsk, TheVariants.Work}
use Rattle.tq_asks.specs.declared.ask.NodeReply.TheVariants as replies
use Rattle.tq_asks.specs.declared.ask.WorkAsk.TheVariants as work
use Rattle.tq_shape.{specs.Journal.Has, proofs.Places.{at-cases, at-old, at-new, at-bound, Has-map}}

-- ---- modes

conflicts-sym : (a b : Mode) → conflicts a b ≡ conflicts b a
conflicts-sym Shared Shared = refl
conflicts-sym Shared Exclusive = refl
conflicts-sym Exclusive Shared = refl
conflicts-sym Exclusive Exclusive = refl

conflicts-stronger : (a b m : Mode) → conflicts a m ≡ false → conflicts b m ≡ false → conflicts (stronger a b) m ≡ false
conflicts-stronger Shared b m p q = q
conflicts-stronger Exclusive b m p q = p

exclusive-conflicts : (a b : Mode) → a ≡ Exclusive → conflicts a b ≡ false → ⊥
exclusive-conflicts a b e h = true≢false (subst (λ (m : Mode). conflicts m b ≡ false) e h)

-- ---- what stands stays

inner_old : (e : NodeEntry) (K : List NodeEntry) (n : ℕ) (a : WorkAsk) → InnerAt K n a → InnerAt (e ∷ K) n a
inner_old e K n a at = record { entry = at.entry; is_there = at-old e K n at.entry at.is_there; is_inner = at.is_inner }

pub inner_new : (e : NodeEntry) (K : List NodeEntry) (a : WorkAsk) → inner e.ask ≡ Some a → InnerAt (e ∷ K) (suc (length K)) a
inner_new e K a h = record { entry = e; is_there = at-new e K; is_inner = h }

pub decision_old : (e : NodeEntry) (K : List NodeEntry) (d t : ℕ) (v : Verdict) → DecisionAt K d t v → DecisionAt (e ∷ K) d t v
decision_old e K d t v at = record { cite = at.cite; decides = inner_old e K d (work.Decide t v at.cite) at.decides }

pub taken_old : (e : NodeEntry) (K : List NodeEntry) (d t : ℕ) (v : Verdict) → TakenAt K d t v → TakenAt (e ∷ K) d t v
taken_old e K d t v at = record { cite = at.cite; entry = at.entry; is_there = at-old e K d at.entry at.is_there; is_inner = at.is_inner; taken = at.taken }

taken_decides : (K : List NodeEntry) (d t : ℕ) (v : Verdict) → TakenAt K d t v → DecisionAt K d t v
taken_decides K d t v at = record { cite = at.cite; decides = record { entry = at.entry; is_there = at.is_there; is_inner = at.is_inner } }

yes_cases : (e : NodeEntry) (K : List NodeEntry) (n t : ℕ) (h : List HeldLock) (w : List Write) → YesAt (e ∷ K) n t h w
    → ((n ≡ suc (length K)) × ((asked : List Write) × (e ≡ record { ask = Work (work.Prepare t asked); reply = replies.Yes h w }))) ⊎ YesAt K n t h w
yes_cases e K n t h w y =
    elim (at-cases e K n (record { ask = Work (work.Prepare t y.asked); reply = replies.Yes h w }) y.is_there) [
      | inl p ↦ inl (p.0, (y.asked, p.1))
      | inr q ↦ inr (record { asked = y.asked; is_there = q })
    ]

pub origin_later : (s : ℕ) (e : NodeEntry) (K : List NodeEntry) (b : ℕ) (b' : ℕ) (f : List ℕ) (v : ℕ) (c : List ℕ) → b ≤ b' → HasOrigin s K b f v c → HasOrigin s (e ∷ K) b' f v c
origin_later s e K b b' f v c l (inl z) = inl z
origin_later s e K b b' f v c l (inr (inl o)) =
    let less = o.2 in
    inr (inl (o.0, o.1, omega arith, inner_old e K o.0 (work.Refresh f v c o.1) o.3))
origin_later s e K b b' f v c l (inr (inr o)) =
    let less = o.5 in
    inr (inr (o.0, o.1, o.2, o.3, o.4, omega arith, decision_old e K o.0 o.1 o.2 o.6, o.7, inner_old e K o.3 (work.Prepare o.1 o.4) o.8, o.9))

module _ (s : ℕ) (state : List NodeEntry → Records)
    (start : state [] ≡ record { copies = fin.empty; locks = fin.empty; votes = fin.empty; down = false })
    (frames : (e : NodeEntry) (K : List NodeEntry) → IsLegalNode s (e ∷ K) → Frame s (suc (length K)) e (state K) (state (e ∷ K))) where
  no_vote : (t : ℕ) (vote : OpenVote) → fin.get (state []).votes t ≡ Some vote → ⊥
  no_vote t vote h = let n : Path (Option OpenVote) None (Some vote) = sym (ap (λ (r : Records). fin.get r.votes t) start ∙ fin.get-empty _ t) ∙ h in cc

  no_lock : (f : List ℕ) (t : ℕ) (lock : Lock) → fin.get (state []).locks (f, t) ≡ Some lock → ⊥
  no_lock f t lock h = let n : Path (Option Lock) None (Some lock) = sym (ap (λ (r : Records). fin.get r.locks (f, t)) start ∙ fin.get-empty _ (f, t)) ∙ h in cc

  no_copy : (f : List ℕ) → copy_of (state []).copies f ≡ record { version = 0; content = [] }
  no_copy f = ap (λ (r : Records). copy_of r.copies f) start ∙ ap copy_at (fin.get-empty _ f)

  copies_rise : (e : NodeEntry) (K : List NodeEntry) → IsLegalNode s (e ∷ K) → (f : List ℕ) → (copy_of (state K).copies f).version ≤ (copy_of (state (e ∷ K)).copies f).version
  copies_rise e K legal f =
      elim ((frames e K legal).copies f) [
        | inl same ↦ let v = ap (λ (c : FileCopy). c.version) same in omega arith
        | inr up ↦ let l = up.0 in omega arith
      ]

  -- ---- votes own their locks
  pub votes_own : (K : List NodeEntry) → IsLegalNode s K → VotesOwn (state K)
  votes_own [] legal = λ t vote h. absurd (no_vote t vote h)
  votes_own (e ∷ K) legal = (frames e K legal).owns (votes_own K legal.1)

  -- ---- lock exclusion
  granted_apart : (e : NodeEntry) (K : List NodeEntry) → IsGrant (suc (length K)) e (state K) (state (e ∷ K)) → HasNoConflict (state K).locks
      → (f : List ℕ) (t u : ℕ) (a b : Lock) → t ≢ u → fin.get (state (e ∷ K)).locks (f, t) ≡ Some a → fin.get (state K).locks (f, u) ≡ Some b → conflicts a.mode b.mode ≡ false
  granted_apart e K g ih f t u a b ne ha hb = by (g.each f t a ha)
    where
      free : f ≡ g.file → t ≡ g.txn → conflicts g.mode b.mode ≡ false
      free p q = g.free u b (λ r. ne (q ∙ sym r)) (subst (λ (x : List ℕ). fin.get (state K).locks (x, u) ≡ Some b) p hb)

      after : (o : Option Lock) → fin.get (state K).locks (f, t) ≡ o → f ≡ g.file → t ≡ g.txn → a ≡ lock_after o g.mode (suc (length K)) (copy_of (state K).copies f).version → conflicts a.mode b.mode ≡ false
      after None o p q is = ap (λ (l : Lock). conflicts l.mode b.mode) is ∙ free p q
      after (Some was) o p q is = ap (λ (l : Lock). conflicts l.mode b.mode) is ∙ conflicts-stronger was.mode g.mode b.mode (ih f t u was b ne o hb) (free p q)

      by : (fin.get (state K).locks (f, t) ≡ Some a) ⊎ ((f ≡ g.file) × (t ≡ g.txn) × (a ≡ lock_after (fin.get (state K).locks (f, t)) g.mode (suc (length K)) (copy_of (state K).copies f).version)) → conflicts a.mode b.mode ≡ false
      by (inl same) = ih f t u a b ne same hb
      by (inr k) = after (fin.get (state K).locks (f, t)) refl k.0 k.1 k.2

  pub exclusion : (K : List NodeEntry) → IsLegalNode s K → HasNoConflict (state K).locks
  exclusion [] legal = λ f t u a b ne ha hb. absurd (no_lock f t a ha)
  exclusion (e ∷ K) legal = by (frames e K legal).locks (exclusion K legal.1)
    where
      by : AreAmong (state (e ∷ K)).locks (state K).locks ⊎ IsGrant (suc (length K)) e (state K) (state (e ∷ K)) → HasNoConflict (state K).locks → HasNoConflict (state (e ∷ K)).locks
      by (inl among) ih = λ f t u a b ne ha hb.
          let x = among f t a ha in
          let y = among f u b hb in
          ap (λ (m : Mode). conflicts m b.mode) (sym x.2) ∙ ap (λ (m : Mode). conflicts (x.0).mode m) (sym y.2) ∙ ih f t u x.0 y.0 ne x.1 y.1
      by (inr g) ih = λ f t u a b ne ha hb.
          elim (g.each f u b hb) [
            | inl same ↦ granted_apart e K g ih f t u a b ne ha same
            | inr k ↦
                elim (g.each f t a ha) [
                  | inl same ↦ conflicts-sym a.mode b.mode ∙ granted_apart e K g ih f u t b a (λ r. ne (sym r)) hb same
                  | inr m ↦ absurd (ne (m.1 ∙ sym k.1))
                ]
          ]

  -- ---- vote entry
  pub vote_entry : (K : List NodeEntry) → IsLegalNode s K → (t : ℕ) (vote : OpenVote) → fin.get (state K).votes t ≡ Some vote → InnerAt K vote.number (work.Prepare t vote.writes)
  vote_entry [] legal t vote h = absurd (no_vote t vote h)
  vote_entry (e ∷ K) legal t vote h =
      elim ((frames e K legal).came t vote h) [
        | inl old ↦ inner_old e K vote.number _ (vote_entry K legal.1 t vote old)
        | inr new ↦ subst (λ (n : ℕ). InnerAt (e ∷ K) n (work.Prepare t vote.writes)) (sym new.0) (inner_new e K _ new.1)
      ]

  -- ---- vote fate
  pub fate : (K : List NodeEntry) → IsLegalNode s K → (n t : ℕ) (h : List HeldLock) (w : List Write) → YesAt K n t h w → IsStanding (state K).votes n t h w ⊎ IsEnded s K (state K).copies n t w
  fate [] legal n t h w y = let i = y.is_there in cc
  fate (e ∷ K) legal n t h w y =
      elim (yes_cases e K n t h w y) [
        | inl new ↦
            let k = (frames e K legal).yes_of t new.1.0 h w new.1.1 in
            inl (record { vote = k.vote; is_open = k.is_open; numbered = k.numbered ∙ sym new.0; of_held = k.of_held; of_writes = k.of_writes ∙ sym k.echoes })
        | inr old ↦ by (at-bound K n _ old.is_there) (fate K legal.1 n t h w old)
      ]
    where
      by : n ≤ length K → IsStanding (state K).votes n t h w ⊎ IsEnded s K (state K).copies n t w → IsStanding (state (e ∷ K)).votes n t h w ⊎ IsEnded s (e ∷ K) (state (e ∷ K)).copies n t w
      by low (inr k) =
          inr (record {
            decision = k.decision;
            verdict = k.verdict;
            later = k.later;
            decided = taken_old e K k.decision t k.verdict k.decided;
            installed = λ cites f v c has. let a = k.installed cites f v c has in let b = copies_rise e K legal f in omega arith;
          })
      by low (inl k) =
          elim ((frames e K legal).went t k.vote k.is_open) [
            | inl stays ↦ inl (record { vote = k.vote; is_open = stays; numbered = k.numbered; of_held = k.of_held; of_writes = k.of_writes })
            | inr ends ↦ inr (record {
              decision = suc (length K);
              verdict = ends.0;
              later = omega arith;
              decided = record { cite = ends.1; entry = e; is_there = at-new e K; is_inner = ends.2; taken = ends.4 };
              installed = λ cites f v c has. ends.3 (subst (λ (m : ℕ). IsCited ends.0 s m) (sym k.numbered) cites) f v c (subst (λ (x : List Write). HasWrite x f v c) (sym k.of_writes) has);
            })
          ]

  -- ---- lock base
  base_later : (e : NodeEntry) (K : List NodeEntry) → IsLegalNode s (e ∷ K) → (f : List ℕ) (t : ℕ) (lock : Lock) → IsBase K (state K).copies f t lock → IsBase (e ∷ K) (state (e ∷ K)).copies f t lock
  base_later e K legal f t lock b =
      record {
        low = let r = copies_rise e K legal f in let l = b.low in omega arith;
        grants = λ g m v c at since.
            elim (at-cases e K g _ at) [
              | inl p ↦
                  let told = (frames e K legal).tells f v c (inl (t, m, p.1)) in
                  let same = ap (λ (x : FileCopy). x.version) told in
                  let l = b.low in
                  omega arith
              | inr q ↦ b.grants g m v c q since
            ];
      }

  base_same : (K : List NodeEntry) (f : List ℕ) (t : ℕ) (a b : Lock) → a.since ≡ b.since → a.version ≡ b.version → IsBase K (state K).copies f t a → IsBase K (state K).copies f t b
  base_same K f t a b p q h =
      record {
        low = let l = h.low in omega arith;
        grants = λ g m v c at since. let l = h.grants g m v c at (omega arith) in omega arith;
      }

  pub base : (K : List NodeEntry) → IsLegalNode s K → (f : List ℕ) (t : ℕ) (lock : Lock) → fin.get (state K).locks (f, t) ≡ Some lock → IsBase K (state K).copies f t lock
  base [] legal f t lock h = absurd (no_lock f t lock h)
  base (e ∷ K) legal f t lock h = by (frames e K legal).locks (λ was k. base K legal.1 f t was k)
    where
      fresh : lock.since ≡ suc (length K) → lock.version ≡ (copy_of (state K).copies f).version → IsBase (e ∷ K) (state (e ∷ K)).copies f t lock
      fresh p q =
          record {
            low = let r = copies_rise e K legal f in omega arith;
            grants = λ g m v c at since.
                elim (at-cases e K g _ at) [
                  | inl k ↦
                      let told = (frames e K legal).tells f v c (inl (t, m, k.1)) in
                      let same = ap (λ (x : FileCopy). x.version) told in
                      omega arith
                  | inr k ↦ let b = at-bound K g _ k in absurd (omega arith)
                ];
          }

      after : (o : Option Lock) (m : Mode) → fin.get (state K).locks (f, t) ≡ o → lock ≡ lock_after o m (suc (length K)) (copy_of (state K).copies f).version
          → ((was : Lock) → fin.get (state K).locks (f, t) ≡ Some was → IsBase K (state K).copies f t was) → IsBase (e ∷ K) (state (e ∷ K)).copies f t lock
      after None m o is ih = fresh (ap (λ (l : Lock). l.since) is) (ap (λ (l : Lock). l.version) is)
      after (Some was) m o is ih = base_later e K legal f t lock (base_same K f t was lock (sym (ap (λ (l : Lock). l.since) is)) (sym (ap (λ (l : Lock). l.version) is)) (ih was o))

      by : AreAmong (state (e ∷ K)).locks (state K).locks ⊎ IsGrant (suc (length K)) e (state K) (state (e ∷ K)) → ((was : Lock) → fin.get (state K).locks (f, t) ≡ Some was → IsBase K (state K).copies f t was) → IsBase (e ∷ K) (state (e ∷ K)).copies f t lock
      by (inl among) ih = let x = among f t lock h in base_later e K legal f t lock (base_same K f t x.0 lock x.3 x.4 (ih x.0 x.1))
      by (inr g) ih =
          elim (g.each f t lock h) [
            | inl same ↦ base_later e K legal f t lock (ih lock same)
            | inr k ↦ after (fin.get (state K).locks (f, t)) g.mode refl k.2 ih
          ]

  -- ---- lock floor
  abbrev IsFloor : List NodeEntry → List ℕ → ℕ → Lock → Type 0
  IsFloor K f t1 lock = (t2 : ℕ) → t2 ≢ t1 → (n2 : ℕ) (h2 : List HeldLock) (w2 : List Write) → YesAt K n2 t2 h2 w2 → (v2 : ℕ) (c2 : List ℕ) → HasWrite w2 f v2 c2
      → ((d : ℕ) (verdict : Verdict) → DecisionAt K d t2 verdict → IsCited verdict s n2) → v2 ≤ lock.version

  floor : (K : List NodeEntry) → IsLegalNode s K → (f : List ℕ) (t1 : ℕ) (lock : Lock) → fin.get (state K).locks (f, t1) ≡ Some lock → IsFloor K f t1 lock
  floor [] legal f t1 lock h t2 ne n2 h2 w2 y v2 c2 has cites = absurd (no_lock f t1 lock h)
  floor (e ∷ K) legal f t1 lock h t2 ne n2 h2 w2 y v2 c2 has cites = by (frames e K legal).locks (λ was k old. floor K legal.1 f t1 was k t2 ne n2 h2 w2 old v2 c2 has earlier)
    where
      earlier : (d : ℕ) (verdict : Verdict) → DecisionAt K d t2 verdict → IsCited verdict s n2
      earlier d verdict at = cites d verdict (decision_old e K d t2 verdict at)

      -- t2's exclusive lock beside one of t1 that was there
      not_beside : (was : Lock) → fin.get (state K).locks (f, t1) ≡ Some was → (other : Lock) → fin.get (state K).locks (f, t2) ≡ Some other → other.mode ≡ Exclusive → ⊥
      not_beside was k other o x = exclusive-conflicts other.mode was.mode x (exclusion K legal.1 f t2 t1 other was ne o k)

      -- the lock was there
      known : (was : Lock) → fin.get (state K).locks (f, t1) ≡ Some was → (YesAt K n2 t2 h2 w2 → v2 ≤ was.version) → v2 ≤ was.version
      known was k ih =
          elim (yes_cases e K n2 t2 h2 w2 y) [
            | inl new ↦
                let q = (frames e K legal).yes_of t2 new.1.0 h2 w2 new.1.1 in
                let x = q.exclusive f v2 c2 (subst (λ (z : List Write). HasWrite z f v2 c2) q.echoes has) in
                absurd (not_beside was k x.0 x.1 x.2)
            | inr old ↦ ih old
          ]

      -- the lock is new
      fresh : (g : IsGrant (suc (length K)) e (state K) (state (e ∷ K))) → f ≡ g.file → t1 ≡ g.txn → v2 ≤ (copy_of (state K).copies f).version
      fresh g p q =
          elim (yes_cases e K n2 t2 h2 w2 y) [
            | inl new ↦
                let u : Path NodeAsk (Work (work.Lock g.mode g.txn g.file)) (Work (work.Prepare t2 new.1.0)) = ap (λ (x : NodeEntry). x.ask) (sym g.granted ∙ new.1.1) in
                cc
            | inr old ↦
                elim (fate K legal.1 n2 t2 h2 w2 old) [
                  | inl k ↦
                      let x = (votes_own K legal.1 t2 k.vote k.is_open).exclusive f v2 c2 (subst (λ (z : List Write). HasWrite z f v2 c2) (sym k.of_writes) has) in
                      let there = subst (λ (z : List ℕ). fin.get (state K).locks (z, t2) ≡ Some x.0) p x.1 in
                      absurd (exclusive-conflicts (x.0).mode g.mode x.2 (conflicts-sym (x.0).mode g.mode ∙ g.free t2 x.0 (λ r. ne (r ∙ sym q)) there))
                  | inr k ↦ k.installed (earlier k.decision k.verdict (taken_decides K k.decision t2 k.verdict k.decided)) f v2 c2 has
                ]
          ]

      after : (g : IsGrant (suc (length K)) e (state K) (state (e ∷ K))) → f ≡ g.file → t1 ≡ g.txn → (o : Option Lock) → fin.get (state K).locks (f, t1) ≡ o → lock ≡ lock_after o g.mode (suc (length K)) (copy_of (state K).copies f).version
          → ((was : Lock) → fin.get (state K).locks (f, t1) ≡ Some was → YesAt K n2 t2 h2 w2 → v2 ≤ was.version) → v2 ≤ lock.version
      after g p q None o is ih = let l = fresh g p q in let v = ap (λ (l : Lock). l.version) is in omega arith
      after g p q (Some was) o is ih = let l = known was o (ih was o) in let v = ap (λ (l : Lock). l.version) is in omega arith

      by : AreAmong (state (e ∷ K)).locks (state K).locks ⊎ IsGrant (suc (length K)) e (state K) (state (e ∷ K)) → ((was : Lock) → fin.get (state K).locks (f, t1) ≡ Some was → YesAt K n2 t2 h2 w2 → v2 ≤ was.version) → v2 ≤ lock.version
      by (inl among) ih = let x = among f t1 lock h in let l = known x.0 x.1 (ih x.0 x.1) in let v = x.4 in omega arith
      by (inr g) ih =
          elim (g.each f t1 lock h) [
            | inl same ↦ known lock same (ih lock same)
            | inr k ↦ after g k.0 k.1 (fin.get (state K).locks (f, t1)) refl k.2 ih
          ]

  -- ---- finished write seen
  pub finished_write_seen : (K : List NodeEntry) → IsLegalNode s K → (t1 t2 : ℕ) → t1 ≢ t2
      → (file : List ℕ) (n1 : ℕ) (h1 : List HeldLock) (w1 : List Write) (s1 : ℕ) → YesAt K n1 t1 h1 w1 → HasHeld h1 file s1
      → ((d : ℕ) (verdict : Verdict) → DecisionAt K d t1 verdict → ⊥)
      → (g1 : ℕ) (mode : Mode) (v1 : ℕ) (c1 : List ℕ) → GrantAt K g1 t1 file mode v1 c1 → s1 ≤ g1
      → (n2 : ℕ) (h2 : List HeldLock) (w2 : List Write) (v2 : ℕ) (c2 : List ℕ) → YesAt K n2 t2 h2 w2 → HasWrite w2 file v2 c2
      → ((d : ℕ) (verdict : Verdict) → DecisionAt K d t2 verdict → IsCited verdict s n2)
      → v2 ≤ v1
  finished_write_seen K legal t1 t2 ne file n1 h1 w1 s1 y1 held none g1 mode v1 c1 at_g1 later n2 h2 w2 v2 c2 y2 has cites =
      elim (fate K legal n1 t1 h1 w1 y1) [
        | inl k ↦ by k.vote k.is_open (Has-map held_kept (k.vote).locks held.lock (subst (λ (x : List HeldLock). Has x held.lock) (sym k.of_held) held.is_there))
        | inr k ↦ absurd (none k.decision k.verdict (taken_decides K k.decision t1 k.verdict k.decided))
      ]
    where
      by : (vote : OpenVote) → fin.get (state K).votes t1 ≡ Some vote → (x : KeptLock) × Has vote.locks x × (held_kept x ≡ held.lock) → v2 ≤ v1
      by vote is_open x =
          let lock : Lock = (stable_lock t1 x.0).1 in
          let on_file : (x.0).file ≡ file = ap (λ (l : HeldLock). l.file) x.2 ∙ held.on_file in
          let from : (x.0).since ≡ s1 = ap (λ (l : HeldLock). l.since) x.2 ∙ held.from in
          let there : fin.get (state K).locks (file, t1) ≡ Some lock = subst (λ (z : List ℕ). fin.get (state K).locks (z, t1) ≡ Some (stable_lock t1 x.0).1) on_file ((votes_own K legal t1 vote is_open).held x.0 x.1) in
          let a = (base K legal file t1 lock there).grants g1 mode v1 c1 at_g1 (omega arith) in
          let b = floor K legal file t1 lock there t2 (λ r. ne (sym r)) n2 h2 w2 y2 v2 c2 has cites in
          omega arith

  -- ---- a told copy has an origin
  abbrev CopiesFrom : List NodeEntry → Type 0
  CopiesFrom K = (f : List ℕ) → HasOrigin s K (suc (length K)) f (copy_of (state K).copies f).version (copy_of (state K).copies f).content

  pub copy_origin : (K : List NodeEntry) → IsLegalNode s K → CopiesFrom K
  copy_origin [] legal f = inl (ap (λ (c : FileCopy). c.version) (no_copy f), ap (λ (c : FileCopy). c.content) (no_copy f))
  copy_origin (e ∷ K) legal f = by ((frames e K legal).copies f) (copy_origin K legal.1 f)
    where
      raised : (v : ℕ) (c : List ℕ) → IsRaised s e (state K) f v c → HasOrigin s (e ∷ K) (suc (suc (length K))) f v c
      raised v c (inl r) = inr (inl (suc (length K), r.0, omega arith, inner_new e K _ r.1))
      raised v c (inr r) =
          inr (inr (
            suc (length K),
            r.0,
            r.1,
            (r.3).number,
            (r.3).writes,
            omega arith,
            record { cite = r.2; decides = inner_new e K _ r.4 },
            r.5,
            inner_old e K (r.3).number _ (vote_entry K legal.1 r.0 r.3 r.6),
            r.7,
          ))

      by : (copy_of (state (e ∷ K)).copies f ≡ copy_of (state K).copies f)
          ⊎ (((copy_of (state K).copies f).version < (copy_of (state (e ∷ K)).copies f).version) × IsRaised s e (state K) f (copy_of (state (e ∷ K)).copies f).version (copy_of (state (e ∷ K)).copies f).content)
          → HasOrigin s K (suc (length K)) f (copy_of (state K).copies f).version (copy_of (state K).copies f).content
          → HasOrigin s (e ∷ K) (suc (suc (length K))) f (copy_of (state (e ∷ K)).copies f).version (copy_of (state (e ∷ K)).copies f).content
      by (inl same) ih =
          subst (λ (x : FileCopy). HasOrigin s (e ∷ K) (suc (suc (length K))) f x.version x.content) (sym same) (origin_later s e K (suc (length K)) (suc (suc (length K))) f _ _ (omega arith) ih)
      by (inr up) ih = raised _ _ up.1

  tells_cases : (e : NodeEntry) (K : List NodeEntry) (p : ℕ) (f : List ℕ) (v : ℕ) (c : List ℕ) → TellsAt (e ∷ K) p f v c → ((p ≡ suc (length K)) × Tells e f v c) ⊎ TellsAt K p f v c
  tells_cases e K p f v c (inl k) =
      elim (at-cases e K p _ k.2) [
        | inl q ↦ inl (q.0, inl (k.0, k.1, q.1))
        | inr q ↦ inr (inl (k.0, k.1, q))
      ]
  tells_cases e K p f v c (inr k) =
      elim (at-cases e K p _ k) [
        | inl q ↦ inl (q.0, inr q.1)
        | inr q ↦ inr (inr q)
      ]

  pub told_origin : (K : List NodeEntry) → IsLegalNode s K → (p : ℕ) (f : List ℕ) (v : ℕ) (c : List ℕ) → TellsAt K p f v c → HasOrigin s K p f v c
  told_origin [] legal p f v c (inl k) = let n = k.2 in cc
  told_origin [] legal p f v c (inr k) = cc
  told_origin (e ∷ K) legal p f v c h =
      elim (tells_cases e K p f v c h) [
        | inl new ↦
            let is = (frames e K legal).tells f v c new.1 in
            let o = subst (λ (x : FileCopy). HasOrigin s K (suc (length K)) f x.version x.content) is (copy_origin K legal.1 f) in
            let same = new.0 in
            origin_later s e K (suc (length K)) p f v c (omega arith) o
        | inr old ↦ origin_later s e K p p f v c (omega arith) (told_origin K legal.1 p f v c old)
      ]

  -- ---- a Yes echoes its ask
  pub echoes : (K : List NodeEntry) → IsLegalNode s K → (n t : ℕ) (h : List HeldLock) (w : List Write) → (y : YesAt K n t h w) → w ≡ y.asked
  echoes [] legal n t h w y = let i = y.is_there in cc
  echoes (e ∷ K) legal n t h w y =
      elim (at-cases e K n _ y.is_there) [
        | inl p ↦ ((frames e K legal).yes_of t y.asked h w p.1).echoes
        | inr q ↦ echoes K legal.1 n t h w (record { asked = y.asked; is_there = q })
      ]
