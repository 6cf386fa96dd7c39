-- What a server leaves that stops in the midst of an ask, after some of its records.
use Rattle.std.{specs.{Prelude.take, Option.option_map_or}, proofs.lemmas.Bool.{true≢false, eq-eqb}}
use Rattle.std.proofs.Common.{◌≡◌, ℕ, suc, zero, ◌+◌, Bool, true, false, cond, List, [], ◌∷◌, ◌++◌, map, filter, Option, Some, None, refl, sym, ap, subst, ◌∙◌, ◌⊎◌, inl, inr, arith, append_assoc}
use Rattle.std.specs.FinMap as fin
use Rattle.tq_shape.{specs.Journal.{Has, state_at}, proofs.Places.{Has-map, Has-append, Has-filter}}
use Rattle.tq_store.specs.{Copies.{copy_of, installed_all, is_newer}, declared.write.Write.Write}
use Rattle.tq_locks.specs.{Locks.{Locks, LockKey, held_of, only_stable}, declared.mode.{Lock.Lock, Mode.Mode}}
use Rattle.tq_locks.proofs.Found.{locks_total, locks_same}
use Rattle.tq_intents.specs.declared.record.{KeptLock.KeptLock, OpenVote.OpenVote, Record.Record}
use Rattle.tq_intents.specs.declared.record.Record.TheVariants.{Copy, Intent, Keep, Prepared, Gone}
use Rattle.tq_intents.{specs.Kept.{is_dead, AreDead}, proofs.DeadRecords.kept_votes-dead}
use Rattle.tq_asks.specs.declared.ask.{NodeAsk.TheVariants.{Work, CrashIn}, NodeRefusal.NodeRefusal, Verdict.Verdict}
use Rattle.tq_asks.specs.{declared.ask.WorkAsk.WorkAsk, Verdicts.IsCited}
use Rattle.tq_asks.specs.declared.ask.NodeReply.TheVariants as replies
use Rattle.tq_asks.specs.declared.ask.WorkAsk.TheVariants as work
use Rattle.tq_node.specs.{NodeJournal.{NodeEntry, inner}, NodeLaws.is_refusal}
use Rattle.tq_node.specs.Records.{Records, NodeState, work_refusal, open_vote, installs, kept_lock, work_reply, work_after, work_writes, records_after_crash, records_after, stop_writes}
use Rattle.tq_node.proofs.{Installed.{retain-from, all-cases}, KeptLocks.only_stable-in, Frames.{IsRaised, Frame}}
use Rattle.tq_node.proofs.Sound.{above_greater, sound-crashed, sound-dead}
use Rattle.tq_node.proofs.StepFrames.{work_frame, calm_frame, owner_stays, left_retained, among_retained, is_prepare, is_telling, no_yes, no_tell}
use Rattle.tq_node.proofs.Recorded.{IsRecorded, recorded_kept, recorded_copies, work_recorded, the_vote}

abbrev pub is_lock : WorkAsk → Bool
is_lock (work.Lock m t f) = true
is_lock other = false

-- a Decide that was stopped after some of its copies
pub record IsPart (s : ℕ) (old : Records) (ask : WorkAsk) (part : List Write) : Type 0 where
  pub txn : ℕ
  pub verdict : Verdict
  pub cite : ℕ
  pub asked : ask ≡ work.Decide txn verdict cite
  pub vote : OpenVote
  pub is_open : fin.get old.votes txn ≡ Some vote
  pub is_cited : IsCited verdict s vote.number
  pub of_vote : (write : Write) → Has part write → Has vote.writes write

-- what a stop inside an ask leaves: as a crash before it, as a crash behind it, or a Decide's first copies
abbrev pub IsStopped : ℕ → ℕ → Records → WorkAsk → Records → Type 0
IsStopped s n old ask new =
    (new ≡ records_after_crash old)
    ⊎ (((work_refusal old ask ≡ None) × (is_lock ask ≡ false) × (new ≡ records_after_crash (work_after s old n ask)))
    ⊎ ((part : List Write) × IsPart s old ask part × (new ≡ records_after_crash (record old { copies = installed_all old.copies part }))))

-- the locks that a crash leaves
abbrev stable_key : Locks → LockKey → Bool
stable_key m key = option_map_or (λ (lock : Lock). lock.stable) (fin.get m key) false

-- of any entry for this work that neither votes nor tells
pub stop_frame : (s n : ℕ) (old new : Records) (ask : WorkAsk) (e : NodeEntry) → inner e.ask ≡ Some ask → is_prepare e.ask ≡ false → is_telling e.ask ≡ false → is_refusal e.reply ≡ false
    → IsStopped s n old ask new → Frame s n e old new
stop_frame s n old new ask e at plain quiet taken (inl is) =
    subst (λ (x : Records). Frame s n e old x) (sym is)
    (calm_frame s n e old (records_after_crash old) plain quiet (left_retained old.locks (stable_key old.locks)) refl refl
    (λ u vote v f lock g stable. only_stable-in old.locks (f, u) lock g stable))
stop_frame s n old new ask e at plain quiet taken (inr (inl is)) =
    subst (λ (x : Records). Frame s n e old x) (sym is.2) (behind (work_frame s n old ask (work_reply s old ask) is.0 refl))
  where
    behind : Frame s n (record { ask = Work ask; reply = work_reply s old ask }) old (work_after s old n ask)
        → Frame s n e old (records_after_crash (work_after s old n ask))
    behind h =
        record {
          locks =
              elim h.locks [
                | inl among ↦ inl (λ f t lock g. among f t lock (retain-from locks_total locks_same (work_after s old n ask).locks (stable_key (work_after s old n ask).locks) (f, t) lock g))
                | inr g ↦ absurd (not_lock g.txn g.file g.mode (ap (λ (x : NodeEntry). x.ask) g.granted))
              ];
          came = λ t vote v.
              elim (h.came t vote v) [
                | inl was ↦ inl was
                | inr new ↦ inr (new.0, at ∙ new.1)
              ];
          went = λ t vote v.
              elim (h.went t vote v) [
                | inl stays ↦ inl stays
                | inr ends ↦ inr (ends.0, ends.1, at ∙ ends.2, ends.3, taken)
              ];
          yes_of = no_yes s n e old (records_after_crash (work_after s old n ask)) plain;
          owns = λ o t vote v.
              owner_stays (work_after s old n ask).locks (only_stable (work_after s old n ask).locks) t vote
              (λ f lock g stable. only_stable-in (work_after s old n ask).locks (f, t) lock g stable)
              (λ f lock g. left_retained (work_after s old n ask).locks (stable_key (work_after s old n ask).locks) f t lock g)
              (h.owns o t vote v);
          copies = λ f.
              elim (h.copies f) [
                | inl same ↦ inl same
                | inr up ↦ inr (up.0, raised f up.1)
              ];
          tells = no_tell e old quiet;
        }
      where
        not_lock : (t : ℕ) (f : List ℕ) (m : Mode) → Work ask ≡ Work (work.Lock m t f) → ⊥
        not_lock t f m q =
            let a : ask ≡ work.Lock m t f = cc in
            true≢false (ap is_lock (sym a) ∙ is.1)

        raised : (f : List ℕ) → IsRaised s (record { ask = Work ask; reply = work_reply s old ask }) old f (copy_of (work_after s old n ask).copies f).version (copy_of (work_after s old n ask).copies f).content
            → IsRaised s e old f (copy_of (work_after s old n ask).copies f).version (copy_of (work_after s old n ask).copies f).content
        raised f (inl r) = inl (r.0, at ∙ r.1)
        raised f (inr r) = inr (r.0, r.1, r.2, r.3, at ∙ r.4, r.5, r.6, r.7)
stop_frame s n old new ask e at plain quiet taken (inr (inr is)) =
    subst (λ (x : Records). Frame s n e old x) (sym is.2) (halfway is.0 is.1)
  where
    halfway : (part : List Write) → IsPart s old ask part → Frame s n e old (records_after_crash (record old { copies = installed_all old.copies part }))
    halfway part p =
        record {
          locks = inl (among_retained old.locks (stable_key old.locks));
          came = λ t vote h. inl h;
          went = λ t vote h. inl h;
          yes_of = no_yes s n e old _ plain;
          owns = λ o t vote v.
              owner_stays old.locks (only_stable old.locks) t vote (λ f lock g stable. only_stable-in old.locks (f, t) lock g stable)
              (λ f lock g. left_retained old.locks (stable_key old.locks) f t lock g) (o t vote v);
          copies = λ f.
              elim (all-cases part old.copies f) [
                | inl same ↦ inl same
                | inr up ↦ inr (up.0, inr (p.txn, p.verdict, p.cite, p.vote, at ∙ ap (λ (x : WorkAsk). Some x) p.asked, p.is_cited, p.is_open, record { is_there = p.of_vote _ (up.1).is_there }))
              ];
          tells = no_tell e old quiet;
        }

-- ---- the first so many

take-empty : {A : Type 0} (k : ℕ) → ◌≡◌ {A = List A} (take k []) []
take-empty zero = refl
take-empty (suc k) = refl

Has-take : {A : Type 0} (k : ℕ) (xs : List A) (x : A) → Has (take k xs) x → Has xs x
Has-take zero xs x h = absurd h
Has-take (suc k) [] x h = absurd h
Has-take (suc k) (y ∷ xs) x (inl e) = inl e
Has-take (suc k) (y ∷ xs) x (inr h) = inr (Has-take k xs x h)

-- all of them, or those without the last
take-push : {A : Type 0} (k : ℕ) (xs : List A) (x : A) → (take k (xs ++ x ∷ []) ≡ xs ++ x ∷ []) ⊎ (take k (xs ++ x ∷ []) ≡ take k xs)
take-push zero xs x = inr refl
take-push (suc k) [] x = inl (ap (λ (r : List _). x ∷ r) (take-empty k))
take-push (suc k) (y ∷ xs) x =
    elim (take-push k xs x) [
      | inl e ↦ inl (ap (λ (r : List _). y ∷ r) e)
      | inr e ↦ inr (ap (λ (r : List _). y ∷ r) e)
    ]

take-map : {A B : Type 0} (f : A → B) (k : ℕ) (xs : List A) → take k (map f xs) ≡ map f (take k xs)
take-map f zero xs = refl
take-map f (suc k) [] = refl
take-map f (suc k) (x ∷ xs) = ap (λ (r : List _). f x ∷ r) (take-map f k xs)

-- ---- the records that a stop leaves

-- the state whose records the list is after a stop
record IsMid (s last : ℕ) (st : NodeState) (a : WorkAsk) (ws : List Record) : Type 0 where
  mid : Records
  recorded : IsRecorded (suc last) (record { records = mid; stable = st.stable ++ ws })
  outcome : (mid ≡ st.records)
      ⊎ (((work_refusal st.records a ≡ None) × (is_lock a ≡ false) × (mid ≡ work_after s st.records (suc last) a))
      ⊎ ((part : List Write) × IsPart s st.records a part × (mid ≡ record { copies = installed_all st.records.copies part; locks = st.records.locks; votes = st.records.votes; down = st.records.down })))

mid_moved : (s last : ℕ) (st : NodeState) (a : WorkAsk) (ws vs : List Record) → ws ≡ vs → IsMid s last st a vs → IsMid s last st a ws
mid_moved s last st a ws vs e h = subst (λ (x : List Record). IsMid s last st a x) (sym e) h

mid_dead : (s last : ℕ) (st : NodeState) (a : WorkAsk) (ws : List Record) → IsRecorded last st → AreDead (suc last) ws → IsMid s last st a ws
mid_dead s last st a ws h dead =
    let sound = h.sound in
    record {
      mid = st.records;
      recorded = record {
        sound = sound-dead st.stable last st.records.copies st.records.locks sound ws (suc last) (omega arith) dead;
        votes = h.votes ∙ sym (kept_votes-dead st.stable ws (suc last) (above_greater (last + 1) (suc last) st.stable (omega arith) sound.numbers) dead);
      };
      outcome = inl refl;
    }

mid_same : (s last : ℕ) (st : NodeState) (a : WorkAsk) → IsRecorded last st → IsMid s last st a []
mid_same s last st a h = mid_dead s last st a [] h (λ r k. absurd k)

mid_all : (s last : ℕ) (st : NodeState) (a : WorkAsk) → IsRecorded last st → work_refusal st.records a ≡ None → is_lock a ≡ false → IsMid s last st a (work_writes s st.records (suc last) a)
mid_all s last st a h none l = record { mid = work_after s st.records (suc last) a; recorded = work_recorded s last st a h none; outcome = inr (inl (none, l, refl)) }

mid_part : (s last : ℕ) (st : NodeState) (t : ℕ) (verdict : Verdict) (cite k : ℕ) (b : Bool) → installs s st.records t verdict ≡ b → IsRecorded last st → fin.get st.records.votes t ≡ Some (open_vote st.records t)
    → IsMid s last st (work.Decide t verdict cite) (take k (cond b (map Copy (filter (is_newer st.records.copies) (open_vote st.records t).writes)) []))
mid_part s last st t verdict cite k false e h is_open = mid_moved s last st _ _ [] (take-empty k) (mid_same s last st _ h)
mid_part s last st t verdict cite k true e h is_open =
    mid_moved s last st _ _ (map Copy part) (take-map Copy k (filter (is_newer st.records.copies) (open_vote st.records t).writes))
    (record {
      mid = record { copies = installed_all st.records.copies part; locks = st.records.locks; votes = st.records.votes; down = st.records.down };
      recorded = recorded_copies last st part h;
      outcome = inr (inr (part, record { txn = t; verdict = verdict; cite = cite; asked = refl; vote = open_vote st.records t; is_open = is_open; is_cited = e; of_vote = of_vote }, refl));
    })
  where
    part : List Write
    part = take k (filter (is_newer st.records.copies) (open_vote st.records t).writes)

    of_vote : (write : Write) → Has (take k (filter (is_newer st.records.copies) (open_vote st.records t).writes)) write → Has (open_vote st.records t).writes write
    of_vote write has =
        (Has-filter (is_newer st.records.copies) (open_vote st.records t).writes write
        (Has-take k (filter (is_newer st.records.copies) (open_vote st.records t).writes) write has)).0

-- the intents and locks of a vote
both_dead : (t n : ℕ) (w : List Write) (ks : List KeptLock) → AreDead n (map (Intent t n) w ++ map (Keep t n) ks)
both_dead t n w ks r h =
    elim (Has-append (map (Intent t n) w) (map (Keep t n) ks) r h) [
      | inl k ↦ let x = Has-map (Intent t n) w r k in subst (λ (z : Record). is_dead n z ≡ true) x.2 (eq-eqb n n refl)
      | inr k ↦ let x = Has-map (Keep t n) ks r k in subst (λ (z : Record). is_dead n z ≡ true) x.2 (eq-eqb n n refl)
    ]

mid_work : (s last : ℕ) (st : NodeState) (a : WorkAsk) (k : ℕ) → IsRecorded last st → work_refusal st.records a ≡ None → IsMid s last st a (take k (work_writes s st.records (suc last) a))
mid_work s last st (work.Lock m t f) k h none = mid_moved s last st _ _ [] (take-empty k) (mid_same s last st _ h)
mid_work s last st (work.Release t) k h none = mid_moved s last st _ _ [] (take-empty k) (mid_same s last st _ h)
mid_work s last st (work.Peek f) k h none = mid_moved s last st _ _ [] (take-empty k) (mid_same s last st _ h)
mid_work s last st (work.Refresh f v c from) k h none =
    elim (take-push k [] (Copy (record { file = f; version = v; content = c }))) [
      | inl e ↦ mid_moved s last st _ _ _ e (mid_all s last st (work.Refresh f v c from) h none refl)
      | inr e ↦ mid_moved s last st _ _ [] (e ∙ take-empty k) (mid_same s last st _ h)
    ]
mid_work s last st (work.Prepare t w) k h none =
    let ks : List KeptLock = map kept_lock (held_of st.records.locks t) in
    let A : List Record = map (Intent t (suc last)) w in
    let B : List Record = map (Keep t (suc last)) ks in
    let all : (A ++ B) ++ Prepared t (suc last) ∷ [] ≡ A ++ (B ++ Prepared t (suc last) ∷ []) = append_assoc A B (Prepared t (suc last) ∷ []) in
    elim (take-push k (A ++ B) (Prepared t (suc last))) [
      | inl e ↦ mid_moved s last st _ _ _ (ap (take k) (sym all) ∙ e ∙ all) (mid_all s last st (work.Prepare t w) h none refl)
      | inr e ↦ mid_moved s last st _ _ _ (ap (take k) (sym all) ∙ e) (mid_dead s last st (work.Prepare t w) (take k (A ++ B)) h (λ r x. both_dead t (suc last) w ks r (Has-take k (A ++ B) r x)))
    ]
mid_work s last st (work.Decide t verdict cite) k h none =
    elim (take-push k (cond (installs s st.records t verdict) (map Copy (filter (is_newer st.records.copies) (open_vote st.records t).writes)) []) (Gone t (open_vote st.records t).number)) [
      | inl e ↦ mid_moved s last st _ _ _ e (mid_all s last st (work.Decide t verdict cite) h none refl)
      | inr e ↦ mid_moved s last st _ _ _ e (mid_part s last st t verdict cite k (installs s st.records t verdict) refl h (the_vote st.records t none))
    ]

mid_of : (s last : ℕ) (st : NodeState) (a : WorkAsk) (k : ℕ) → IsRecorded last st → IsMid s last st a (take k (state_at (work_refusal st.records a) [] (work_writes s st.records (suc last) a)))
mid_of s last st a k h = by (work_refusal st.records a) refl
  where
    by : (o : Option NodeRefusal) → work_refusal st.records a ≡ o → IsMid s last st a (take k (state_at o [] (work_writes s st.records (suc last) a)))
    by None e = mid_work s last st a k h e
    by (Some r) e = mid_moved s last st a _ [] (take-empty k) (mid_same s last st a h)

-- what a stop leaves is one of the three
pub stop_is : (s last : ℕ) (st : NodeState) (a : WorkAsk) (k : ℕ) → IsRecorded last st → IsStopped s (suc last) st.records a (records_after s st (suc last) (CrashIn k a))
stop_is s last st a k h =
    let m = mid_of s last st a k h in
    let is = recorded_kept (suc last) _ m.recorded in
    elim m.outcome [
      | inl e ↦ inl (is ∙ ap records_after_crash e)
      | inr o ↦
          elim o [
            | inl e ↦ inr (inl (e.0, e.1, is ∙ ap records_after_crash e.2))
            | inr e ↦ inr (inr (e.0, e.1, is ∙ ap records_after_crash e.2))
          ]
    ]

-- and the records keep it
pub stop_recorded : (s last : ℕ) (st : NodeState) (a : WorkAsk) (k : ℕ) → IsRecorded last st → IsRecorded (suc last) (record { records = records_after s st (suc last) (CrashIn k a); stable = st.stable ++ stop_writes s st.records (suc last) a k })
stop_recorded s last st a k h =
    let ws : List Record = take k (state_at (work_refusal st.records a) [] (work_writes s st.records (suc last) a)) in
    let m = mid_of s last st a k h in
    let i = m.recorded in
    subst (λ (r : Records). IsRecorded (suc last) (record { records = r; stable = st.stable ++ take k (state_at (work_refusal st.records a) [] (work_writes s st.records (suc last) a)) }))
    (sym (recorded_kept (suc last) _ m.recorded))
    (record { sound = sound-crashed (st.stable ++ ws) (suc last) (m.mid).copies (m.mid).locks i.sound; votes = i.votes })

-- ---- the ask itself

pub stop_step_frame : (s last : ℕ) (st : NodeState) (a : WorkAsk) (k : ℕ) (e : NodeEntry) → e ≡ record { ask = CrashIn k a; reply = replies.Crashed } → IsRecorded last st
    → Frame s (suc last) e st.records (records_after s st (suc last) (CrashIn k a))
stop_step_frame s last st a k e is h =
    let asked = ap (λ (x : NodeEntry). x.ask) is in
    stop_frame s (suc last) st.records (records_after s st (suc last) (CrashIn k a)) a e
    (ap inner asked) (ap is_prepare asked) (ap is_telling asked) (ap (λ (x : NodeEntry). is_refusal x.reply) is) (stop_is s last st a k h)
