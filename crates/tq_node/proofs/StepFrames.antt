-- What each ask of a server does to its records: the frames hold of its step.
use Rattle.std.specs.{Prelude.{◌==◌, not}, Cmp.nat_cmp_total, FinMap.nat_cmp-IsAntisymmetric, List.{find, filter}}
use Rattle.std.specs.Option.{option_map, option_map_or}
use Rattle.std.proofs.Common.{◌≡◌, ◌≢◌, ℕ, ◌≤◌, ◌<◌, Bool, true, false, cond, List, [], ◌∷◌, map, Option, Some, None, refl, sym, ap, subst, ◌∙◌, ◌⊎◌, inl, inr, arith}
use Rattle.std.proofs.lemmas.Bool.{cases_Bool, cond-true, false≢true, true≢false, and_from, eqb-true, ne_eqb, eq-eqb}
use Rattle.std.specs.FinMap as fin
use Rattle.tq_store.specs.{Copies.{Files, copy_of, installed_all}, declared.copies.FileCopy.FileCopy}
use Rattle.tq_store.{specs.declared.write.Write.Write, proofs.Padded.same_name-refl}
use Rattle.tq_locks.specs.Locks.{Locks, LockKey, conflicts, is_exclusive, lock_after, blocks, blocker, locks_after_grant, held_of, holds_nothing, locks_after_release, entry_after_keep, locks_after_keep}
use Rattle.tq_locks.specs.declared.mode.{Lock.Lock, Mode.Mode, Mode.TheVariants.{Shared, Exclusive}}
use Rattle.tq_locks.proofs.{Found.{locks_total, locks_same, entry_of, get-entry_of}, Locked.get-kept}
use Rattle.tq_intents.specs.{Kept.{Votes, stable_lock}, declared.record.{KeptLock.KeptLock, OpenVote.OpenVote}}
use Rattle.tq_node.specs.Records.{Records, has_vote, holds_exclusively, not_locked, are_good_writes, work_refusal, open_vote, installs, held_lock, kept_lock, work_reply, work_after, records_after_crash, answer_at}
use Rattle.tq_node.specs.NodeJournal.{NodeEntry, node_state, IsLegalNode, HasWrite}
use Rattle.tq_node.specs.NodeLaws.{IsOwner, held_kept, is_refusal}
use Rattle.tq_node.proofs.Frames.{AreAmong, IsYes, IsRaised, Tells, Frame}
use Rattle.tq_node.proofs.Installed.{insert-same, insert-other, insert-cases, remove-other, remove-cases, retain-from, installed-cases, all-low, all-cases}
use Rattle.tq_node.proofs.KeptLocks.{map-some, stabled, stabled-own, stabled-other, get-own, released-other, only_stable-in}
use Rattle.tq_asks.specs.{Verdicts.IsCited, declared.ask.{CitedVote.CitedVote, HeldLock.HeldLock, NodeAsk.NodeAsk}}
use Rattle.tq_asks.specs.declared.ask.{NodeRefusal.NodeRefusal, NodeAsk.TheVariants.{Work, Crash, Return}}
use Rattle.tq_asks.specs.declared.ask.{NodeReply.NodeReply, Verdict.Verdict, WorkAsk.WorkAsk}
use Rattle.tq_shape.specs.Journal.{refuse, refuse_for, refuse-none, refuse_for-none, Has}
use Rattle.tq_shape.proofs.Places.{none-Has, Has-map, map-Has, Has-filter, filter-Has}
use Rattle.tq_shape.proofs.Options.{none_of, some_of, map-none}
use Rattle.tq_asks.specs.declared.ask.NodeRefusal.TheVariants as refusals
use Rattle.tq_asks.specs.declared.ask.NodeReply.TheVariants as replies
use Rattle.tq_asks.specs.declared.ask.WorkAsk.TheVariants as work

exclusive_mode : (m : Mode) → is_exclusive m ≡ true → m ≡ Exclusive
exclusive_mode Exclusive h = refl
exclusive_mode Shared h = absurd (false≢true h)

-- ---- parts of frames that most asks share

-- the locks are among the earlier ones, unchanged
abbrev pub AreLeft : Locks → Locks → Type 0
AreLeft new old = (file : List ℕ) (t : ℕ) (lock : Lock) → fin.get new (file, t) ≡ Some lock → fin.get old (file, t) ≡ Some lock

pub among_left : (new old : Locks) → AreLeft new old → AreAmong new old
among_left new old left = λ f t lock h. (lock, left f t lock h, refl, refl, refl)

among_same : (m : Locks) → AreAmong m m
among_same m = λ f t lock h. (lock, h, refl, refl, refl)

abbrev pub is_prepare : NodeAsk → Bool
is_prepare (Work (work.Prepare t w)) = true
is_prepare other = false

abbrev pub is_telling : NodeAsk → Bool
is_telling (Work (work.Lock m t f)) = true
is_telling (Work (work.Peek f)) = true
is_telling other = false

pub no_yes : (s n : ℕ) (e : NodeEntry) (old new : Records) → is_prepare e.ask ≡ false
    → (t : ℕ) (asked : List Write) (held : List HeldLock) (writes : List Write) → e ≡ record { ask = Work (work.Prepare t asked); reply = replies.Yes held writes } → IsYes n t asked held writes old new
no_yes s n e old new p t asked held writes q = absurd (true≢false (ap (λ (x : NodeEntry). is_prepare x.ask) (sym q) ∙ p))

pub no_tell : (e : NodeEntry) (old : Records) → is_telling e.ask ≡ false → (f : List ℕ) (v : ℕ) (c : List ℕ) → Tells e f v c → copy_of old.copies f ≡ record { version = v; content = c }
no_tell e old p f v c (inl q) = absurd (true≢false (ap (λ (x : NodeEntry). is_telling x.ask) (sym q.2) ∙ p))
no_tell e old p f v c (inr q) = absurd (true≢false (ap (λ (x : NodeEntry). is_telling x.ask) (sym q) ∙ p))

-- the locks of a voter are stable
pub owner_stable : (locks : Locks) (t : ℕ) (vote : OpenVote) → IsOwner locks t vote → (f : List ℕ) (lock : Lock) → fin.get locks (f, t) ≡ Some lock → lock.stable ≡ true
owner_stable locks t vote h f lock g = sym (ap (λ (e : LockKey × Lock). e.1.stable) (h.only f lock g).2)

-- a vote goes on owning its locks where the stable ones of its transaction stay, and none comes
pub owner_stays : (a b : Locks) (t : ℕ) (vote : OpenVote) → ((f : List ℕ) (lock : Lock) → fin.get a (f, t) ≡ Some lock → lock.stable ≡ true → fin.get b (f, t) ≡ Some lock)
    → ((f : List ℕ) (lock : Lock) → fin.get b (f, t) ≡ Some lock → fin.get a (f, t) ≡ Some lock) → IsOwner a t vote → IsOwner b t vote
owner_stays a b t vote stays back h =
    record {
      held = λ k has. stays k.file (stable_lock t k).1 (h.held k has) refl;
      only = λ f lock g. h.only f lock (back f lock g);
      exclusive = λ f v c has.
          let o = h.exclusive f v c has in
          (o.0, stays f o.0 o.1 (owner_stable a t vote h f o.0 o.1), o.2);
    }

owner_same : (a b : Locks) (t : ℕ) (vote : OpenVote) → ((f : List ℕ) → fin.get b (f, t) ≡ fin.get a (f, t)) → IsOwner a t vote → IsOwner b t vote
owner_same a b t vote same h = owner_stays a b t vote (λ f lock g stable. same f ∙ g) (λ f lock g. sym (same f) ∙ g) h

-- ---- a refused ask

pub refused_frame : (s n : ℕ) (e : NodeEntry) (old : Records) (reason : NodeRefusal) → e.reply ≡ replies.Refused reason → Frame s n e old old
refused_frame s n e old reason is =
    record {
      locks = inl (among_same old.locks);
      came = λ t vote h. inl h;
      went = λ t vote h. inl h;
      yes_of = λ t asked held writes q. let r : Path NodeReply (replies.Refused reason) (replies.Yes held writes) = sym is ∙ ap (λ (x : NodeEntry). x.reply) q in absurd cc;
      owns = λ h. h;
      copies = λ f. inl refl;
      tells = told;
    }
  where
    told : (f : List ℕ) (v : ℕ) (c : List ℕ) → Tells e f v c → copy_of old.copies f ≡ record { version = v; content = c }
    told f v c (inl q) = let r : Path NodeReply (replies.Refused reason) (replies.Granted v c) = sym is ∙ ap (λ (x : NodeEntry). x.reply) q.2 in absurd cc
    told f v c (inr q) = let r : Path NodeReply (replies.Refused reason) (replies.Copy v c) = sym is ∙ ap (λ (x : NodeEntry). x.reply) q in absurd cc

-- ---- asks that change locks alone, and hold on to those of voters

pub calm_frame : (s n : ℕ) (e : NodeEntry) (old new : Records) → is_prepare e.ask ≡ false → is_telling e.ask ≡ false
    → AreLeft new.locks old.locks → new.votes ≡ old.votes → new.copies ≡ old.copies
    → ((t : ℕ) (vote : OpenVote) → fin.get old.votes t ≡ Some vote → (f : List ℕ) (lock : Lock) → fin.get old.locks (f, t) ≡ Some lock → lock.stable ≡ true → fin.get new.locks (f, t) ≡ Some lock)
    → Frame s n e old new
calm_frame s n e old new p q left votes copies stays =
    record {
      locks = inl (among_left new.locks old.locks left);
      came = λ t vote h. inl (ap (λ (m : Votes). fin.get m t) (sym votes) ∙ h);
      went = λ t vote h. inl (ap (λ (m : Votes). fin.get m t) votes ∙ h);
      yes_of = no_yes s n e old new p;
      owns = λ h t vote v.
          let was = ap (λ (m : Votes). fin.get m t) (sym votes) ∙ v in
          owner_stays old.locks new.locks t vote (stays t vote was) (λ f lock g. left f t lock g) (h t vote was);
      copies = λ f. inl (ap (λ (m : Files). copy_of m f) copies);
      tells = no_tell e old q;
    }

-- ---- Lock

lock_frame : (s n : ℕ) (old : Records) (t : ℕ) (f : List ℕ) (m : Mode) (r : NodeReply)
    → work_refusal old (work.Lock m t f) ≡ None → r ≡ work_reply s old (work.Lock m t f)
    → Frame s n (record { ask = Work (work.Lock m t f); reply = r }) old (work_after s old n (work.Lock m t f))
lock_frame s n old t f m r none reply =
    record {
      locks = inr (record { txn = t; file = f; mode = m; granted = λ i. record { ask = Work (work.Lock m t f); reply = reply i }; free = free; each = each });
      came = λ u vote h. inl h;
      went = λ u vote h. inl h;
      yes_of = no_yes s n _ old _ plain;
      owns = λ h u vote v.
          owner_same old.locks (locks_after_grant old.locks f t m n (copy_of old.copies f).version) u vote
          (λ g.
          insert-other locks_total locks_same old.locks (f, t) (lock_after (fin.get old.locks (f, t)) m n (copy_of old.copies f).version) (g, u)
          (λ e. let x : Path (Option OpenVote) None (Some vote) = sym no_vote ∙ ap (fin.get old.votes) (sym (ap (λ (key : LockKey). key.1) e)) ∙ v in cc))
          (h u vote v);
      copies = λ g. inl refl;
      tells = told;
    }
  where
    plain : is_prepare (Work (work.Lock m t f)) ≡ false
    plain = refl

    parts : (has_vote old t ≡ false) × (refuse_for (blocker old.locks f t m) refusals.Held None ≡ None)
    parts = refuse-none (has_vote old t) refusals.Prepared _ (refuse-none old.down refusals.Down _ none).1

    no_vote : fin.get old.votes t ≡ None
    no_vote = none_of (fin.get old.votes t) parts.0

    unblocked : find (blocks f t m) (fin.entries old.locks) ≡ None
    unblocked = map-none (λ (entry : LockKey × Lock). entry.0.1) _ (refuse_for-none (blocker old.locks f t m) refusals.Held None parts.1).0

    free : (u : ℕ) (lock : Lock) → u ≢ t → fin.get old.locks (f, u) ≡ Some lock → conflicts m lock.mode ≡ false
    free u lock ne h =
        elim (cases_Bool (conflicts m lock.mode)) [
          | inl c ↦ absurd (none-Has (blocks f t m) (fin.entries old.locks) unblocked ((f, u), lock) (entry_of locks_total locks_same old.locks (f, u) lock h)
              (and_from _ _ (and_from _ _ (same_name-refl f) (ap not (ne_eqb t u (λ e. ne (sym e))))) c))
          | inr c ↦ c
        ]

    each : (g : List ℕ) (u : ℕ) (lock : Lock) → fin.get (locks_after_grant old.locks f t m n (copy_of old.copies f).version) (g, u) ≡ Some lock
        → (fin.get old.locks (g, u) ≡ Some lock) ⊎ ((g ≡ f) × (u ≡ t) × (lock ≡ lock_after (fin.get old.locks (g, u)) m n (copy_of old.copies g).version))
    each g u lock h =
        elim (insert-cases locks_total locks_same old.locks (f, t) (lock_after (fin.get old.locks (f, t)) m n (copy_of old.copies f).version) (g, u) lock h) [
          | inl p ↦
              let back : (f, t) ≡ (g, u) = sym p.0 in
              inr (ap (λ (key : LockKey). key.0) p.0, ap (λ (key : LockKey). key.1) p.0, sym p.1 ∙ ap (λ (key : LockKey). lock_after (fin.get old.locks key) m n (copy_of old.copies key.0).version) back)
          | inr p ↦ inl p.1
        ]

    told : (g : List ℕ) (v : ℕ) (c : List ℕ) → Tells (record { ask = Work (work.Lock m t f); reply = r }) g v c → copy_of old.copies g ≡ record { version = v; content = c }
    told g v c (inl q) =
        let a : Path NodeAsk (Work (work.Lock m t f)) (Work (work.Lock q.1 q.0 g)) = ap (λ (x : NodeEntry). x.ask) q.2 in
        let b : Path NodeReply (replies.Granted (copy_of old.copies f).version (copy_of old.copies f).content) (replies.Granted v c) = sym reply ∙ ap (λ (x : NodeEntry). x.reply) q.2 in
        let fe : f ≡ g = cc in
        let ve : (copy_of old.copies f).version ≡ v = cc in
        let ce : (copy_of old.copies f).content ≡ c = cc in
        ap (copy_of old.copies) (sym fe) ∙ (λ i. record { version = ve i; content = ce i })
    told g v c (inr q) = let a : Path NodeAsk (Work (work.Lock m t f)) (Work (work.Peek g)) = ap (λ (x : NodeEntry). x.ask) q in absurd cc

-- ---- Prepare

-- the locks of other transactions stay
pub kept-other : (m : Locks) (t : ℕ) (f : List ℕ) (u : ℕ) → u ≢ t → fin.get (locks_after_keep m t) (f, u) ≡ fin.get m (f, u)
kept-other m t f u ne = get-kept m t (f, u) ∙ by (fin.get m (f, u))
  where
    by : (o : Option Lock) → option_map (λ (lock : Lock). (entry_after_keep t ((f, u), lock)).1) o ≡ o
    by None = refl
    by (Some lock) = ap (λ (l : Lock). Some l) (stabled-other lock (u == t) (ne_eqb u t ne))

among_kept : (m : Locks) (t : ℕ) → AreAmong (locks_after_keep m t) m
among_kept m t = λ f u lock h.
    let k = map-some (λ (lock : Lock). (entry_after_keep t ((f, u), lock)).1) (fin.get m (f, u)) lock (sym (get-kept m t (f, u)) ∙ h) in
    let is : stabled k.0 (u == t) ≡ lock = k.2 in
    (k.0, k.1, ap (λ (l : Lock). l.mode) is, ap (λ (l : Lock). l.since) is, ap (λ (l : Lock). l.version) is)

held_maps : (es : List (LockKey × Lock)) → map held_kept (map kept_lock es) ≡ map held_lock es
held_maps [] = refl
held_maps (e ∷ es) = ap (λ (rest : List HeldLock). held_lock e ∷ rest) (held_maps es)

exclusively : (o : Option Lock) → option_map_or (λ (lock : Lock). is_exclusive lock.mode) o false ≡ true → (lock : Lock) × (o ≡ Some lock) × (lock.mode ≡ Exclusive)
exclusively None h = absurd (false≢true h)
exclusively (Some lock) h = (lock, refl, exclusive_mode lock.mode h)

prepare_frame : (s n : ℕ) (old : Records) (t : ℕ) (w : List Write) (r : NodeReply)
    → work_refusal old (work.Prepare t w) ≡ None → r ≡ work_reply s old (work.Prepare t w)
    → Frame s n (record { ask = Work (work.Prepare t w); reply = r }) old (work_after s old n (work.Prepare t w))
prepare_frame s n old t w r none reply =
    record {
      locks = inl (among_kept old.locks t);
      came = λ u vote h.
          elim (insert-cases nat_cmp_total nat_cmp-IsAntisymmetric old.votes t new_vote u vote h) [
            | inl p ↦ inr (ap (λ (x : OpenVote). x.number) (sym p.1), λ i. Some (work.Prepare (sym p.0 i) (p.1 i).writes))
            | inr p ↦ inl p.1
          ];
      went = λ u vote h.
          inl (insert-other nat_cmp_total nat_cmp-IsAntisymmetric old.votes t new_vote u (λ e. let x : Path (Option OpenVote) None (Some vote) = sym no_vote ∙ ap (fin.get old.votes) (sym e) ∙ h in cc) ∙ h);
      yes_of = said;
      owns = λ h u vote v.
          elim (insert-cases nat_cmp_total nat_cmp-IsAntisymmetric old.votes t new_vote u vote v) [
            | inl p ↦ subst (λ (x : OpenVote). IsOwner (locks_after_keep old.locks t) u x) p.1 (subst (λ (x : ℕ). IsOwner (locks_after_keep old.locks t) x new_vote) (sym p.0) owned)
            | inr p ↦ owner_same old.locks (locks_after_keep old.locks t) u vote (λ f. kept-other old.locks t f u p.0) (h u vote p.1)
          ];
      copies = λ f. inl refl;
      tells = no_tell _ old plain;
    }
  where
    plain : is_telling (Work (work.Prepare t w)) ≡ false
    plain = refl

    new_vote : OpenVote
    new_vote = record { number = n; writes = w; locks = map kept_lock (held_of old.locks t) }

    parts : (has_vote old t ≡ false) × (refuse (not (are_good_writes w)) refusals.BadWrites (refuse_for (not_locked old t w) refusals.NotLocked (refuse (holds_nothing old.locks t) refusals.NothingHere None)) ≡ None)
    parts = refuse-none (has_vote old t) refusals.Prepared _ (refuse-none old.down refusals.Down _ none).1

    no_vote : fin.get old.votes t ≡ None
    no_vote = none_of (fin.get old.votes t) parts.0

    all_locked : not_locked old t w ≡ None
    all_locked = (refuse_for-none (not_locked old t w) refusals.NotLocked _ (refuse-none (not (are_good_writes w)) refusals.BadWrites _ parts.1).1).0

    exclusive : (f : List ℕ) (v : ℕ) (c : List ℕ) → HasWrite w f v c → (lock : Lock) × (fin.get old.locks (f, t) ≡ Some lock) × (lock.mode ≡ Exclusive)
    exclusive f v c has =
        elim (cases_Bool (holds_exclusively old t f)) [
          | inl x ↦ exclusively (fin.get old.locks (f, t)) x
          | inr x ↦ absurd (none-Has (λ (write : Write). not (holds_exclusively old t write.file)) w (map-none (λ (write : Write). write.file) _ all_locked) _ has.is_there (ap not x))
        ]

    said : (u : ℕ) (asked : List Write) (held : List HeldLock) (writes : List Write)
        → ◌≡◌ {A = NodeEntry} (record { ask = Work (work.Prepare t w); reply = r }) (record { ask = Work (work.Prepare u asked); reply = replies.Yes held writes })
        → IsYes n u asked held writes old (work_after s old n (work.Prepare t w))
    said u asked held writes q =
        let a : Path NodeAsk (Work (work.Prepare t w)) (Work (work.Prepare u asked)) = ap (λ (x : NodeEntry). x.ask) q in
        let b : Path NodeReply (replies.Yes (map held_lock (held_of old.locks t)) w) (replies.Yes held writes) = sym reply ∙ ap (λ (x : NodeEntry). x.reply) q in
        let te : t ≡ u = cc in
        let we : w ≡ asked = cc in
        let he : map held_lock (held_of old.locks t) ≡ held = cc in
        let ws : w ≡ writes = cc in
        record {
          echoes = sym ws ∙ we;
          vote = new_vote;
          is_open = ap (fin.get (fin.insert old.votes t new_vote)) (sym te) ∙ insert-same nat_cmp_total nat_cmp-IsAntisymmetric old.votes t new_vote;
          numbered = refl;
          of_writes = we;
          of_held = held_maps (held_of old.locks t) ∙ he;
          exclusive = λ f v c has.
              let x = exclusive f v c (subst (λ (z : List Write). HasWrite z f v c) (sym we) has) in
              (x.0, ap (λ (z : ℕ). fin.get old.locks (f, z)) (sym te) ∙ x.1, x.2);
        }

    own_entry : (entry : LockKey × Lock) → Has (held_of old.locks t) entry → fin.get (locks_after_keep old.locks t) ((kept_lock entry).file, t) ≡ Some (stable_lock t (kept_lock entry)).1
    own_entry entry has =
        let x = Has-filter (λ (entry : LockKey × Lock). entry.0.1 == t) (fin.entries old.locks) entry has in
        let g = get-entry_of locks_total locks_same old.locks entry x.0 in
        let of_t : entry.0.1 ≡ t = eqb-true entry.0.1 t x.1 in
        let at_t : fin.get old.locks (entry.0.0, t) ≡ Some entry.1 = ap (λ (z : ℕ). fin.get old.locks (entry.0.0, z)) (sym of_t) ∙ g in
        get-own old.locks t entry.0.0 entry.1 at_t

    own_only : (f : List ℕ) (lock : Lock) → fin.get (locks_after_keep old.locks t) (f, t) ≡ Some lock → (k : KeptLock) × Has (map kept_lock (held_of old.locks t)) k × (stable_lock t k ≡ ((f, t), lock))
    own_only f lock g =
        let x = map-some (λ (lock : Lock). (entry_after_keep t ((f, t), lock)).1) (fin.get old.locks (f, t)) lock (sym (get-kept old.locks t (f, t)) ∙ g) in
        let is = sym (stabled-own x.0 (t == t) (eq-eqb t t refl)) ∙ x.2 in
        let has = filter-Has (λ (entry : LockKey × Lock). entry.0.1 == t) (fin.entries old.locks) ((f, t), x.0) (entry_of locks_total locks_same old.locks (f, t) x.0 x.1) (eq-eqb t t refl) in
        (kept_lock ((f, t), x.0), map-Has kept_lock (held_of old.locks t) ((f, t), x.0) has, λ i. ((f, t), is i))

    owned : IsOwner (locks_after_keep old.locks t) t new_vote
    owned =
        record {
          held = λ k has.
              let x = Has-map kept_lock (held_of old.locks t) k has in
              subst (λ (z : KeptLock). fin.get (locks_after_keep old.locks t) (z.file, t) ≡ Some (stable_lock t z).1) x.2 (own_entry x.0 x.1);
          only = own_only;
          exclusive = λ f v c has.
              let x = exclusive f v c has in
              (record { mode = (x.0).mode; since = (x.0).since; version = (x.0).version; stable = true }, get-own old.locks t f x.0 x.1, x.2);
        }

-- ---- Decide and Release

pub left_retained : (m : Locks) (p : LockKey → Bool) → AreLeft (fin.retain_keys m p) m
left_retained m p = λ f t lock h. retain-from locks_total locks_same m p (f, t) lock h

pub among_retained : (m : Locks) (p : LockKey → Bool) → AreAmong (fin.retain_keys m p) m
among_retained m p = among_left (fin.retain_keys m p) m (left_retained m p)

pub open_vote-is : (old : Records) (t : ℕ) (vote : OpenVote) → fin.get old.votes t ≡ Some vote → open_vote old t ≡ vote
open_vote-is old t vote h = ap (λ (o : Option OpenVote). option_map_or (λ vote. vote) o (record { number = 0; writes = []; locks = [] })) h

decide_frame : (s n : ℕ) (old : Records) (t : ℕ) (verdict : Verdict) (k : ℕ) (r : NodeReply)
    → work_refusal old (work.Decide t verdict k) ≡ None → r ≡ work_reply s old (work.Decide t verdict k)
    → Frame s n (record { ask = Work (work.Decide t verdict k); reply = r }) old (work_after s old n (work.Decide t verdict k))
decide_frame s n old t verdict k r none reply =
    record {
      locks = inl (among_retained old.locks (λ (key : LockKey). not (key.1 == t)));
      came = λ u vote h. inl (remove-cases nat_cmp_total nat_cmp-IsAntisymmetric old.votes t u vote h).1;
      went = λ u vote h.
          elim (Rattle.std.proofs.lemmas.Bool.cases_eq u t) [
            | inl e ↦ inr (verdict, k, (λ i. Some (work.Decide (sym e i) verdict k)), ended vote (ap (fin.get old.votes) (sym e) ∙ h), ap is_refusal reply ∙ no_refusal (installs s old t verdict))
            | inr ne ↦ inl (remove-other nat_cmp_total nat_cmp-IsAntisymmetric old.votes t u ne ∙ h)
          ];
      yes_of = no_yes s n _ old _ plain;
      owns = λ h u vote v.
          let was = remove-cases nat_cmp_total nat_cmp-IsAntisymmetric old.votes t u vote v in
          owner_same old.locks (locks_after_release old.locks t) u vote (λ f. released-other old.locks t f u was.0) (h u vote was.1);
      copies = λ f. raised f (installs s old t verdict) refl;
      tells = no_tell _ old quiet;
    }
  where
    plain : is_prepare (Work (work.Decide t verdict k)) ≡ false
    plain = refl

    quiet : is_telling (Work (work.Decide t verdict k)) ≡ false
    quiet = refl

    no_refusal : (b : Bool) → is_refusal (cond b replies.Installed replies.Discarded) ≡ false
    no_refusal true = refl
    no_refusal false = refl

    found : (vote : OpenVote) × (fin.get old.votes t ≡ Some vote)
    found = some_of (fin.get old.votes t) (refuse-none (not (has_vote old t)) refusals.NothingHere _ (refuse-none old.down refusals.Down _ none).1).0

    after : Files
    after = cond (installs s old t verdict) (installed_all old.copies (open_vote old t).writes) old.copies

    ended : (vote : OpenVote) → fin.get old.votes t ≡ Some vote → IsCited verdict s vote.number → (f : List ℕ) (v : ℕ) (c : List ℕ) → HasWrite vote.writes f v c
        → v ≤ (copy_of (cond (installs s old t verdict) (installed_all old.copies (open_vote old t).writes) old.copies) f).version
    ended vote h cites f v c has =
        let is = open_vote-is old t vote h in
        let i : installs s old t verdict ≡ true = subst (λ (x : OpenVote). IsCited verdict s x.number) (sym is) cites in
        let low = all-low (open_vote old t).writes old.copies f v c (subst (λ (x : OpenVote). HasWrite x.writes f v c) (sym is) has) in
        subst (λ (m : Files). v ≤ (copy_of m f).version) (sym (cond-true (installs s old t verdict) (installed_all old.copies (open_vote old t).writes) old.copies i)) low

    raised : (f : List ℕ) (b : Bool) → installs s old t verdict ≡ b
        → (copy_of (cond b (installed_all old.copies (open_vote old t).writes) old.copies) f ≡ copy_of old.copies f)
        ⊎ (((copy_of old.copies f).version < (copy_of (cond b (installed_all old.copies (open_vote old t).writes) old.copies) f).version)
        × IsRaised s (record { ask = Work (work.Decide t verdict k); reply = r }) old f (copy_of (cond b (installed_all old.copies (open_vote old t).writes) old.copies) f).version (copy_of (cond b (installed_all old.copies (open_vote old t).writes) old.copies) f).content)
    raised f false e = inl refl
    raised f true e =
        elim (all-cases (open_vote old t).writes old.copies f) [
          | inl same ↦ inl same
          | inr up ↦ inr (up.0, inr (t, verdict, k, open_vote old t, refl, e, found.1 ∙ ap (λ (x : OpenVote). Some x) (sym (open_vote-is old t found.0 found.1)), up.1))
        ]

release_frame : (s n : ℕ) (old : Records) (t : ℕ) (r : NodeReply) → work_refusal old (work.Release t) ≡ None
    → Frame s n (record { ask = Work (work.Release t); reply = r }) old (work_after s old n (work.Release t))
release_frame s n old t r none =
    calm_frame s n _ old _ plain quiet (left_retained old.locks (λ (key : LockKey). not (key.1 == t))) refl refl
    (λ u vote v f lock g stable. released-other old.locks t f u (λ e. let x : Path (Option OpenVote) None (Some vote) = sym no_vote ∙ ap (fin.get old.votes) (sym e) ∙ v in cc) ∙ g)
  where
    plain : is_prepare (Work (work.Release t)) ≡ false
    plain = refl

    quiet : is_telling (Work (work.Release t)) ≡ false
    quiet = refl

    no_vote : fin.get old.votes t ≡ None
    no_vote = none_of (fin.get old.votes t) (refuse-none (has_vote old t) refusals.Prepared _ (refuse-none old.down refusals.Down _ none).1).0

-- ---- Peek and Refresh

peek_frame : (s n : ℕ) (old : Records) (f : List ℕ) (r : NodeReply) → r ≡ work_reply s old (work.Peek f)
    → Frame s n (record { ask = Work (work.Peek f); reply = r }) old old
peek_frame s n old f r reply =
    record {
      locks = inl (among_same old.locks);
      came = λ t vote h. inl h;
      went = λ t vote h. inl h;
      yes_of = no_yes s n _ old _ plain;
      owns = λ h. h;
      copies = λ g. inl refl;
      tells = told;
    }
  where
    plain : is_prepare (Work (work.Peek f)) ≡ false
    plain = refl

    told : (g : List ℕ) (v : ℕ) (c : List ℕ) → Tells (record { ask = Work (work.Peek f); reply = r }) g v c → copy_of old.copies g ≡ record { version = v; content = c }
    told g v c (inl q) = let a : Path NodeAsk (Work (work.Peek f)) (Work (work.Lock q.1 q.0 g)) = ap (λ (x : NodeEntry). x.ask) q.2 in absurd cc
    told g v c (inr q) =
        let a : Path NodeAsk (Work (work.Peek f)) (Work (work.Peek g)) = ap (λ (x : NodeEntry). x.ask) q in
        let b : Path NodeReply (replies.Copy (copy_of old.copies f).version (copy_of old.copies f).content) (replies.Copy v c) = sym reply ∙ ap (λ (x : NodeEntry). x.reply) q in
        let fe : f ≡ g = cc in
        let ve : (copy_of old.copies f).version ≡ v = cc in
        let ce : (copy_of old.copies f).content ≡ c = cc in
        ap (copy_of old.copies) (sym fe) ∙ (λ i. record { version = ve i; content = ce i })

refresh_frame : (s n : ℕ) (old : Records) (f : List ℕ) (v : ℕ) (c : List ℕ) (from : CitedVote) (r : NodeReply)
    → Frame s n (record { ask = Work (work.Refresh f v c from); reply = r }) old (work_after s old n (work.Refresh f v c from))
refresh_frame s n old f v c from r =
    record {
      locks = inl (among_same old.locks);
      came = λ t vote h. inl h;
      went = λ t vote h. inl h;
      yes_of = no_yes s n _ old _ plain;
      owns = λ h. h;
      copies = λ g.
          elim (installed-cases old.copies f (record { version = v; content = c }) g) [
            | inl same ↦ inl same
            | inr up ↦
                let ve = ap (λ (x : FileCopy). x.version) up.1 in
                let l = up.2 in
                inr (omega arith, inl (from, λ i. Some (work.Refresh (sym up.0 i) (sym up.1 i).version (sym up.1 i).content from)))
          ];
      tells = no_tell _ old quiet;
    }
  where
    plain : is_prepare (Work (work.Refresh f v c from)) ≡ false
    plain = refl

    quiet : is_telling (Work (work.Refresh f v c from)) ≡ false
    quiet = refl

-- ---- Crash and Return

pub crash_frame : (s n : ℕ) (old : Records) (r : NodeReply) → Frame s n (record { ask = Crash; reply = r }) old (records_after_crash old)
crash_frame s n old r =
    calm_frame s n _ old _ plain quiet (left_retained old.locks test) refl refl
    (λ u vote v f lock g stable. only_stable-in old.locks (f, u) lock g stable)
  where
    test : LockKey → Bool
    test key = option_map_or (λ (lock : Lock). lock.stable) (fin.get old.locks key) false

    plain : is_prepare Crash ≡ false
    plain = refl

    quiet : is_telling Crash ≡ false
    quiet = refl

pub return_frame : (s n : ℕ) (old : Records) (r : NodeReply) → Frame s n (record { ask = Return; reply = r }) old (record { copies = old.copies; locks = old.locks; votes = old.votes; down = false })
return_frame s n old r = calm_frame s n _ old _ plain quiet (λ f t lock h. h) refl refl (λ u vote v f lock g stable. g)
  where
    plain : is_prepare Return ≡ false
    plain = refl

    quiet : is_telling Return ≡ false
    quiet = refl

-- ---- work that isn't refused

pub work_frame : (s n : ℕ) (old : Records) (ask : WorkAsk) (r : NodeReply) → work_refusal old ask ≡ None → r ≡ work_reply s old ask → Frame s n (record { ask = Work ask; reply = r }) old (work_after s old n ask)
work_frame s n old (work.Lock m t f) r none reply = lock_frame s n old t f m r none reply
work_frame s n old (work.Prepare t w) r none reply = prepare_frame s n old t w r none reply
work_frame s n old (work.Decide t verdict k) r none reply = decide_frame s n old t verdict k r none reply
work_frame s n old (work.Release t) r none reply = release_frame s n old t r none
work_frame s n old (work.Peek f) r none reply = peek_frame s n old f r reply
work_frame s n old (work.Refresh f v c from) r none reply = refresh_frame s n old f v c from r

-- ---- what a Yes lists

yes_lists : (o : Option NodeRefusal) (held said : List HeldLock) (writes written : List Write) → ◌≡◌ {A = NodeReply} (replies.Yes held writes) (answer_at o (replies.Yes said written)) → held ≡ said
yes_lists None held said writes written h = cc
yes_lists (Some reason) held said writes written h = absurd cc

pub yes_held : (s : ℕ) (K : List NodeEntry) (t : ℕ) (asked : List Write) (held : List HeldLock) (writes : List Write)
    → IsLegalNode s (record { ask = Work (work.Prepare t asked); reply = replies.Yes held writes } ∷ K)
    → held ≡ map held_lock (held_of (node_state s K).records.locks t)
yes_held s K t asked held writes legal =
    yes_lists (work_refusal (node_state s K).records (work.Prepare t asked)) held (map held_lock (held_of (node_state s K).records.locks t)) writes asked legal.0

-- the locks of a transaction as they are listed
pub held_of-each : (locks : Locks) (t : ℕ) (item : HeldLock) → Has (map held_lock (held_of locks t)) item
    → (lock : Lock) × (fin.get locks (item.file, t) ≡ Some lock) × (lock.mode ≡ item.mode) × (lock.since ≡ item.since)
held_of-each locks t item has =
    let x = Has-map held_lock (held_of locks t) item has in
    let y = Has-filter (λ (entry : LockKey × Lock). entry.0.1 == t) (fin.entries locks) x.0 x.1 in
    let g = get-entry_of locks_total locks_same locks x.0 y.0 in
    let of_t : x.0.0.1 ≡ t = eqb-true x.0.0.1 t y.1 in
    let at_t : fin.get locks (x.0.0.0, t) ≡ Some x.0.1 = ap (λ (z : ℕ). fin.get locks (x.0.0.0, z)) (sym of_t) ∙ g in
    (x.0.1, ap (λ (z : HeldLock). fin.get locks (z.file, t)) (sym x.2) ∙ at_t, ap (λ (z : HeldLock). z.mode) x.2, ap (λ (z : HeldLock). z.since) x.2)

pub all-held_of : (locks : Locks) (t : ℕ) (f : List ℕ) (lock : Lock) → fin.get locks (f, t) ≡ Some lock
    → Has (map held_lock (held_of locks t)) (record { file = f; mode = lock.mode; since = lock.since })
all-held_of locks t f lock g =
    map-Has held_lock (held_of locks t) ((f, t), lock)
    (filter-Has (λ (entry : LockKey × Lock). entry.0.1 == t) (fin.entries locks) ((f, t), lock) (entry_of locks_total locks_same locks (f, t) lock g) (eq-eqb t t refl))
