-- At all times the stable records of a server are those of its copies, its open votes and their locks.
use Rattle.std.{specs.{Prelude.not, Option.is_some}, proofs.lemmas.List.append-nil}
use Rattle.std.proofs.Common.{◌≡◌, ℕ, suc, ◌+◌, ◌≤◌, Bool, true, false, cond, List, [], ◌∷◌, ◌++◌, map, filter, Option, Some, None, refl, sym, ap, subst, ◌∙◌, arith, append_assoc}
use Rattle.std.specs.FinMap as fin
use Rattle.tq_store.specs.{Copies.{Files, installed_all, is_newer}, declared.write.Write.Write}
use Rattle.tq_locks.specs.Locks.{Locks, held_of, locks_after_release, only_stable}
use Rattle.tq_intents.specs.{Kept.{Votes, kept_votes, vote_at}, declared.record.KeptLock.KeptLock}
use Rattle.tq_intents.specs.declared.record.{OpenVote.OpenVote, Record.Record, Record.TheVariants.{Copy, Gone}}
use Rattle.tq_intents.proofs.Votes.{kept_votes-ended, kept_votes-given}
use Rattle.tq_asks.specs.declared.ask.{NodeRefusal.NodeRefusal, WorkAsk.WorkAsk}
use Rattle.tq_asks.specs.declared.ask.NodeRefusal.TheVariants as refusals
use Rattle.tq_asks.specs.declared.ask.WorkAsk.TheVariants as work
use Rattle.tq_node.{specs.Node.{IsKept, IsSound}, proofs.StepFrames.open_vote-is}
use Rattle.tq_node.specs.Records.{Records, NodeState, has_vote, work_refusal, open_vote, installs, kept_lock, work_after, work_writes}
use Rattle.tq_node.proofs.Sound.{above_greater, open_votes-copies, sound-later, sound-granted, sound-released, sound-copies, sound-newer, sound-prepared, sound-ended, sound-as, kept_is}
use Rattle.tq_shape.{specs.Journal.{refuse, refuse-none}, proofs.Options.{none_of, some_of}}

pub record IsRecorded (last : ℕ) (st : NodeState) : Type 0 where
  pub sound : IsSound st.stable last st.records.copies st.records.locks
  pub votes : st.records.votes ≡ kept_votes st.stable

pub recorded_kept : (last : ℕ) (st : NodeState) → IsRecorded last st → IsKept st
recorded_kept last st h =
    let v = h.votes in
    kept_is st.stable last st.records.copies st.records.locks h.sound st.records.down
    ∙ (λ i. record { copies = st.records.copies; locks = only_stable st.records.locks; votes = sym v i; down = true })

-- ---- nothing behind the list

pub recorded_same : (last n : ℕ) (st : NodeState) → last ≤ n → IsRecorded last st → IsRecorded n st
recorded_same last n st less h = record { sound = sound-later st.stable last st.records.copies st.records.locks h.sound n less; votes = h.votes }

pub recorded_table : (last : ℕ) (st : NodeState) (table : Locks) (down : Bool) → IsRecorded last st → IsSound st.stable last st.records.copies table
    → IsRecorded (suc last) (record { records = record { copies = st.records.copies; locks = table; votes = st.records.votes; down = down }; stable = st.stable ++ [] })
recorded_table last st table down h sound =
    record {
      sound = sound-as (sound-later st.stable last st.records.copies table sound (suc last) (omega arith)) (append-nil st.stable) refl refl;
      votes = h.votes ∙ ap kept_votes (sym (append-nil st.stable));
    }

-- ---- copies, a vote and a vote's end behind it

kept_votes-copies : (writes : List Write) (list : List Record) → kept_votes (list ++ map Copy writes) ≡ kept_votes list
kept_votes-copies writes list = ap (λ (es : List (ℕ × OpenVote)). fin.from_entries es) (open_votes-copies writes list)

pub recorded_copies : (last : ℕ) (st : NodeState) (writes : List Write) → IsRecorded last st
    → IsRecorded (suc last) (record { records = record { copies = installed_all st.records.copies writes; locks = st.records.locks; votes = st.records.votes; down = st.records.down }; stable = st.stable ++ map Copy writes })
recorded_copies last st writes h =
    record {
      sound = sound-later (st.stable ++ map Copy writes) last (installed_all st.records.copies writes) st.records.locks (sound-copies st.stable last st.records.copies st.records.locks h.sound writes) (suc last) (omega arith);
      votes = h.votes ∙ sym (kept_votes-copies writes st.stable);
    }

recorded_vote : (s last : ℕ) (st : NodeState) (t : ℕ) (writes : List Write) → IsRecorded last st → fin.get st.records.votes t ≡ None
    → IsRecorded (suc last) (record { records = work_after s st.records (suc last) (work.Prepare t writes); stable = st.stable ++ work_writes s st.records (suc last) (work.Prepare t writes) })
recorded_vote s last st t writes h none =
    let list = st.stable in
    let sound = h.sound in
    let ks : List KeptLock = map kept_lock (held_of st.records.locks t) in
    let closed : fin.get (kept_votes list) t ≡ None = ap (λ (m : Votes). fin.get m t) (sym h.votes) ∙ none in
    let below = above_greater (last + 1) (suc last) list (omega arith) sound.numbers in
    record {
      sound = sound-prepared list last st.records.copies st.records.locks sound t (suc last) writes (omega arith) closed;
      votes = ap (λ (m : Votes). fin.insert m t (record { number = suc last; writes = writes; locks = ks })) h.votes ∙ sym (kept_votes-given list t (suc last) writes ks below closed sound.one_each);
    }

recorded_end : (last : ℕ) (old : Records) (t : ℕ) (mid : List Record) (files : Files) → fin.get old.votes t ≡ Some (open_vote old t) → IsSound mid last files old.locks → old.votes ≡ kept_votes mid
    → IsRecorded (suc last) (record { records = record { copies = files; locks = locks_after_release old.locks t; votes = fin.remove old.votes t; down = old.down }; stable = mid ++ Gone t (open_vote old t).number ∷ [] })
recorded_end last old t mid files is_open sound votes =
    let there : fin.get (kept_votes mid) t ≡ Some (open_vote old t) = ap (λ (m : Votes). fin.get m t) (sym votes) ∙ is_open in
    let named : mid ++ Gone t (open_vote old t).number ∷ [] ≡ mid ++ Gone t (vote_at (kept_votes mid) t).number ∷ [] = ap (λ (m : Votes). mid ++ Gone t (vote_at m t).number ∷ []) votes in
    let ended = sound-ended mid last files old.locks sound t (ap is_some there) in
    record {
      sound = sound-as (sound-later (mid ++ Gone t (vote_at (kept_votes mid) t).number ∷ []) last files (locks_after_release old.locks t) ended (suc last) (omega arith)) named refl refl;
      votes = ap (λ (m : Votes). fin.remove m t) votes ∙ sym (kept_votes-ended mid t (open_vote old t) there sound.one_each);
    }

-- ---- each ask that is not refused

pub no_vote : (old : Records) (t : ℕ) (next : Option NodeRefusal) → refuse old.down refusals.Down (refuse (has_vote old t) refusals.Prepared next) ≡ None → fin.get old.votes t ≡ None
no_vote old t next none = none_of (fin.get old.votes t) (refuse-none (has_vote old t) refusals.Prepared next (refuse-none old.down refusals.Down _ none).1).0

pub the_vote : (old : Records) (t : ℕ) → refuse old.down refusals.Down (refuse (not (has_vote old t)) refusals.NothingHere None) ≡ None → fin.get old.votes t ≡ Some (open_vote old t)
the_vote old t none =
    let x = some_of (fin.get old.votes t) (refuse-none (not (has_vote old t)) refusals.NothingHere None (refuse-none old.down refusals.Down _ none).1).0 in
    x.1 ∙ ap (λ (v : OpenVote). Some v) (sym (open_vote-is old t x.0 x.1))

recorded_decide : (last : ℕ) (st : NodeState) (t : ℕ) (b : Bool) → IsRecorded last st → fin.get st.records.votes t ≡ Some (open_vote st.records t)
    → IsRecorded (suc last) (record {
      records = record { copies = cond b (installed_all st.records.copies (open_vote st.records t).writes) st.records.copies; locks = locks_after_release st.records.locks t; votes = fin.remove st.records.votes t; down = st.records.down };
      stable = st.stable ++ (cond b (map Copy (filter (is_newer st.records.copies) (open_vote st.records t).writes)) [] ++ Gone t (open_vote st.records t).number ∷ []);
    })
recorded_decide last st t false h is_open = recorded_end last st.records t st.stable st.records.copies is_open h.sound h.votes
recorded_decide last st t true h is_open =
    let writes = (open_vote st.records t).writes in
    let newer = filter (is_newer st.records.copies) writes in
    let files = installed_all st.records.copies writes in
    let more = Gone t (open_vote st.records t).number ∷ [] in
    subst (λ (list : List Record). IsRecorded (suc last) (record { records = record { copies = installed_all st.records.copies (open_vote st.records t).writes; locks = locks_after_release st.records.locks t; votes = fin.remove st.records.votes t; down = st.records.down }; stable = list }))
    (append_assoc st.stable (map Copy newer) more)
    (recorded_end last st.records t (st.stable ++ map Copy newer) files is_open (sound-newer st.stable last st.records.copies st.records.locks h.sound writes) (h.votes ∙ sym (kept_votes-copies newer st.stable)))

pub work_recorded : (s last : ℕ) (st : NodeState) (a : WorkAsk) → IsRecorded last st → work_refusal st.records a ≡ None
    → IsRecorded (suc last) (record { records = work_after s st.records (suc last) a; stable = st.stable ++ work_writes s st.records (suc last) a })
work_recorded s last st (work.Lock m t f) h none =
    let closed = ap (λ (x : Votes). fin.get x t) (sym h.votes) ∙ no_vote st.records t _ none in
    recorded_table last st _ st.records.down h (sound-granted st.stable last st.records.copies st.records.locks h.sound f t m (suc last) _ closed)
work_recorded s last st (work.Prepare t w) h none = recorded_vote s last st t w h (no_vote st.records t _ none)
work_recorded s last st (work.Decide t verdict cite) h none = recorded_decide last st t (installs s st.records t verdict) h (the_vote st.records t none)
work_recorded s last st (work.Release t) h none =
    let closed = ap (λ (x : Votes). fin.get x t) (sym h.votes) ∙ no_vote st.records t _ none in
    recorded_table last st _ st.records.down h (sound-released st.stable last st.records.copies st.records.locks h.sound t closed)
work_recorded s last st (work.Peek f) h none = recorded_table last st st.records.locks st.records.down h h.sound
work_recorded s last st (work.Refresh f v c from) h none = recorded_copies last st (record { file = f; version = v; content = c } ∷ []) h
