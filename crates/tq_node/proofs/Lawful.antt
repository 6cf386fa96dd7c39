-- What each entry does to a server's records, and that the stable records keep them, stops inside an ask among them.
-- The laws of a server, put together.
use Rattle.std.proofs.Common.{◌≡◌, ℕ, suc, true, false, List, [], ◌∷◌, length, Option, Some, None, refl, ap, arith, sym, subst}
use Rattle.tq_locks.specs.Locks.{only_stable}
use Rattle.tq_node.specs.NodeJournal.{NodeEntry, node_state, IsLegalNode, locks_after}
use Rattle.tq_node.specs.Records.{NodeState, answer_at, node_after, node_reply, refusal, work_refusal, work_reply, Records}
use Rattle.tq_node.specs.NodeLaws.{NodeLaws, LockLaws, VoteLaws, StableLaw, IsListOfHolds}
use Rattle.tq_node.proofs.{Sound.{sound-crashed, sound-opening}, Frames.Frame, Holds.{unbroken, stand, rise}}
use Rattle.tq_node.proofs.Recorded.{IsRecorded, recorded_same, recorded_table, work_recorded, recorded_kept}
use Rattle.tq_node.proofs.StepFrames.{crash_frame, refused_frame, return_frame, work_frame, yes_held, held_of-each, all-held_of}
use Rattle.tq_node.proofs.StopFrames.{stop_recorded, stop_step_frame}
use Rattle.tq_node.proofs.ServerLaws.{finished_write_seen, told_origin, echoes, exclusion, base, votes_own, vote_entry, fate, copy_origin}
use Rattle.tq_asks.specs.declared.ask.{NodeAsk.NodeAsk, NodeAsk.TheVariants.{Work, Crash, Return, CrashIn}}
use Rattle.tq_asks.specs.declared.ask.{NodeRefusal.NodeRefusal, NodeReply.NodeReply, HeldLock.HeldLock}
use Rattle.tq_asks.specs.declared.ask.NodeReply.TheVariants as replies
use Rattle.tq_shape.specs.Journal.{state_at, Has}
use Rattle.tq_store.specs.declared.write.Write.{Write}
use Rattle.tq_asks.specs.declared.ask.WorkAsk.TheVariants as work

-- ---- each journal, legal or not

picked_state : (last : ℕ) (st : NodeState) (o : Option NodeRefusal) (new : NodeState) → IsRecorded last st → (o ≡ None → IsRecorded (suc last) new) → IsRecorded (suc last) (state_at o st new)
picked_state last st None new h f = f refl
picked_state last st (Some r) new h f = recorded_same last (suc last) st (omega arith) h

step_recorded : (s last : ℕ) (st : NodeState) (ask : NodeAsk) → IsRecorded last st → IsRecorded (suc last) (node_after s st (suc last) ask)
step_recorded s last st (Work a) h = picked_state last st (work_refusal st.records a) _ h (λ none. work_recorded s last st a h none)
step_recorded s last st (CrashIn k a) h = picked_state last st (refusal st.records (CrashIn k a)) _ h (λ none. stop_recorded s last st a k h)
step_recorded s last st Crash h =
    picked_state last st (refusal st.records Crash) _ h (λ none. recorded_table last st (only_stable st.records.locks) true h (sound-crashed st.stable last st.records.copies st.records.locks h.sound))
step_recorded s last st Return h = picked_state last st (refusal st.records Return) _ h (λ none. recorded_table last st st.records.locks false h h.sound)

pub recorded : (s : ℕ) (K : List NodeEntry) → IsRecorded (length K) (node_state s K)
recorded s [] = record { sound = sound-opening; votes = refl }
recorded s (e ∷ K) = step_recorded s (length K) (node_state s K) e.ask (recorded s K)

-- ---- each entry

picked : (s n : ℕ) (e : NodeEntry) (old : NodeState) (o : Option NodeRefusal) (new : NodeState) (r : NodeReply) → e.reply ≡ answer_at o r
    → (o ≡ None → e.reply ≡ r → Frame s n e old.records new.records) → Frame s n e old.records (state_at o old new).records
picked s n e old None new r p f = f refl p
picked s n e old (Some reason) new r p f = refused_frame s n e old.records reason p

step_frame : (s last : ℕ) (old : NodeState) (ask : NodeAsk) (r : NodeReply) → IsRecorded last old → r ≡ node_reply s old ask
    → Frame s (suc last) (record { ask = ask; reply = r }) old.records (node_after s old (suc last) ask).records
step_frame s last old (Work a) r h legal = picked s (suc last) _ old (work_refusal old.records a) _ (work_reply s old.records a) legal (λ none reply. work_frame s (suc last) old.records a r none reply)
step_frame s last old Crash r h legal = picked s (suc last) _ old (refusal old.records Crash) _ replies.Crashed legal (λ none reply. crash_frame s (suc last) old.records r)
step_frame s last old Return r h legal = picked s (suc last) _ old (refusal old.records Return) _ replies.Returned legal (λ none reply. return_frame s (suc last) old.records r)
step_frame s last old (CrashIn k a) r h legal = picked s (suc last) _ old (refusal old.records (CrashIn k a)) _ replies.Crashed legal (λ none reply. stop_step_frame s last old a k (record { ask = CrashIn k a; reply = r }) (ap (λ (x : NodeReply). record { ask = CrashIn k a; reply = x }) reply) h)

pub frames : (s : ℕ) (e : NodeEntry) (K : List NodeEntry) → IsLegalNode s (e ∷ K) → Frame s (suc (length K)) e (node_state s K).records (node_state s (e ∷ K)).records
frames s e K legal = step_frame s (length K) (node_state s K) e.ask e.reply (recorded s K) legal.0

-- ---- lawful

-- the records after a journal
abbrev records : ℕ → List NodeEntry → Records
records s K = (node_state s K).records

pub node_laws : NodeLaws
node_laws = record {
  seen = λ s. finished_write_seen s (records s) refl (frames s);
  origin = λ s. told_origin s (records s) refl (frames s);
  echoes = λ s. echoes s (records s) refl (frames s);
}

pub lock_laws : LockLaws
lock_laws = record {
  apart = λ s. exclusion s (records s) refl (frames s);
  unbroken = λ s. unbroken s (records s) refl (frames s);
  base = λ s. base s (records s) refl (frames s);
  owned = λ s. votes_own s (records s) refl (frames s);
  stand = λ s. stand s (records s) refl (frames s);
}

lists : (s : ℕ) (K : List NodeEntry) (t : ℕ) (asked : List Write) (held : List HeldLock) (writes : List Write)
    → IsLegalNode s (record { ask = Work (work.Prepare t asked); reply = replies.Yes held writes } ∷ K) → IsListOfHolds (locks_after s) K t held
lists s K t asked held writes legal =
    let is = yes_held s K t asked held writes legal in
    record {
      each = λ item has.
          let x = held_of-each (locks_after s K) t item (subst (λ (list : List HeldLock). Has list item) is has) in
          (x.0, x.1, x.2, x.3, unbroken s (records s) refl (frames s) K legal.1 item.file t x.0 x.1);
      all = λ file lock g. subst (λ (list : List HeldLock). Has list (record { file = file; mode = lock.mode; since = lock.since })) (sym is) (all-held_of (locks_after s K) t file lock g);
    }

pub vote_laws : VoteLaws
vote_laws = record {
  asked = λ s. vote_entry s (records s) refl (frames s);
  lists = lists;
  fate = λ s. fate s (records s) refl (frames s);
  copies = λ s. copy_origin s (records s) refl (frames s);
  rise = λ s. rise s (records s) refl (frames s);
}

pub stable_law : StableLaw
stable_law s K = recorded_kept (length K) (node_state s K) (recorded s K)
