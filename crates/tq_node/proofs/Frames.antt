-- What one entry of a server's journal does to its records.
use Rattle.std.proofs.Common.{◌≡◌, ◌≢◌, ℕ, ◌≤◌, ◌<◌, false, List, map, Some, ◌⊎◌}
use Rattle.std.specs.FinMap as fin
use Rattle.tq_store.specs.{Copies.copy_of, declared.write.Write.Write}
use Rattle.tq_locks.specs.{Locks.{Locks, conflicts, lock_after}, declared.mode.Lock.Lock, declared.mode.Mode.Mode}
use Rattle.tq_locks.specs.declared.mode.Mode.TheVariants.{Exclusive}
use Rattle.tq_intents.specs.declared.record.OpenVote.{OpenVote}
use Rattle.tq_node.specs.{Records.Records, NodeJournal.{NodeEntry, inner, HasWrite}}
use Rattle.tq_node.specs.NodeLaws.{IsOwner, held_kept, is_refusal}
use Rattle.tq_asks.specs.{Verdicts.IsCited, declared.ask.{CitedVote.CitedVote, HeldLock.HeldLock, Verdict.Verdict}}
use Rattle.tq_asks.specs.declared.ask.NodeAsk.TheVariants.{Work}
use Rattle.tq_asks.specs.declared.ask.NodeReply.TheVariants as replies
use Rattle.tq_asks.specs.declared.ask.WorkAsk.TheVariants as work

-- the locks are among the earlier ones, but for their being stable
abbrev pub AreAmong : Locks → Locks → Type 0
AreAmong new old = (file : List ℕ) (t : ℕ) (lock : Lock) → fin.get new (file, t) ≡ Some lock
    → (was : Lock) × (fin.get old (file, t) ≡ Some was) × (was.mode ≡ lock.mode) × (was.since ≡ lock.since) × (was.version ≡ lock.version)

pub record IsGrant (number : ℕ) (e : NodeEntry) (old new : Records) : Type 0 where
  pub txn : ℕ
  pub file : List ℕ
  pub mode : Mode
  pub granted : e ≡ record { ask = Work (work.Lock mode txn file); reply = replies.Granted (copy_of old.copies file).version (copy_of old.copies file).content }
  pub free : (t : ℕ) (lock : Lock) → t ≢ txn → fin.get old.locks (file, t) ≡ Some lock → conflicts mode lock.mode ≡ false
  pub each : (f : List ℕ) (t : ℕ) (lock : Lock) → fin.get new.locks (f, t) ≡ Some lock
      → (fin.get old.locks (f, t) ≡ Some lock) ⊎ ((f ≡ file) × (t ≡ txn) × (lock ≡ lock_after (fin.get old.locks (f, t)) mode number (copy_of old.copies f).version))

abbrev pub VotesOwn : Records → Type 0
VotesOwn records = (t : ℕ) (vote : OpenVote) → fin.get records.votes t ≡ Some vote → IsOwner records.locks t vote

pub record IsYes (number t : ℕ) (asked : List Write) (held : List HeldLock) (writes : List Write) (old new : Records) : Type 0 where
  pub echoes : writes ≡ asked
  pub vote : OpenVote
  pub is_open : fin.get new.votes t ≡ Some vote
  pub numbered : vote.number ≡ number
  pub of_writes : vote.writes ≡ asked
  pub of_held : map held_kept vote.locks ≡ held
  pub exclusive : (f : List ℕ) (v : ℕ) (c : List ℕ) → HasWrite asked f v c → (lock : Lock) × (fin.get old.locks (f, t) ≡ Some lock) × (lock.mode ≡ Exclusive)

-- where a copy that an entry raised comes from
abbrev pub IsRaised : ℕ → NodeEntry → Records → List ℕ → ℕ → List ℕ → Type 0
IsRaised s e old file version content =
    ((from : CitedVote) × (inner e.ask ≡ Some (work.Refresh file version content from)))
    ⊎ ((t : ℕ) × (verdict : Verdict) × (cite : ℕ) × (vote : OpenVote) × (inner e.ask ≡ Some (work.Decide t verdict cite)) × IsCited verdict s vote.number
    × (fin.get old.votes t ≡ Some vote) × HasWrite vote.writes file version content)

abbrev pub Tells : NodeEntry → List ℕ → ℕ → List ℕ → Type 0
Tells e file version content =
    ((txn : ℕ) × (mode : Mode) × (e ≡ record { ask = Work (work.Lock mode txn file); reply = replies.Granted version content }))
    ⊎ (e ≡ record { ask = Work (work.Peek file); reply = replies.Copy version content })

pub record Frame (s number : ℕ) (e : NodeEntry) (old new : Records) : Type 0 where
  pub locks : AreAmong new.locks old.locks ⊎ IsGrant number e old new
  -- votes come by a Prepare and go by a Decide
  pub came : (t : ℕ) (vote : OpenVote) → fin.get new.votes t ≡ Some vote
      → (fin.get old.votes t ≡ Some vote) ⊎ ((vote.number ≡ number) × (inner e.ask ≡ Some (work.Prepare t vote.writes)))
  pub went : (t : ℕ) (vote : OpenVote) → fin.get old.votes t ≡ Some vote
      → (fin.get new.votes t ≡ Some vote)
      ⊎ ((verdict : Verdict) × (cite : ℕ) × (inner e.ask ≡ Some (work.Decide t verdict cite))
      × (IsCited verdict s vote.number → (f : List ℕ) (v : ℕ) (c : List ℕ) → HasWrite vote.writes f v c → v ≤ (copy_of new.copies f).version)
      × (is_refusal e.reply ≡ false))
  pub yes_of : (t : ℕ) (asked : List Write) (held : List HeldLock) (writes : List Write) → e ≡ record { ask = Work (work.Prepare t asked); reply = replies.Yes held writes }
      → IsYes number t asked held writes old new
  pub owns : VotesOwn old → VotesOwn new
  pub copies : (f : List ℕ) → (copy_of new.copies f ≡ copy_of old.copies f)
      ⊎ (((copy_of old.copies f).version < (copy_of new.copies f).version) × IsRaised s e old f (copy_of new.copies f).version (copy_of new.copies f).content)
  pub tells : (f : List ℕ) (v : ℕ) (c : List ℕ) → Tells e f v c → copy_of old.copies f ≡ record { version = v; content = c }
