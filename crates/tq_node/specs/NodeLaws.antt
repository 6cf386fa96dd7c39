-- The laws of a server's journal. None of them takes a citation to be true.
use Rattle.std.specs.Prelude.{◌≡◌, ◌≢◌, ◌≤◌, ◌<◌, ℕ, suc, Bool, true, false, List, [], ◌∷◌, ◌++◌, map, length, Some, None, ◌⊎◌}
use Rattle.std.specs.FinMap as fin
use Rattle.tq_shape.specs.Journal.{Has, entry_at}
use Rattle.tq_store.specs.{Copies.{Files, copy_of}, declared.write.Write.Write}
use Rattle.tq_locks.specs.{Locks.{Locks, stronger, HasNoConflict}, declared.mode.Lock.Lock, declared.mode.Mode.Mode}
use Rattle.tq_locks.specs.declared.mode.Mode.TheVariants.{Exclusive}
use Rattle.tq_intents.specs.{Kept.{Votes, stable_lock}, declared.record.{KeptLock.KeptLock, OpenVote.OpenVote}}
use Rattle.tq_asks.specs.declared.ask.{CitedVote.CitedVote, HeldLock.HeldLock, NodeReply.NodeReply, Verdict.Verdict}
use Rattle.tq_asks.specs.Verdicts.{IsCited}
use Rattle.tq_asks.specs.declared.ask.NodeAsk.TheVariants as asks
use Rattle.tq_asks.specs.declared.ask.NodeReply.TheVariants as replies
use Rattle.tq_asks.specs.declared.ask.WorkAsk.TheVariants as work
use Rattle.tq_node.specs.Node.{IsKept}
use Rattle.tq_node.specs.NodeJournal.{NodeEntry, IsLegalNode, inner, node_state, copies_after, locks_after, votes_after, GrantAt, TellsAt, YesAt, InnerAt, DecisionAt, HasHeld, HasWrite}

-- ---- a decision that counts

abbrev pub is_refusal : NodeReply → Bool
is_refusal (replies.Refused reason) = true
is_refusal reply = false

-- the entry brought the verdict on the transaction, and the server took it: its reply is no refusal
pub record TakenAt (journal : List NodeEntry) (number txn : ℕ) (verdict : Verdict) : Type 0 where
  pub cite : ℕ
  pub entry : NodeEntry
  pub is_there : entry_at journal number ≡ Some entry
  pub is_inner : inner entry.ask ≡ Some (work.Decide txn verdict cite)
  pub taken : is_refusal entry.reply ≡ false

-- ---- the laws that the world's theorem takes, of the journal alone

-- the copy was never written, or came by an entry before this number: by a refresh that brought it,
-- or by a decision that cites a vote asked for with this write
abbrev pub HasOrigin : ℕ → List NodeEntry → ℕ → List ℕ → ℕ → List ℕ → Type 0
HasOrigin server journal before file version content =
    ((version ≡ 0) × (content ≡ []))
    ⊎ (((d : ℕ) × (from : CitedVote) × (d < before) × InnerAt journal d (work.Refresh file version content from))
    ⊎ ((d : ℕ) × (txn : ℕ) × (verdict : Verdict) × (number : ℕ) × (writes : List Write)
    × (d < before) × DecisionAt journal d txn verdict × IsCited verdict server number
    × InnerAt journal number (work.Prepare txn writes) × HasWrite writes file version content))

pub record NodeLaws : Type 0 where
  -- a finished write is seen: one transaction has voted with a lock on the file and isn't decided here; another one's vote
  -- writes the file, and all decisions on that one here cite the vote; then the write isn't above any copy that
  -- a grant of the first told within its hold
  pub seen : (server : ℕ) (journal : List NodeEntry) → IsLegalNode server journal → (t1 t2 : ℕ) → t1 ≢ t2
      → (file : List ℕ) (n1 : ℕ) (h1 : List HeldLock) (w1 : List Write) (s1 : ℕ) → YesAt journal n1 t1 h1 w1 → HasHeld h1 file s1
      → ((d : ℕ) (verdict : Verdict) → DecisionAt journal d t1 verdict → ⊥)
      → (g1 : ℕ) (mode : Mode) (v1 : ℕ) (c1 : List ℕ) → GrantAt journal g1 t1 file mode v1 c1 → s1 ≤ g1
      → (n2 : ℕ) (h2 : List HeldLock) (w2 : List Write) (v2 : ℕ) (c2 : List ℕ) → YesAt journal n2 t2 h2 w2 → HasWrite w2 file v2 c2
      → ((d : ℕ) (verdict : Verdict) → DecisionAt journal d t2 verdict → IsCited verdict server n2)
      → v2 ≤ v1
  -- a copy that is told has an origin before
  pub origin : (server : ℕ) (journal : List NodeEntry) → IsLegalNode server journal
      → (p : ℕ) (file : List ℕ) (version : ℕ) (content : List ℕ) → TellsAt journal p file version content → HasOrigin server journal p file version content
  -- a Yes has the writes that were asked
  pub echoes : (server : ℕ) (journal : List NodeEntry) → IsLegalNode server journal
      → (n txn : ℕ) (held : List HeldLock) (writes : List Write) → (yes_at : YesAt journal n txn held writes) → writes ≡ yes_at.asked

-- ---- the laws of its locks

-- an open vote owns its locks: each is held as the vote keeps it, and stable; its transaction has no other;
-- and it locks the file of each of its writes exclusively
pub record IsOwner (locks : Locks) (txn : ℕ) (vote : OpenVote) : Type 0 where
  pub held : (kept : KeptLock) → Has vote.locks kept → fin.get locks (kept.file, txn) ≡ Some (stable_lock txn kept).1
  pub only : (file : List ℕ) (lock : Lock) → fin.get locks (file, txn) ≡ Some lock → (kept : KeptLock) × Has vote.locks kept × (stable_lock txn kept ≡ ((file, txn), lock))
  pub exclusive : (file : List ℕ) (version : ℕ) (content : List ℕ) → HasWrite vote.writes file version content
      → (lock : Lock) × (fin.get locks (file, txn) ≡ Some lock) × (lock.mode ≡ Exclusive)

-- one hold of a file by a transaction, of which the first lock is the earlier: its mode may have grown stronger since
pub record IsSameHold (was lock : Lock) : Type 0 where
  pub since : was.since ≡ lock.since
  pub version : was.version ≡ lock.version
  pub no_stronger : stronger was.mode lock.mode ≡ lock.mode

-- the `since` of a lock is that of the first grant without a break; `locks` gives the locks after a journal
pub record IsUnbroken (locks : List NodeEntry → Locks) (journal : List NodeEntry) (file : List ℕ) (txn : ℕ) (lock : Lock) : Type 0 where
  -- the entry of that number granted it, and told the version that the lock notes
  pub first : (mode : Mode) × (content : List ℕ) × GrantAt journal lock.since txn file mode lock.version content
  -- before that entry the transaction had no lock on the file
  pub none_before : (later earlier : List NodeEntry) → journal ≡ later ++ earlier → suc (length earlier) ≡ lock.since
      → fin.get (locks earlier) (file, txn) ≡ None
  -- and from that entry on it had one at all times, of the same hold
  pub ever_since : (later earlier : List NodeEntry) → journal ≡ later ++ earlier → lock.since ≤ length earlier
      → (was : Lock) × (fin.get (locks earlier) (file, txn) ≡ Some was) × IsSameHold was lock

-- the version that a lock notes isn't above the copy, nor above what a grant of the same hold told
pub record IsBase (journal : List NodeEntry) (copies : Files) (file : List ℕ) (txn : ℕ) (lock : Lock) : Type 0 where
  pub low : lock.version ≤ (copy_of copies file).version
  pub grants : (number : ℕ) (mode : Mode) (version : ℕ) (content : List ℕ) → GrantAt journal number txn file mode version content
      → lock.since ≤ number → lock.version ≤ version

pub record LockLaws : Type 0 where
  -- no two locks are in conflict
  pub apart : (server : ℕ) (journal : List NodeEntry) → IsLegalNode server journal → HasNoConflict (locks_after server journal)
  pub unbroken : (server : ℕ) (journal : List NodeEntry) → IsLegalNode server journal
      → (file : List ℕ) (txn : ℕ) (lock : Lock) → fin.get (locks_after server journal) (file, txn) ≡ Some lock → IsUnbroken (locks_after server) journal file txn lock
  pub base : (server : ℕ) (journal : List NodeEntry) → IsLegalNode server journal
      → (file : List ℕ) (txn : ℕ) (lock : Lock) → fin.get (locks_after server journal) (file, txn) ≡ Some lock → IsBase journal (copies_after server journal) file txn lock
  pub owned : (server : ℕ) (journal : List NodeEntry) → IsLegalNode server journal
      → (txn : ℕ) (vote : OpenVote) → fin.get (votes_after server journal) txn ≡ Some vote → IsOwner (locks_after server journal) txn vote
  -- until a decision on its transaction is taken, a vote stays open and none of its locks is released, strengthened or lost, and none is added
  pub stand : (server : ℕ) (later earlier : List NodeEntry) → IsLegalNode server (later ++ earlier)
      → (txn : ℕ) (vote : OpenVote) → fin.get (votes_after server earlier) txn ≡ Some vote
      → ((d : ℕ) (verdict : Verdict) → length earlier < d → TakenAt (later ++ earlier) d txn verdict → ⊥)
      → (fin.get (votes_after server (later ++ earlier)) txn ≡ Some vote)
      × ((file : List ℕ) → fin.get (locks_after server (later ++ earlier)) (file, txn) ≡ fin.get (locks_after server earlier) (file, txn))

-- ---- the laws of its votes and copies

abbrev pub held_kept : KeptLock → HeldLock
held_kept lock = record { file = lock.file; mode = lock.mode; since = lock.since }

-- what a vote lists: each lock that its transaction holds then, since its first grant without a break, and no other
pub record IsListOfHolds (locks : List NodeEntry → Locks) (journal : List NodeEntry) (txn : ℕ) (held : List HeldLock) : Type 0 where
  pub each : (item : HeldLock) → Has held item
      → (lock : Lock) × (fin.get (locks journal) (item.file, txn) ≡ Some lock) × (lock.mode ≡ item.mode) × (lock.since ≡ item.since) × IsUnbroken locks journal item.file txn lock
  pub all : (file : List ℕ) (lock : Lock) → fin.get (locks journal) (file, txn) ≡ Some lock → Has held (record { file = file; mode = lock.mode; since = lock.since })

-- the vote that was given in this entry is open
pub record IsStanding (votes : Votes) (number txn : ℕ) (held : List HeldLock) (writes : List Write) : Type 0 where
  pub vote : OpenVote
  pub is_open : fin.get votes txn ≡ Some vote
  pub numbered : vote.number ≡ number
  pub of_held : map held_kept vote.locks ≡ held
  pub of_writes : vote.writes ≡ writes

-- the vote that was given in this entry was ended by a later decision that was taken; where that cites the vote, no write of it is above the copies
pub record IsEnded (server : ℕ) (journal : List NodeEntry) (copies : Files) (number txn : ℕ) (writes : List Write) : Type 0 where
  pub decision : ℕ
  pub verdict : Verdict
  pub later : number < decision
  pub decided : TakenAt journal decision txn verdict
  pub installed : IsCited verdict server number → (file : List ℕ) (version : ℕ) (content : List ℕ) → HasWrite writes file version content → version ≤ (copy_of copies file).version

pub record VoteLaws : Type 0 where
  -- each open vote was asked for in the entry of its number
  pub asked : (server : ℕ) (journal : List NodeEntry) → IsLegalNode server journal
      → (txn : ℕ) (vote : OpenVote) → fin.get (votes_after server journal) txn ≡ Some vote → InnerAt journal vote.number (work.Prepare txn vote.writes)
  -- a vote lists what its transaction holds when it is given
  pub lists : (server : ℕ) (earlier : List NodeEntry) (txn : ℕ) (asked : List Write) (held : List HeldLock) (writes : List Write)
      → IsLegalNode server (record { ask = asks.Work (work.Prepare txn asked); reply = replies.Yes held writes } ∷ earlier)
      → IsListOfHolds (locks_after server) earlier txn held
  -- a vote that was given is open or ended
  pub fate : (server : ℕ) (journal : List NodeEntry) → IsLegalNode server journal
      → (n txn : ℕ) (held : List HeldLock) (writes : List Write) → YesAt journal n txn held writes
      → IsStanding (votes_after server journal) n txn held writes ⊎ IsEnded server journal (copies_after server journal) n txn writes
  -- each copy has an origin
  pub copies : (server : ℕ) (journal : List NodeEntry) → IsLegalNode server journal → (file : List ℕ)
      → HasOrigin server journal (suc (length journal)) file (copy_of (copies_after server journal) file).version (copy_of (copies_after server journal) file).content
  -- copies only rise, and of one version there is one content
  pub rise : (server : ℕ) (later earlier : List NodeEntry) → IsLegalNode server (later ++ earlier) → (file : List ℕ)
      → (copy_of (copies_after server (later ++ earlier)) file ≡ copy_of (copies_after server earlier) file)
      ⊎ ((copy_of (copies_after server earlier) file).version < (copy_of (copies_after server (later ++ earlier)) file).version)

-- ---- the law of its stable records

-- at all times the stable records are those of the copies, the open votes and their locks
abbrev pub StableLaw : Type 0
StableLaw = (server : ℕ) (journal : List NodeEntry) → IsKept (node_state server journal)
