-- The journal of a server, the newest entry first: what is legal, and what its entries say.
use Rattle.std.specs.Prelude.{◌≡◌, ℕ, true, false, List, [], Option, Some, None, ◌⊎◌}
use Rattle.std.specs.FinMap as fin
use Rattle.tq_shape.specs.{Journal.{state_after, IsLegal, entry_at, Has}, declared.part.Entry.Entry}
use Rattle.tq_store.specs.{Copies.Files, declared.write.Write.Write}
use Rattle.tq_locks.specs.{Locks.Locks, declared.mode.Mode.Mode}
use Rattle.tq_intents.specs.Kept.{Votes}
use Rattle.tq_asks.specs.declared.ask.{HeldLock.HeldLock, NodeAsk.NodeAsk, NodeReply.NodeReply, Verdict.Verdict}
use Rattle.tq_asks.specs.declared.ask.WorkAsk.{WorkAsk}
use Rattle.tq_asks.specs.declared.ask.NodeAsk.TheVariants as asks
use Rattle.tq_asks.specs.declared.ask.NodeReply.TheVariants as replies
use Rattle.tq_asks.specs.declared.ask.WorkAsk.TheVariants as work
use Rattle.tq_node.specs.Records.{NodeState, node_reply, node_after}

abbrev pub NodeEntry : Type 0
NodeEntry = Entry NodeAsk NodeReply

-- a server that is up and has stored nothing
abbrev pub nothing_stored : NodeState
nothing_stored = record { records = record { copies = fin.empty; locks = fin.empty; votes = fin.empty; down = false }; stable = [] }

-- what a server is after these entries
abbrev pub node_state : ℕ → List NodeEntry → NodeState
node_state server journal = state_after (node_after server) nothing_stored journal

-- each reply is the one that the server gives after the entries before it
abbrev pub IsLegalNode : ℕ → List NodeEntry → Type 0
IsLegalNode server journal = IsLegal (λ old number ask. node_reply server old ask) (node_after server) nothing_stored journal

abbrev pub copies_after : ℕ → List NodeEntry → Files
copies_after server journal = (node_state server journal).records.copies

abbrev pub locks_after : ℕ → List NodeEntry → Locks
locks_after server journal = (node_state server journal).records.locks

abbrev pub votes_after : ℕ → List NodeEntry → Votes
votes_after server journal = (node_state server journal).records.votes

-- the work that an ask is of, also where the server stops in the midst of it
abbrev pub inner : NodeAsk → Option WorkAsk
inner (asks.Work ask) = Some ask
inner asks.Crash = None
inner asks.Return = None
inner (asks.CrashIn after ask) = Some ask

-- ---- what the entry of a number says

-- it granted the lock, and told the copy
abbrev pub GrantAt : List NodeEntry → ℕ → ℕ → List ℕ → Mode → ℕ → List ℕ → Type 0
GrantAt journal number txn file mode version content =
    entry_at journal number ≡ Some (record { ask = asks.Work (work.Lock mode txn file); reply = replies.Granted version content })

-- it answered a peek with the copy
abbrev pub PeekAt : List NodeEntry → ℕ → List ℕ → ℕ → List ℕ → Type 0
PeekAt journal number file version content =
    entry_at journal number ≡ Some (record { ask = asks.Work (work.Peek file); reply = replies.Copy version content })

-- it told the copy, with a grant or to a peek
abbrev pub TellsAt : List NodeEntry → ℕ → List ℕ → ℕ → List ℕ → Type 0
TellsAt journal number file version content =
    ((txn : ℕ) × (mode : Mode) × GrantAt journal number txn file mode version content) ⊎ PeekAt journal number file version content

-- it gave a vote with these locks and writes
pub record YesAt (journal : List NodeEntry) (number txn : ℕ) (held : List HeldLock) (writes : List Write) : Type 0 where
  pub asked : List Write
  pub is_there : entry_at journal number ≡ Some (record { ask = asks.Work (work.Prepare txn asked); reply = replies.Yes held writes })

-- its ask is of this work, whatever the reply
pub record InnerAt (journal : List NodeEntry) (number : ℕ) (ask : WorkAsk) : Type 0 where
  pub entry : NodeEntry
  pub is_there : entry_at journal number ≡ Some entry
  pub is_inner : inner entry.ask ≡ Some ask

-- it brought the verdict on the transaction, whatever the reply
pub record DecisionAt (journal : List NodeEntry) (number txn : ℕ) (verdict : Verdict) : Type 0 where
  pub cite : ℕ
  pub decides : InnerAt journal number (work.Decide txn verdict cite)

-- ---- what a vote lists

-- a lock on the file, held since this entry
pub record HasHeld (held : List HeldLock) (file : List ℕ) (since : ℕ) : Type 0 where
  pub lock : HeldLock
  pub is_there : Has held lock
  pub on_file : lock.file ≡ file
  pub from : lock.since ≡ since

pub record HasWrite (writes : List Write) (file : List ℕ) (version : ℕ) (content : List ℕ) : Type 0 where
  pub is_there : Has writes (record { file = file; version = version; content = content })
