-- What a server answers, and what it keeps.
use Rattle.std.specs.Prelude.{ℕ, Bool, true, false, not, ◌&&◌, nat_le, List, [], ◌∷◌, ◌++◌, map, filter, length, take, Option, Some, None, if◌then◌else◌}
use Rattle.std.specs.{List.find, Option.{option_map, option_map_or}, Ordering.is_lt}
use Rattle.std.specs.FinMap as fin
use Rattle.tq_store.specs.Copies.{Files, name_cmp, copy_of, copies_after_install, installed_all, is_newer}
use Rattle.tq_store.specs.declared.write.Write.{Write}
use Rattle.tq_locks.specs.Locks.{Locks, LockKey, is_exclusive, blocker, locks_after_grant, held_of, holds_nothing, locks_after_release, only_stable, locks_after_keep as stabilised_locks}
use Rattle.tq_locks.specs.declared.mode.{Lock.Lock, Mode.Mode}
use Rattle.tq_intents.specs.Kept.{Votes, kept_copies, kept_votes, kept_locks, vote_at, vote_records}
use Rattle.tq_intents.specs.declared.record.{KeptLock.KeptLock, OpenVote.OpenVote, Record.Record}
use Rattle.tq_intents.specs.declared.record.Record.TheVariants as stable
use Rattle.tq_asks.specs.{Verdicts.cites_vote, declared.ask.HeldLock.HeldLock, declared.ask.NodeAsk.NodeAsk}
use Rattle.tq_asks.specs.declared.ask.{NodeAsk.TheVariants.{Work, Crash, Return, CrashIn}, NodeRefusal.NodeRefusal}
use Rattle.tq_asks.specs.declared.ask.NodeRefusal.TheVariants.{Down, AlreadyUp, AlreadyDown, Held, Prepared, NotLocked, BadWrites, NotNewer, NothingHere}
use Rattle.tq_asks.specs.declared.ask.{NodeReply.NodeReply, Verdict.Verdict, WorkAsk.WorkAsk}
use Rattle.tq_asks.specs.declared.ask.NodeReply.TheVariants.{Granted, Yes, Installed, Discarded, Released, Copy, Refreshed, Crashed, Returned, Refused}
use Rattle.tq_asks.specs.declared.ask.WorkAsk.TheVariants.{Lock as LockAsk, Prepare, Decide, Release, Peek, Refresh}
use Rattle.tq_shape.specs.Journal.{refuse, refuse_for, state_at}

-- the raw records of a server: copies, at most one of a file; locks; open votes; down or not
pub record Records : Type 0 where
  pub copies : Files
  pub locks : Locks
  pub votes : Votes
  pub down : Bool

-- what a list of stable records stands for, in a server that is down
abbrev pub kept_records : List Record → Records
kept_records list = record { copies = kept_copies list; locks = kept_locks list; votes = kept_votes list; down = true }

-- ---- the words of the refusals

abbrev pub has_vote : Records → ℕ → Bool
has_vote old txn = fin.contains_key old.votes txn

abbrev pub holds_exclusively : Records → ℕ → List ℕ → Bool
holds_exclusively old txn file = option_map_or (λ lock. is_exclusive lock.mode) (fin.get old.locks (file, txn)) false

-- the first write whose file the transaction doesn't hold exclusively
abbrev pub not_locked : Records → ℕ → List Write → Option (List ℕ)
not_locked old txn writes = option_map (λ write. write.file) (find (λ write. not (holds_exclusively old txn write.file)) writes)

abbrev pub files_rise : List Write → Bool
files_rise [] = true
files_rise (first ∷ []) = true
files_rise (first ∷ second ∷ rest) = is_lt (name_cmp first.file second.file) && files_rise (second ∷ rest)

abbrev pub are_good_writes : List Write → Bool
are_good_writes writes = nat_le (length writes) 64 && files_rise writes

-- ---- the refusals, in order

abbrev pub lock_refusal : Records → ℕ → List ℕ → Mode → Option NodeRefusal
lock_refusal old txn file mode = refuse (has_vote old txn) Prepared (refuse_for (blocker old.locks file txn mode) Held None)

abbrev pub prepare_refusal : Records → ℕ → List Write → Option NodeRefusal
prepare_refusal old txn writes =
    refuse (has_vote old txn) Prepared
    (refuse (not (are_good_writes writes)) BadWrites
    (refuse_for (not_locked old txn writes) NotLocked
    (refuse (holds_nothing old.locks txn) NothingHere None)))

abbrev pub release_refusal : Records → ℕ → Option NodeRefusal
release_refusal old txn = refuse (has_vote old txn) Prepared (refuse (holds_nothing old.locks txn) NothingHere None)

abbrev pub work_refusal : Records → WorkAsk → Option NodeRefusal
work_refusal old (LockAsk mode txn file) = refuse old.down Down (lock_refusal old txn file mode)
work_refusal old (Prepare txn writes) = refuse old.down Down (prepare_refusal old txn writes)
work_refusal old (Decide txn verdict cite) = refuse old.down Down (refuse (not (has_vote old txn)) NothingHere None)
work_refusal old (Release txn) = refuse old.down Down (release_refusal old txn)
work_refusal old (Peek file) = refuse old.down Down None
work_refusal old (Refresh file version content from) = refuse old.down Down (refuse (nat_le version (copy_of old.copies file).version) NotNewer None)

abbrev pub refusal : Records → NodeAsk → Option NodeRefusal
refusal old (Work ask) = work_refusal old ask
refusal old Crash = refuse old.down AlreadyDown None
refusal old Return = refuse (not old.down) AlreadyUp None
refusal old (CrashIn after ask) = refuse old.down AlreadyDown None

-- ---- the answers

abbrev pub open_vote : Records → ℕ → OpenVote
open_vote old txn = vote_at old.votes txn

-- the writes that the verdict installs
abbrev pub installs : ℕ → Records → ℕ → Verdict → Bool
installs server old txn verdict = cites_vote verdict server (open_vote old txn).number

abbrev pub held_lock : LockKey × Lock → HeldLock
held_lock entry = record { file = entry.0.0; mode = entry.1.mode; since = entry.1.since }

abbrev pub kept_lock : LockKey × Lock → KeptLock
kept_lock entry = record { file = entry.0.0; mode = entry.1.mode; since = entry.1.since; version = entry.1.version }

-- the locks of a transaction, as a vote lists them
abbrev pub held_locks_of : Locks → ℕ → List HeldLock
held_locks_of locks txn = map held_lock (held_of locks txn)

-- the same, as a vote keeps them
abbrev pub kept_locks_of : Locks → ℕ → List KeptLock
kept_locks_of locks txn = map kept_lock (held_of locks txn)

-- those of the writes that are above the copies
abbrev pub newer_writes : Records → List Write → List Write
newer_writes old writes = filter (is_newer old.copies) writes

abbrev pub work_reply : ℕ → Records → WorkAsk → NodeReply
work_reply server old (LockAsk mode txn file) = Granted (copy_of old.copies file).version (copy_of old.copies file).content
work_reply server old (Prepare txn writes) = Yes (map held_lock (held_of old.locks txn)) writes
work_reply server old (Decide txn verdict cite) = if installs server old txn verdict then Installed else Discarded
work_reply server old (Release txn) = Released
work_reply server old (Peek file) = Copy (copy_of old.copies file).version (copy_of old.copies file).content
work_reply server old (Refresh file version content from) = Refreshed

abbrev pub reply_of : ℕ → Records → NodeAsk → NodeReply
reply_of server old (Work ask) = work_reply server old ask
reply_of server old Crash = Crashed
reply_of server old Return = Returned
reply_of server old (CrashIn after ask) = Crashed

-- ---- the records after

abbrev pub work_after : ℕ → Records → ℕ → WorkAsk → Records
work_after server old number (LockAsk mode txn file) = record old { locks = locks_after_grant old.locks file txn mode number (copy_of old.copies file).version }
work_after server old number (Prepare txn writes) =
    record old {
      locks = stabilised_locks old.locks txn;
      votes = fin.insert old.votes txn (record { number = number; writes = writes; locks = map kept_lock (held_of old.locks txn) });
    }
work_after server old number (Decide txn verdict cite) =
    record old {
      copies = if installs server old txn verdict then installed_all old.copies (open_vote old txn).writes else old.copies;
      locks = locks_after_release old.locks txn;
      votes = fin.remove old.votes txn;
    }
work_after server old number (Release txn) = record old { locks = locks_after_release old.locks txn }
work_after server old number (Peek file) = old
work_after server old number (Refresh file version content from) = record old { copies = copies_after_install old.copies file (record { version = version; content = content }) }

-- ---- the stable records that an ask writes, in order

abbrev pub work_writes : ℕ → Records → ℕ → WorkAsk → List Record
work_writes server old number (Prepare txn writes) =
    vote_records txn number writes (map kept_lock (held_of old.locks txn))
work_writes server old number (Decide txn verdict cite) =
    (if installs server old txn verdict then map stable.Copy (filter (is_newer old.copies) (open_vote old txn).writes) else [])
    ++ stable.Gone txn (open_vote old txn).number ∷ []
work_writes server old number (Refresh file version content from) = stable.Copy (record { file = file; version = version; content = content }) ∷ []
work_writes server old number other = []

-- the first so many of the records that an ask would write, none where it would be refused
abbrev pub stop_writes : ℕ → Records → ℕ → WorkAsk → ℕ → List Record
stop_writes server old number ask after = take after (state_at (work_refusal old ask) [] (work_writes server old number ask))

abbrev pub writes_of : ℕ → Records → ℕ → NodeAsk → List Record
writes_of server old number (Work ask) = work_writes server old number ask
writes_of server old number (CrashIn after ask) = stop_writes server old number ask after
writes_of server old number other = []

-- ---- the step

-- a server's records with its stable list
pub record NodeState : Type 0 where
  pub records : Records
  pub stable : List Record

abbrev pub records_after_crash : Records → Records
records_after_crash old = record old { locks = only_stable old.locks; down = true }

-- a stop leaves what the stable list keeps, with the records behind it that were written before the stop
abbrev pub records_after : ℕ → NodeState → ℕ → NodeAsk → Records
records_after server old number (Work ask) = work_after server old.records number ask
records_after server old number Crash = records_after_crash old.records
records_after server old number Return = record old.records { down = false }
records_after server old number (CrashIn after ask) = kept_records (old.stable ++ stop_writes server old.records number ask after)

abbrev pub answer_at : Option NodeRefusal → NodeReply → NodeReply
answer_at None reply = reply
answer_at (Some reason) reply = Refused reason

abbrev pub node_reply : ℕ → NodeState → NodeAsk → NodeReply
node_reply server old ask = answer_at (refusal old.records ask) (reply_of server old.records ask)

abbrev pub node_after : ℕ → NodeState → ℕ → NodeAsk → NodeState
node_after server old number ask =
    state_at (refusal old.records ask) old (record {
      records = records_after server old number ask;
      stable = old.stable ++ writes_of server old.records number ask;
    })
