-- The step of a server as a relation by cases, one for each refusal and each answer.
use Rattle.std.specs.Prelude.{◌≡◌, ◌≢◌, ◌≤◌, ◌<◌, ℕ, true, false, List, [], ◌∷◌, ◌++◌, map, Some, None, IsSome}
use Rattle.std.specs.List.{AllByRecursion}
use Rattle.std.specs.FinMap as fin
use Rattle.tq_shape.specs.Journal.{Has}
use Rattle.tq_store.specs.{Copies.{copy_of, copies_after_install, installed_all}, declared.write.Write.Write}
use Rattle.tq_locks.specs.Locks.{conflicts, locks_after_grant, held_of, locks_after_release, only_stable, locks_after_keep}
use Rattle.tq_locks.specs.declared.mode.{Lock.Lock, Mode.Mode, Mode.TheVariants.Exclusive}
use Rattle.tq_intents.specs.declared.record.{OpenVote.OpenVote, Record.Record}
use Rattle.tq_asks.specs.declared.ask.{NodeAsk.NodeAsk, NodeAsk.TheVariants.{Work, Crash, Return, CrashIn}}
use Rattle.tq_asks.specs.declared.ask.{NodeRefusal.NodeRefusal, NodeReply.NodeReply, Verdict.Verdict}
use Rattle.tq_asks.specs.declared.ask.NodeRefusal.TheVariants.{Down, AlreadyUp, AlreadyDown, Held, Prepared, NotLocked, BadWrites, NotNewer, NothingHere}
use Rattle.tq_asks.specs.declared.ask.NodeReply.TheVariants.{Granted, Yes, Installed, Discarded, Released, Copy, Refreshed, Crashed, Returned, Refused}
use Rattle.tq_asks.specs.declared.ask.Verdict.TheVariants.{Abort, Commit}
use Rattle.tq_asks.specs.declared.ask.WorkAsk.TheVariants.{Lock as LockAsk, Prepare, Decide, Release, Peek, Refresh}
use Rattle.tq_node.specs.Node.{NodeView}
use Rattle.tq_node.specs.Records.{Records, held_lock, kept_lock, are_good_writes, kept_records, stop_writes}

-- no vote of the set is the transaction's
abbrev pub HasNoVote : Records → ℕ → Type 0
HasNoVote old txn = fin.get old.votes txn ≡ None

-- some lock of the set is the transaction's, on the file, in this mode
abbrev pub Holds : Records → ℕ → List ℕ → Mode → Type 0
Holds old txn file mode = (lock : Lock) × (fin.get old.locks (file, txn) ≡ Some lock) × (lock.mode ≡ mode)

-- some lock of the set is another transaction's, on the file, and conflicts
pub record Blocks (old : Records) (txn : ℕ) (file : List ℕ) (mode : Mode) (by : ℕ) : Type 0 where
  pub other : by ≢ txn
  pub lock : Lock
  pub is_there : fin.get old.locks (file, by) ≡ Some lock
  pub conflict : conflicts mode lock.mode ≡ true

abbrev pub HoldsNothing : Records → ℕ → Type 0
HoldsNothing old txn = held_of old.locks txn ≡ []

abbrev pub IsUp : Records → Type 0
IsUp old = old.down ≡ false

-- the ask is refused for this reason, and for none that stands before it
abbrev pub IsRefused : Records → NodeAsk → NodeRefusal → Type 0
IsRefused old (Work ask) Down = old.down ≡ true
IsRefused old (Work (LockAsk mode txn file)) Prepared = IsUp old × IsSome (fin.get old.votes txn)
IsRefused old (Work (LockAsk mode txn file)) (Held by) = IsUp old × HasNoVote old txn × Blocks old txn file mode by × ((t : ℕ) → Blocks old txn file mode t → by ≤ t)
IsRefused old (Work (Prepare txn writes)) Prepared = IsUp old × IsSome (fin.get old.votes txn)
IsRefused old (Work (Prepare txn writes)) BadWrites = IsUp old × HasNoVote old txn × (are_good_writes writes ≡ false)
IsRefused old (Work (Prepare txn writes)) (NotLocked file) = IsUp old × HasNoVote old txn × (are_good_writes writes ≡ true)
    × ((before : List Write) × (write : Write) × (after : List Write) × (writes ≡ before ++ write ∷ after) × (write.file ≡ file) × AllByRecursion (λ w. Holds old txn w.file Exclusive) before × ¬ Holds old txn file Exclusive)
IsRefused old (Work (Prepare txn writes)) NothingHere = IsUp old × HasNoVote old txn × (are_good_writes writes ≡ true) × AllByRecursion (λ w. Holds old txn w.file Exclusive) writes × HoldsNothing old txn
IsRefused old (Work (Decide txn verdict cite)) NothingHere = IsUp old × HasNoVote old txn
IsRefused old (Work (Release txn)) Prepared = IsUp old × IsSome (fin.get old.votes txn)
IsRefused old (Work (Release txn)) NothingHere = IsUp old × HasNoVote old txn × HoldsNothing old txn
IsRefused old (Work (Refresh file version content from)) NotNewer = IsUp old × (version ≤ (copy_of old.copies file).version)
IsRefused old Crash AlreadyDown = old.down ≡ true
IsRefused old Return AlreadyUp = old.down ≡ false
IsRefused old (CrashIn after ask) AlreadyDown = old.down ≡ true
IsRefused old ask reason = ⊥

-- the verdict is Commit and cites the vote
abbrev pub Cites : Verdict → ℕ → ℕ → Type 0
Cites Abort server number = ⊥
Cites (Commit votes) server number = Has votes (record { server = server; number = number })

-- a server's step: stable records, records, number, ask, reply and the records after
abbrev pub IsStep : ℕ → List Record → Records → ℕ → NodeAsk → NodeReply → Records → Type 0
IsStep server list old number ask (Refused reason) new = IsRefused old ask reason × (new ≡ old)
IsStep server list old number (Work (LockAsk mode txn file)) (Granted version content) new =
    IsUp old × HasNoVote old txn × ((t : ℕ) → ¬ Blocks old txn file mode t)
    × (copy_of old.copies file ≡ record { version = version; content = content })
    × (new ≡ record old { locks = locks_after_grant old.locks file txn mode number version })
IsStep server list old number (Work (Prepare txn writes)) (Yes held answered) new =
    IsUp old × HasNoVote old txn × (are_good_writes writes ≡ true) × AllByRecursion (λ w. Holds old txn w.file Exclusive) writes × ¬ HoldsNothing old txn
    × (held ≡ map held_lock (held_of old.locks txn)) × (answered ≡ writes)
    × (new ≡ record old { locks = locks_after_keep old.locks txn; votes = fin.insert old.votes txn (record { number = number; writes = writes; locks = map kept_lock (held_of old.locks txn) }) })
IsStep server list old number (Work (Decide txn verdict cite)) Installed new =
    IsUp old × ((vote : OpenVote) × (fin.get old.votes txn ≡ Some vote) × Cites verdict server vote.number
    × (new ≡ record old { copies = installed_all old.copies vote.writes; locks = locks_after_release old.locks txn; votes = fin.remove old.votes txn }))
IsStep server list old number (Work (Decide txn verdict cite)) Discarded new =
    IsUp old × ((vote : OpenVote) × (fin.get old.votes txn ≡ Some vote) × ¬ Cites verdict server vote.number
    × (new ≡ record old { locks = locks_after_release old.locks txn; votes = fin.remove old.votes txn }))
IsStep server list old number (Work (Release txn)) Released new = IsUp old × HasNoVote old txn × ¬ HoldsNothing old txn × (new ≡ record old { locks = locks_after_release old.locks txn })
IsStep server list old number (Work (Peek file)) (Copy version content) new = IsUp old × (copy_of old.copies file ≡ record { version = version; content = content }) × (new ≡ old)
IsStep server list old number (Work (Refresh file version content from)) Refreshed new =
    IsUp old × ((copy_of old.copies file).version < version) × (new ≡ record old { copies = copies_after_install old.copies file (record { version = version; content = content }) })
IsStep server list old number Crash Crashed new = IsUp old × (new ≡ record old { locks = only_stable old.locks; down = true })
IsStep server list old number Return Returned new = (old.down ≡ true) × (new ≡ record old { down = false })
-- a stop: what the stable list keeps, with the first records of the ask behind it
IsStep server list old number (CrashIn after ask) Crashed new = IsUp old × (new ≡ kept_records (list ++ stop_writes server old number ask after))
IsStep server list old number ask reply new = ⊥

-- the step of a server by this ask, with this reply
abbrev pub IsStepOf : NodeView → NodeView → ℕ → NodeAsk → NodeReply → Type 0
IsStepOf old new number ask reply = IsStep old.server old.state.stable old.state.records number ask reply new.state.records

-- the cases leave nothing open: a step from these records by this ask gives this reply and these records
abbrev pub IsOnlyStep : ℕ → List Record → Records → ℕ → NodeAsk → NodeReply → Records → Type 0
IsOnlyStep server list old number ask reply new = (other : NodeReply) (after : Records) → IsStep server list old number ask other after → (other ≡ reply) × (after ≡ new)

-- no other reply of a server to this ask, and no other records behind it, are a step
abbrev pub IsOnlyStepOf : NodeView → NodeView → ℕ → NodeAsk → NodeReply → Type 0
IsOnlyStepOf old new number ask reply = IsOnlyStep old.server old.state.stable old.state.records number ask reply new.state.records
