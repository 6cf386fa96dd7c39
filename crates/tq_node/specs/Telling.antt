-- The files whose copies an ask may have raised, and to what versions. What a walk of a transaction's locks comes to,
-- in the code's own words. What a server tells of an ask that it answers at once.
use Rattle.std.specs.Prelude.{◌≡◌, ◌≤◌, ℕ, false, List, [], ◌∷◌, map, Bool, true, ◌&&◌, if◌then◌else◌}
use Rattle.std.specs.List.{AllByRecursion, list_any}
use Rattle.tq_store.specs.{Copies.{Files, copy_of}, Names.same_name, declared.write.Write.Write}
use Rattle.tq_asks.specs.declared.ask.{NodeAsk.NodeAsk, NodeAsk.TheVariants.Work, WorkAsk.TheVariants.Refresh}
use Rattle.tq_asks.specs.declared.ask.{Verdict.Verdict, WorkAsk.WorkAsk}
use Rattle.tq_node.specs.declared.{change.NodeStep.NodeStep, telling.Raised.Raised, telling.Telling.Telling}
use Rattle.tq_node.specs.declared.telling.Raised.TheVariants.{Nothing, Written, Asked}
use Rattle.tq_node.specs.Node.{NodeView, server_after, reply_to_ask}
use Rattle.tq_node.specs.declared.change.NodeStep.TheVariants as steps
use Rattle.tq_locks.specs.{Locks.{LockKey, is_exclusive}, declared.mode.Lock.Lock, declared.mode.Mode.Mode}
use Rattle.tq_asks.specs.declared.ask.WorkAsk.TheVariants as work

-- the file that a refresh offers; none where the ask is no refresh
abbrev pub offered_files : NodeAsk → List (List ℕ)
offered_files (Work (Refresh file version content from)) = file ∷ []
offered_files ask = []

abbrev pub raised_files : NodeAsk → Raised → List (List ℕ)
raised_files ask Nothing = []
raised_files ask (Written writes) = map (λ write. write.file) writes
raised_files ask Asked = offered_files ask

-- what a step may raise
abbrev pub step_raises : NodeStep → Raised
step_raises (steps.Install txn number writes newer) = Written writes
step_raises (steps.Refresh write) = Written (write ∷ [])
step_raises (steps.Copies newer) = Written newer
step_raises other = Nothing

-- the copy of each file that is not in the list is as it was
abbrev pub KeepsOthers : List (List ℕ) → Files → Files → Type 0
KeepsOthers files old new = (file : List ℕ) → list_any (same_name file) files ≡ false → copy_of new file ≡ copy_of old file

-- the copy of the file that a refresh offers is of the version offered, or of a later one
abbrev pub HasOffered : NodeAsk → Files → Type 0
HasOffered (Work (Refresh file version content from)) files = version ≤ (copy_of files file).version
HasOffered ask files = Unit {0}

-- the copy of each raised file is of the version told, or of a later one
abbrev pub AreReached : NodeAsk → Raised → Files → Type 0
AreReached ask Nothing files = Unit {0}
AreReached ask (Written writes) files = AllByRecursion (λ write. write.version ≤ (copy_of files write.file).version) writes
AreReached ask Asked files = HasOffered ask files

-- ---- walks

-- a walk of locks comes to an exclusive one on the file of each write, one write after the other
abbrev pub all_held : List (LockKey × Lock) → List Write → Bool
all_held locks [] = true
all_held [] (write ∷ writes) = false
all_held (entry ∷ locks) (write ∷ writes) = if same_name entry.0.0 write.file then is_exclusive entry.1.mode && all_held locks writes else all_held locks (write ∷ writes)

-- ---- telling

-- the copies of the files that are not told are as they were
abbrev pub KeepsUntold : NodeView → NodeView → NodeAsk → Telling → Type 0
KeepsUntold old new ask telling = KeepsOthers (raised_files ask telling.raised) old.state.records.copies new.state.records.copies

-- the copy of each file that is told is of the version told, or of a later one
abbrev pub ReachesTold : NodeView → NodeAsk → Telling → Type 0
ReachesTold new ask telling = AreReached ask telling.raised new.state.records.copies

-- the ask of this number is answered, and this is told of it
pub record IsTold (old new : NodeView) (number : ℕ) (ask : NodeAsk) (telling : Telling) : Type 0 where
  -- the reply is entered, and the same is told
  pub entered : telling.entered ≡ reply_to_ask old ask
  pub told : telling.told ≡ reply_to_ask old ask
  -- the server is what the answer leaves
  pub after : new ≡ server_after old number ask
  -- no copies have changed but those of the files told, which come to the versions told
  pub raised : KeepsUntold old new ask telling
  pub reached : ReachesTold new ask telling

-- this is told of an ask that is not about a crash
abbrev pub IsWorkTold : NodeView → NodeView → ℕ → WorkAsk → Telling → Type 0
IsWorkTold old new number ask telling = IsTold old new number (Work ask) telling

-- this is told of the request for a lock
abbrev pub IsLockTold : NodeView → NodeView → ℕ → ℕ → List ℕ → Mode → Telling → Type 0
IsLockTold old new number txn file mode telling = IsWorkTold old new number (work.Lock mode txn file) telling

-- this is told of the request for a vote
abbrev pub IsVoteTold : NodeView → NodeView → ℕ → ℕ → List Write → Telling → Type 0
IsVoteTold old new number txn writes telling = IsWorkTold old new number (work.Prepare txn writes) telling

-- this is told of the end of a vote
abbrev pub IsEndTold : NodeView → NodeView → ℕ → ℕ → Verdict → ℕ → Telling → Type 0
IsEndTold old new number txn verdict cite telling = IsWorkTold old new number (work.Decide txn verdict cite) telling
