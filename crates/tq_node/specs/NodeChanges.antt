-- What an ask of a server is to change, the stable records that this writes, and the server with a change made. What
-- the plans of a server's asks are.
use Rattle.std.specs.Prelude.{◌≡◌, ◌<◌, ℕ, Bool, true, false, List, [], ◌∷◌, ◌++◌, ◌==◌, map, filter, length, take, nat_le, nat_lt, None, IsSome, if◌then◌else◌}
use Rattle.std.specs.FinMap as fin
use Rattle.tq_store.specs.{declared.write.Write.Write, Copies.{copy_of, copies_after_install, installed_all, is_newer}}
use Rattle.tq_locks.specs.declared.mode.Mode.{Mode}
use Rattle.tq_locks.specs.Locks.{blocker, locks_after_grant, held_of, locks_after_release, locks_after_keep as stabilised_locks}
use Rattle.tq_intents.specs.{Kept.{AreDead, vote_records}, declared.record.{KeptLock.KeptLock, Record.Record}}
use Rattle.tq_intents.specs.declared.record.Record.TheVariants as stable
use Rattle.tq_asks.specs.declared.ask.{NodeAsk.NodeAsk, WorkAsk.WorkAsk, NodeReply.NodeReply, Verdict.Verdict}
use Rattle.tq_asks.specs.declared.ask.NodeAsk.TheVariants as asks
use Rattle.tq_asks.specs.declared.ask.WorkAsk.TheVariants as work
use Rattle.tq_node.specs.{declared.change.{NodeChange.NodeChange, NodeStep.NodeStep}, Node.{NodeView, with_last}}
use Rattle.tq_node.specs.declared.change.NodeStep.TheVariants.{Nothing, Lock, Vote, Discard, Install, Release, Refresh, Unfinished, Copies, Crash, Return}
use Rattle.tq_node.specs.Records.{Records, NodeState, records_after_crash, kept_lock, kept_records, open_vote, installs, newer_writes, refusal, work_refusal, work_reply}
use Rattle.tq_shape.specs.{Journal.state_at, declared.answers.Plan.Plan}
use Rattle.tq_asks.specs.declared.ask.NodeReply.TheVariants as replies
use Rattle.tq_node.specs.declared.change.NodeStep.TheVariants as steps

-- ---- the stable records that a step writes, in order

-- of the end of a vote: the copies that came, and that the vote has gone
abbrev pub end_records : List Write → ℕ → ℕ → List Record
end_records newer txn number = map stable.Copy newer ++ stable.Gone txn number ∷ []

abbrev pub records_of : NodeStep → List Record
records_of (Vote txn vote) = vote_records txn vote.number vote.writes vote.locks
records_of (Discard txn number) = stable.Gone txn number ∷ []
records_of (Install txn number writes newer) = end_records newer txn number
records_of (Refresh write) = stable.Copy write ∷ []
records_of (Unfinished records) = records
records_of (Copies newer) = map stable.Copy newer
records_of other = []

-- ---- the step of an ask

-- of the end of a vote: whether its writes come
abbrev pub end_step : Records → ℕ → Bool → NodeStep
end_step old txn true = Install txn (open_vote old txn).number (open_vote old txn).writes (filter (is_newer old.copies) (open_vote old txn).writes)
end_step old txn false = Discard txn (open_vote old txn).number

abbrev pub work_step : ℕ → Records → ℕ → WorkAsk → NodeStep
work_step server old number (work.Lock mode txn file) = Lock txn file mode (copy_of old.copies file).version
work_step server old number (work.Prepare txn writes) = Vote txn (record { number = number; writes = writes; locks = map kept_lock (held_of old.locks txn) })
work_step server old number (work.Decide txn verdict cite) = end_step old txn (installs server old txn verdict)
work_step server old number (work.Release txn) = Release txn
work_step server old number (work.Peek file) = Nothing
work_step server old number (work.Refresh file version content from) = Refresh (record { file = file; version = version; content = content })

-- what is left of a step where the server stops behind the first so many of its records
abbrev pub cut_step : ℕ → NodeStep → NodeStep
cut_step after (Vote txn vote) =
    if nat_lt after (length (vote_records txn vote.number vote.writes vote.locks))
    then Unfinished (take after (vote_records txn vote.number vote.writes vote.locks))
    else Vote txn vote
cut_step after (Install txn number writes newer) = if nat_le after (length newer) then Copies (take after newer) else Install txn number writes newer
cut_step after (Discard txn number) = if after == 0 then Nothing else Discard txn number
cut_step after (Refresh write) = if after == 0 then Nothing else Refresh write
cut_step after other = Nothing

abbrev pub stop_step : ℕ → Records → ℕ → WorkAsk → ℕ → NodeStep
stop_step server old number ask after = state_at (work_refusal old ask) Nothing (cut_step after (work_step server old number ask))

abbrev pub step_of : ℕ → Records → ℕ → NodeAsk → NodeStep
step_of server old number (asks.Work ask) = work_step server old number ask
step_of server old number asks.Crash = Crash
step_of server old number asks.Return = Return
step_of server old number (asks.CrashIn after ask) = stop_step server old number ask after

-- whether the server stops in the midst of the ask
abbrev pub is_stop : NodeAsk → Bool
is_stop (asks.CrashIn after ask) = true
is_stop other = false

abbrev pub node_change : NodeView → ℕ → NodeAsk → NodeChange
node_change old number ask = record { number = number; step = state_at (refusal old.state.records ask) Nothing (step_of old.server old.state.records number ask); stops = state_at (refusal old.state.records ask) false (is_stop ask) }

-- ---- what a step writes, and what it leaves

abbrev pub records_after_step : Records → ℕ → NodeStep → Records
records_after_step old number Nothing = old
records_after_step old number (Lock txn file mode version) = record old { locks = locks_after_grant old.locks file txn mode number version }
records_after_step old number (Vote txn vote) = record old { locks = stabilised_locks old.locks txn; votes = fin.insert old.votes txn vote }
records_after_step old number (Discard txn vote) = record old { locks = locks_after_release old.locks txn; votes = fin.remove old.votes txn }
records_after_step old number (Install txn vote writes newer) =
    record old { copies = installed_all old.copies writes; locks = locks_after_release old.locks txn; votes = fin.remove old.votes txn }
records_after_step old number (Release txn) = record old { locks = locks_after_release old.locks txn }
records_after_step old number (Refresh write) = record old { copies = copies_after_install old.copies write.file (record { version = write.version; content = write.content }) }
records_after_step old number (Unfinished records) = old
records_after_step old number (Copies newer) = record old { copies = installed_all old.copies newer }
records_after_step old number Crash = records_after_crash old
records_after_step old number Return = record old { down = false }

-- the server after a step, its number not noted yet
abbrev pub server_after_step : NodeView → ℕ → NodeStep → NodeView
server_after_step old number step =
    record {
      levels = old.levels;
      server = old.server;
      state = record { records = records_after_step old.state.records number step; stable = old.state.stable ++ records_of step };
      last = old.last;
    }

-- the server is what a step leaves, its number not noted yet
abbrev pub Takes : NodeView → NodeView → ℕ → NodeStep → Type 0
Takes old new number step = new ≡ server_after_step old number step

-- the step is that of a lock
abbrev pub Locks : NodeView → NodeView → ℕ → ℕ → List ℕ → Mode → ℕ → Type 0
Locks old new number txn file mode version = Takes old new number (Lock txn file mode version)

-- the step is that of the end of a vote whose writes come
abbrev pub Installs : NodeView → NodeView → ℕ → ℕ → ℕ → List Write → Type 0
Installs old new number txn vote writes = Takes old new number (Install txn vote writes (newer_writes old.state.records writes))

-- the server is what a step leaves, whether its number is noted or not
abbrev pub TakesOrNotes : NodeView → NodeView → ℕ → NodeStep → Type 0
TakesOrNotes old new number step = with_last number new ≡ with_last number (server_after_step old number step)

-- the server after a vote of this number was given
abbrev pub server_after_vote : NodeView → ℕ → ℕ → List Write → List KeptLock → NodeView
server_after_vote old number txn writes locks = with_last number (server_after_step old number (Vote txn (record { number = number; writes = writes; locks = locks })))

-- the server after the first records of a vote of this number were written
abbrev pub server_in_vote : NodeView → ℕ → List Record → NodeView
server_in_vote old number records = with_last number (server_after_step old number (Unfinished records))

-- behind a step where the server stops: what the stable list keeps
abbrev pub state_left : Bool → NodeState → NodeState
state_left true old = record { records = kept_records old.stable; stable = old.stable }
state_left false old = old

abbrev pub server_at_stop : Bool → NodeView → NodeView
server_at_stop stops old = record { levels = old.levels; server = old.server; state = state_left stops old.state; last = old.last }

abbrev pub node_changed : NodeView → NodeChange → NodeView
node_changed old change = with_last change.number (server_at_stop change.stops (server_after_step old change.number change.step))

-- the server's copies are those that the step of a change leaves
abbrev pub StepsCopies : NodeView → NodeView → NodeChange → Type 0
StepsCopies old new change = new.state.records.copies ≡ (records_after_step old.state.records change.number change.step).copies

-- ---- when a step may be taken

abbrev pub StepFits : Records → ℕ → NodeStep → Type 0
StepFits old number (Lock txn file mode version) = (fin.get old.votes txn ≡ None) × (blocker old.locks file txn mode ≡ None)
StepFits old number (Vote txn vote) = (fin.get old.votes txn ≡ None) × ((vote.number ≡ number) × (vote.locks ≡ map kept_lock (held_of old.locks txn)))
StepFits old number (Discard txn vote) = IsSome (fin.get old.votes txn) × (vote ≡ (open_vote old txn).number)
StepFits old number (Install txn vote writes newer) =
    IsSome (fin.get old.votes txn) × ((vote ≡ (open_vote old txn).number) × ((writes ≡ (open_vote old txn).writes) × (newer ≡ filter (is_newer old.copies) writes)))
StepFits old number (Release txn) = fin.get old.votes txn ≡ None
StepFits old number (Unfinished records) = AreDead number records
StepFits old number other = Unit {0}

abbrev pub NodeFits : NodeView → NodeChange → Type 0
NodeFits old change = (old.last < change.number) × StepFits old.state.records change.number change.step

-- ---- plans

-- the reply to an ask that is not about a crash, where it is not refused
abbrev pub work_replied : NodeView → WorkAsk → NodeReply
work_replied old ask = work_reply old.server old.state.records ask

-- what is left of such an ask's step where the server stops behind the first so many of its records
abbrev pub planned_stop : NodeView → ℕ → WorkAsk → ℕ → NodeStep
planned_stop old number ask after = stop_step old.server old.state.records number ask after

-- the plan of such an ask: its reply, and its step
pub record IsWorkPlan (old : NodeView) (number : ℕ) (ask : WorkAsk) (plan : Plan NodeReply NodeStep) : Type 0 where
  pub reply : plan.reply ≡ work_replied old ask
  pub change : plan.change ≡ work_step old.server old.state.records number ask

-- the plan of a lock that is granted
pub record IsLockPlan (old : NodeView) (txn : ℕ) (file : List ℕ) (mode : Mode) (plan : Plan NodeReply NodeStep) : Type 0 where
  pub reply : plan.reply ≡ replies.Granted (copy_of old.state.records.copies file).version (copy_of old.state.records.copies file).content
  pub change : plan.change ≡ steps.Lock txn file mode (copy_of old.state.records.copies file).version

-- the plan of the end of an open vote by this verdict
pub record IsEndPlan (old : NodeView) (txn : ℕ) (verdict : Verdict) (plan : Plan NodeReply NodeStep) : Type 0 where
  pub reply : plan.reply ≡ (if installs old.server old.state.records txn verdict then replies.Installed else replies.Discarded)
  pub change : plan.change ≡ end_step old.state.records txn (installs old.server old.state.records txn verdict)

-- the plan of a copy that is taken over
pub record IsRefreshPlan (write : Write) (plan : Plan NodeReply NodeStep) : Type 0 where
  pub reply : plan.reply ≡ replies.Refreshed
  pub change : plan.change ≡ steps.Refresh write

-- a write of these parts
abbrev pub write_of : List ℕ → ℕ → List ℕ → Write
write_of file version content = record { file = file; version = version; content = content }
