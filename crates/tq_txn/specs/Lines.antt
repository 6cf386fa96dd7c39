-- The lines of a client: what each asks, in order, each as the answers before demand, and what it answers of them.
use Rattle.std.specs.Prelude.{◌≡◌, ◌==◌, ◌+◌, ℕ, Bool, true, false, List, [], ◌∷◌, ◌++◌, Option, Some, None, IfSome, OnOk, Result, Ok, Err, if◌then◌else◌}
use Rattle.std.specs.{Global.Vec, List.All}
use Rattle.tq_shape.specs.declared.fault.AskFault.{AskFault}
use Rattle.tq_shape.specs.declared.fault.AskFault.TheVariants as ask_faults
use Rattle.tq_shape.specs.declared.part.Part.TheVariants as parts
use Rattle.tq_store.specs.declared.copies.FileCopy.{FileCopy}
use Rattle.tq_locks.specs.declared.mode.{Mode.Mode, Mode.TheVariants.{Shared, Exclusive}}
use Rattle.tq_asks.specs.declared.ask.{NodeAsk.NodeAsk, NodeAsk.TheVariants.{Work, CrashIn}, NodeRefusal.NodeRefusal}
use Rattle.tq_asks.specs.declared.ask.{NodeRefusal.TheVariants.NothingHere, NodeReply.NodeReply, Verdict.Verdict}
use Rattle.tq_asks.specs.declared.ask.{WorkAsk.WorkAsk, WorkAsk.TheVariants.{Lock, Decide, Release}}
use Rattle.tq_coterie.specs.Coterie.{ServerList}
use Rattle.tq_asks.specs.declared.ask.NodeReply.TheVariants as replies
use Rattle.tq_evidence.specs.{declared.grant.Grant.Grant, declared.op.Op.Op, Evidence.{granters, greatest}}
use Rattle.tq_evidence.specs.declared.op.OpKind.TheVariants as kinds
use Rattle.tq_live.specs.declared.{purpose.Purpose.Purpose, view.ViewAsk.TheVariants.{Choose, Mark}}
use Rattle.tq_live.specs.declared.view.ViewReply.{ViewReply}
use Rattle.tq_live.specs.declared.purpose.Purpose.TheVariants as purposes
use Rattle.tq_live.specs.declared.view.ViewReply.TheVariants as view_replies
use Rattle.tq_txn.specs.declared.{fault.LineFault.LineFault, txn.ReadAnswer.ReadAnswer, txn.Applied.Applied}
use Rattle.tq_txn.specs.declared.{txn.ReadAnswer.TheVariants.{Pending, Copy}, operations.WantedLock.WantedLock}
use Rattle.tq_txn.specs.declared.{txn.Applied.TheVariants.{Installed, Discarded}, asker.Exchange.Exchange}
use Rattle.tq_txn.specs.Dialogue.{Told, Dialogue, LineEnd, Ends, AsksNode, Follows, line_done, ended_by, line_failed, and_then, unless, node_line, view_line}
use Rattle.tq_txn.specs.Told.{AreHeard}
use Rattle.tq_txn.specs.declared.fault.LineFault.TheVariants as faults
use Rattle.tq_txn_states.specs.declared.{fault.TxnFault.TheVariants.{NotAMember, TooManyOps}, told.NodeTold.NodeTold}
use Rattle.tq_txn_states.specs.Voting.{answers_of, grant_told, VotingView, has_vote, ask_fault, prepare_work, prepare_ask, vote_fault, vote_after}
use Rattle.tq_txn_states.specs.Ended.{EndedView, decide_ask}
use Rattle.tq_txn_states.specs.Open.{OpenView, IsTouched, pending_content, op_read, op_written, has_all_ops, read_fault, read_copy, read_after, write_fault, write_after, grants_of, touched_by, txn_after_rewrite}

-- what a function of the answer says ends the line
abbrev pub answers : {A S : Type 0} → Result A LineFault → S → Dialogue (LineEnd A S)
answers result after = Ends (record { answer = result; after = after })

-- ---- a quorum from the view

-- the servers of the quorum chosen, which has to be of the transaction's tree
abbrev pub quorum_answer : ℕ → ViewReply → Result (List ℕ) LineFault
quorum_answer levels (view_replies.Chosen quorum cost) = if quorum.levels == levels then Ok quorum.servers else Err (faults.Txn NotAMember)
quorum_answer levels (view_replies.Refused refusal) = Err (faults.View refusal)
quorum_answer levels reply = Err (faults.WrongReply parts.View)

abbrev pub servers_of : Result ServerList LineFault → Result (List ℕ) LineFault
servers_of (Ok quorum) = Ok quorum.servers
servers_of (Err fault) = Err fault

-- shared locks are for reading, exclusive ones for writing
abbrev pub purpose_of : Mode → Purpose
purpose_of Shared = purposes.Read
purpose_of Exclusive = purposes.Write

-- the view is asked for a quorum for this purpose
abbrev pub choose_line : ℕ → Purpose → Dialogue (LineEnd (List ℕ) (Unit {0}))
choose_line levels purpose = and_then (view_line (Choose purpose)) (λ none. none) (λ told none. answers (quorum_answer levels told.reply) none)

-- ---- locks at its servers

abbrev pub lock_ask : ℕ → List ℕ → Mode → NodeAsk
lock_ask txn file mode = Work (Lock mode txn file)

abbrev pub lock_answer : NodeTold → NodeReply → Result NodeTold LineFault
lock_answer told (replies.Granted version content) = Ok told
lock_answer told (replies.Refused refusal) = Err (faults.Server told.server refusal)
lock_answer told reply = Err (faults.WrongReply (parts.Server told.server))

-- the answer that granted the transaction a lock on the file, or why there is none
abbrev pub grant_answer : ℕ → List ℕ → Result (Grant × NodeAsk) LineFault → Result NodeTold LineFault
grant_answer txn file (Ok locked) = Ok (grant_told txn file locked.0)
grant_answer txn file (Err fault) = Err fault

-- the same of the grants of several servers
abbrev pub grants_answer : ℕ → List ℕ → Result (Vec Grant) LineFault → Result (List NodeTold) LineFault
grants_answer txn file (Ok grants) = Ok (answers_of txn file grants.items)
grants_answer txn file (Err fault) = Err fault

-- how a call ended that hands its ask back
abbrev pub without_ask : Result NodeAsk LineFault → Result (Unit {0}) LineFault
without_ask (Ok ask) = Ok tt
without_ask (Err fault) = Err fault

-- the grant is of this server and mode
abbrev pub IsLockAt : ℕ → Mode → Grant → Type 0
IsLockAt server mode grant = (grant.server ≡ server) × (grant.mode ≡ mode)

-- all grants are of this mode
abbrev pub AreOf : Mode → List Grant → Type 0
AreOf mode grants = All (λ grant. grant.mode ≡ mode) grants

abbrev pub lock_line : ℕ → List ℕ → Mode → ℕ → Dialogue (LineEnd NodeTold (Unit {0}))
lock_line txn file mode server = and_then (node_line server (lock_ask txn file mode)) (λ none. none) (λ told none. answers (lock_answer told told.reply) none)

-- the answers of the servers asked so far, and the transaction, which notes each server that granted a lock
pub record LocksView : Type 0 where
  pub answers : List NodeTold
  pub txn : OpenView

-- the same of a transaction and the grants that came in
abbrev pub locks_of : List ℕ → OpenView → List Grant → LocksView
locks_of file open_txn grants = record { answers = answers_of open_txn.txn file grants; txn = open_txn }

-- a lock at one more server
abbrev pub next_lock : List ℕ → Mode → ℕ → LocksView → Dialogue (LineEnd (Unit {0}) LocksView)
next_lock file mode server old =
    and_then (lock_line old.txn.txn file mode server) (λ none. old)
    (λ told none. line_done tt (record { answers = old.answers ++ told ∷ []; txn = touched_by old.txn server }))

-- a lock at each of the servers, in their order; the first refusal ends it, and locks granted before it stay
abbrev pub locks_line : List ℕ → Mode → List ℕ → LocksView → Dialogue (LineEnd (Unit {0}) LocksView)
locks_line file mode [] old = line_done tt old
locks_line file mode (server ∷ servers) old = and_then (next_lock file mode server old) (λ new. new) (λ all new. locks_line file mode servers new)

-- by this line the servers were asked for the lock that is wanted: each that granted it is noted, its answer was told, and
-- where all did, theirs are the grants that came in
pub record IsLocking (want : WantedLock) (line : LocksView → Dialogue (LineEnd (Unit {0}) LocksView)) (numbers : List ℕ) (told later : List Exchange) (old new : OpenView) (before after : List Grant) (result : Result (Unit {0}) LineFault) : Type 0 where
  pub asks : Follows (line (locks_of want.file old before)) told later (ended_by result (locks_of want.file new after))
  pub touched : IsTouched old new
  pub heard : AreHeard old.txn want.file told before → AreHeard old.txn want.file later after
  pub servers : OnOk result (granters after ≡ granters before ++ numbers)
  pub modes : AreOf want.mode before → AreOf want.mode after

-- a quorum from the view for what the locks are for, and a lock at each of its servers: their answers
abbrev pub quorum_line : List ℕ → Mode → OpenView → Dialogue (LineEnd (List NodeTold) OpenView)
quorum_line file mode old =
    and_then (choose_line old.levels (purpose_of mode)) (λ none. old)
    (λ servers none. and_then (locks_line file mode servers (record { answers = []; txn = old })) (λ new. new.txn) (λ all new. line_done new.answers new.txn))

-- ---- read

abbrev pub read_end : List ℕ → List NodeTold → OpenView → Dialogue (LineEnd ReadAnswer OpenView)
read_end file told old =
    unless (read_fault old file told) old (line_done (Copy (read_copy (grants_of kinds.Read old.txn file told))) (read_after old file told))

-- shared locks at a quorum
abbrev pub quorum_read : OpenView → List ℕ → Dialogue (LineEnd ReadAnswer OpenView)
quorum_read old file = and_then (quorum_line file Shared old) (λ new. new) (λ told new. read_end file told new)

abbrev pub first_read : OpenView → List ℕ → Dialogue (LineEnd ReadAnswer OpenView)
first_read old file = if has_all_ops old then line_failed (faults.Txn TooManyOps) old else quorum_read old file

abbrev pub copy_read : Op → FileCopy
copy_read op = record { version = op.version; content = op.content }

-- what the transaction has written or read is answered again, with no ask
abbrev pub read_again : Option (List ℕ) → Option Op → OpenView → Dialogue (LineEnd ReadAnswer OpenView) → Dialogue (LineEnd ReadAnswer OpenView)
read_again (Some content) op old first = line_done (Pending content) old
read_again None (Some op) old first = line_done (Copy (copy_read op)) old
read_again None None old first = first

abbrev pub read_line : OpenView → List ℕ → Dialogue (LineEnd ReadAnswer OpenView)
read_line old file = read_again (pending_content old file) (op_read old file) old (first_read old file)

-- ---- write

abbrev pub write_end : List ℕ → List ℕ → List NodeTold → OpenView → Dialogue (LineEnd ℕ OpenView)
write_end file content told old =
    unless (write_fault old file told) old (line_done (greatest (grants_of kinds.Write old.txn file told) + 1) (write_after old file content told))

-- exclusive locks at a quorum
abbrev pub quorum_write : OpenView → List ℕ → List ℕ → Dialogue (LineEnd ℕ OpenView)
quorum_write old file content = and_then (quorum_line file Exclusive old) (λ new. new) (λ told new. write_end file content told new)

abbrev pub first_write : OpenView → List ℕ → List ℕ → Dialogue (LineEnd ℕ OpenView)
first_write old file content = if has_all_ops old then line_failed (faults.Txn TooManyOps) old else quorum_write old file content

-- what is written again is replaced, with no ask and the same version
abbrev pub written_again : Option Op → OpenView → Dialogue (LineEnd ℕ OpenView) → Dialogue (LineEnd ℕ OpenView)
written_again None new first = first
written_again (Some op) new first = line_done op.version new

abbrev pub write_line : OpenView → List ℕ → List ℕ → Dialogue (LineEnd ℕ OpenView)
write_line old file content = written_again (op_written old file) (txn_after_rewrite old file content) (first_write old file content)

-- ---- prepare

abbrev pub refusal_in : NodeReply → Option NodeRefusal
refusal_in (replies.Refused refusal) = Some refusal
refusal_in reply = None

abbrev pub refused_at : {A S : Type 0} → ℕ → Option NodeRefusal → S → Dialogue (LineEnd A S) → Dialogue (LineEnd A S)
refused_at server None after line = line
refused_at server (Some refusal) after line = line_failed (faults.Server server refusal) after

abbrev pub vote_answer : VotingView → NodeTold → Dialogue (LineEnd (Unit {0}) VotingView)
vote_answer old told = refused_at told.server (refusal_in told.reply) old (unless (vote_fault old told) old (line_done tt (vote_after old told)))

abbrev pub first_prepare : VotingView → ℕ → Dialogue (LineEnd (Unit {0}) VotingView)
first_prepare old server =
    unless (ask_fault old.txn server) old
    (and_then (node_line server (prepare_ask old.txn server)) (λ none. old) (λ told none. vote_answer old told))

-- a vote that is there is answered with no ask
abbrev pub prepare_line : VotingView → ℕ → Dialogue (LineEnd (Unit {0}) VotingView)
prepare_line old server = if has_vote old.votes server then line_done tt old else first_prepare old server

-- ---- the ending

-- an ask of which any answer is taken
abbrev pub reply_in : Told NodeReply → Option NodeReply
reply_in (Ok answered) = Some answered.reply
reply_in (Err fault) = None

-- what a call answers of it: nothing where memory was refused
abbrev pub any_answer : Result NodeTold AskFault → Option (Option NodeReply)
any_answer (Ok told) = Some (Some told.reply)
any_answer (Err ask_faults.Memory) = None
any_answer (Err fault) = Some None

abbrev pub any_line : ℕ → NodeAsk → Dialogue (LineEnd (Option NodeReply) (Unit {0}))
any_line server ask = AsksNode server ask (λ answer. line_done (reply_in answer) tt)

abbrev pub is_nothing_here : Option NodeReply → Bool
is_nothing_here (Some (replies.Refused NothingHere)) = true
is_nothing_here reply = false

-- the release of the locks, where nothing is prepared
abbrev pub release_line : ℕ → ℕ → Bool → Dialogue (LineEnd (Unit {0}) (Unit {0}))
release_line txn server true = and_then (any_line server (Work (Release txn))) (λ none. none) (λ reply none. line_done tt none)
release_line txn server false = line_done tt tt

-- the ask that is kept, where there is one, releases the locks of the transaction
abbrev pub KeepsRelease : ℕ → Option NodeAsk → Type 0
KeepsRelease txn kept = IfSome kept (λ ask. ask ≡ Work (Release txn))

-- the verdict, and where nothing is prepared there, the release of the locks; whatever is answered
abbrev pub end_line : EndedView → ℕ → Dialogue (LineEnd (Unit {0}) (Unit {0}))
end_line old server = and_then (any_line server (decide_ask old)) (λ none. none) (λ reply none. release_line old.txn server (is_nothing_here reply))

-- at each of the servers, in their order
abbrev pub ending_line : EndedView → List ℕ → Dialogue (LineEnd (Unit {0}) (Unit {0}))
ending_line old [] = line_done tt tt
ending_line old (server ∷ servers) = and_then (end_line old server) (λ none. none) (λ all none. ending_line old servers)

-- ---- apply

abbrev pub apply_answer : ℕ → NodeReply → Result Applied LineFault
apply_answer server replies.Installed = Ok Installed
apply_answer server replies.Discarded = Ok Discarded
apply_answer server (replies.Refused refusal) = Err (faults.Server server refusal)
apply_answer server reply = Err (faults.WrongReply (parts.Server server))

abbrev pub apply_line : ℕ → Verdict → ℕ → ℕ → Dialogue (LineEnd Applied (Unit {0}))
apply_line txn verdict cite server =
    and_then (node_line server (Work (Decide txn verdict cite))) (λ none. none) (λ told none. answers (apply_answer told.server told.reply) none)

-- ---- a stop in the midst of an ask

-- the server is marked down
abbrev pub down_line : ℕ → Dialogue (LineEnd (Unit {0}) (Unit {0}))
down_line server = and_then (view_line (Mark server false)) (λ none. none) (λ told none. line_done tt none)

-- the server stops in the work, behind so many of its records, and is marked down, whatever is answered
abbrev pub stop_line : ℕ → WorkAsk → ℕ → Dialogue (LineEnd (Unit {0}) (Unit {0}))
stop_line server ask after = and_then (any_line server (CrashIn after ask)) (λ none. none) (λ reply none. down_line server)

-- a voter stops in its vote, which is not taken
abbrev pub first_prepare_stop : VotingView → ℕ → ℕ → Dialogue (LineEnd Bool VotingView)
first_prepare_stop old server after =
    unless (ask_fault old.txn server) old
    (and_then (stop_line server (prepare_work old.txn server) after) (λ none. old) (λ all none. line_done false old))

-- whether the vote is there, which is answered with no ask
abbrev pub prepare_stop_line : VotingView → ℕ → ℕ → Dialogue (LineEnd Bool VotingView)
prepare_stop_line old server after = if has_vote old.votes server then line_done true old else first_prepare_stop old server after
