-- What each line of a transaction asks, in order, each as the answers before demand, and what it makes of the answers:
-- the text that is printed, and what is kept of the transaction afterwards. All from what was kept before. The states
-- that lines of a transaction want, as the shell tests for them.
use Rattle.std.specs.Prelude.{◌≡◌, ℕ, Bool, false, not, cond, List, [], ◌∷◌, ◌++◌, filter, Option, Some, None, Result, Ok, Err, codes}
use Rattle.std.specs.Fmt.{decimal}
use Rattle.tq_desk.specs.declared.ask.DeskAsk.TheVariants as desk_asks
use Rattle.tq_desk.specs.declared.ask.DeskReply.{DeskReply}
use Rattle.tq_desk.specs.declared.ask.DeskReply.TheVariants as desk_replies
use Rattle.tq_live.specs.View.{is_server}
use Rattle.tq_asks.specs.declared.ask.WorkAsk.TheVariants.{Decide}
use Rattle.tq_txn.specs.declared.{fault.LineFault.LineFault, txn.{ReadAnswer.ReadAnswer, Applied.Applied, Txn.Txn}}
use Rattle.tq_txn.specs.{Dialogue.{LineEnd, Ends, then_line, desk_line}, Commits.{decide_line, commit_line, abort_line}}
use Rattle.tq_txn_states.specs.{declared.told.DeskTold.DeskTold, Ended.resolve_verdict}
use Rattle.tq_txn_states.specs.{Open.{OpenView, op_read, op_written, close_fault}, declared.fault.TxnFault.TxnFault}
use Rattle.tq_txn_states.specs.Voting.{VotingView, voting_of, has_vote}
use Rattle.tq_txn.specs.declared.txn.Txn.TheVariants as states
use Rattle.tq_txn.specs.Dialogue as asks
use Rattle.tq_txn.specs.Lines as lines
use Rattle.tq_interpreter.specs.declared.{txn_slot.TxnSlot.TxnSlot, txn_slot.Ending.Ending, server_lines.Phase.Phase}
use Rattle.tq_interpreter.specs.declared.{operations.Operation.Operation, decisions.CommitScope.CommitScope}
use Rattle.tq_interpreter.specs.declared.{server_lines.ServerLine.ServerLine, states.Closed.Closed}
use Rattle.tq_interpreter.specs.Recorded.{run_line, Progress, RecorderView}
use Rattle.tq_interpreter.specs.Known.{IsKept, in_state, with_told, ending_in}
use Rattle.tq_interpreter.specs.declared.operations.Operation.TheVariants as operations
use Rattle.tq_interpreter.specs.declared.decisions.CommitScope.TheVariants as courses
use Rattle.tq_interpreter.specs.declared.server_lines.Phase.TheVariants as duties
use Rattle.tq_syntax.specs.declared.line.TxnLine.{TxnLine}
use Rattle.tq_syntax.specs.declared.line.TxnLine.TheVariants as of
use Rattle.tq_text.specs.Print.{printed_line, reading_text, writing_text, applied_text, verdict_text, fault_text, is_memory, txn_fault_text, decided_text, desk_refusal_text}
use Rattle.tq_interpreter.specs.declared.states.Closed.TheVariants as closed

-- what a line of one transaction says, and what is kept of the transaction then
pub record TxnAnswer : Type 0 where
  pub text : List ℕ
  pub kept : TxnSlot

abbrev pub txn_said : TxnSlot → List ℕ → asks.Dialogue TxnAnswer
txn_said kept text = Ends (record { text = text; kept = kept })

-- the text of an answer, or of the refusal that ended the line
abbrev pub result_text : {A : Type 0} → List ℕ → (A → List ℕ) → Result A LineFault → List ℕ
result_text servers text (Ok a) = text a
result_text servers text (Err fault) = fault_text servers fault

-- memory was refused in the line
abbrev pub is_refused_memory : {A : Type 0} → Result A LineFault → Bool
is_refused_memory (Ok a) = false
is_refused_memory (Err fault) = is_memory fault

-- a line of a transaction, printed: its state afterwards, the servers that a refusal speaks of, and the answer's text
abbrev pub answer_end : {A S : Type 0} → (S → TxnSlot) → (S → List ℕ) → (S → A → List ℕ) → LineEnd A S → TxnAnswer
answer_end kept servers text end = record { text = result_text (servers end.after) (text end.after) end.answer; kept = kept end.after }

abbrev pub answer_line : {A S : Type 0} → asks.Dialogue (LineEnd A S) → (S → TxnSlot) → (S → List ℕ) → (S → A → List ℕ) → asks.Dialogue TxnAnswer
answer_line line kept servers text = then_line line (λ end. Ends (answer_end kept servers text end))

abbrev pub no_servers : {S : Type 0} → S → List ℕ
no_servers after = []

-- ---- the states

-- a transaction that reads or writes is open
abbrev pub open_in : ℕ → TxnSlot → Txn → (OpenView → asks.Dialogue TxnAnswer) → asks.Dialogue TxnAnswer
open_in number kept (states.Open old) next = next old
open_in number kept (states.Voting old) next = txn_said kept (codes "voting " ++ decimal number)
open_in number kept (states.Ended old) next = txn_said kept (decided_text old.verdict)

abbrev pub closing : TxnSlot → OpenView → Option TxnFault → (VotingView → asks.Dialogue TxnAnswer) → asks.Dialogue TxnAnswer
closing kept old None next = next (voting_of old)
closing kept old (Some fault) next = txn_said kept (txn_fault_text [] fault)

-- one that gathers votes may be open still, if it has an operation
abbrev pub voting_in : TxnSlot → Txn → (VotingView → asks.Dialogue TxnAnswer) → asks.Dialogue TxnAnswer
voting_in kept (states.Open old) next = closing kept old (close_fault old) next
voting_in kept (states.Voting old) next = next old
voting_in kept (states.Ended old) next = txn_said kept (decided_text old.verdict)

abbrev pub missing_of : VotingView → List ℕ → List ℕ
missing_of old servers = filter (λ server. not (has_vote old.votes server)) servers

-- the voters whose votes are not there
abbrev pub missing_in : Txn → List ℕ
missing_in (states.Voting old) = missing_of old old.txn.voters
missing_in txn = []

-- ---- the lines of a transaction

abbrev pub read_text : List ℕ → OpenView → ReadAnswer → List ℕ
read_text file new reading = reading_text file (op_read new file) reading

abbrev pub written_text : List ℕ → OpenView → ℕ → List ℕ
written_text file new version = writing_text file (op_written new file) version

abbrev pub read_open : TxnSlot → List ℕ → OpenView → asks.Dialogue TxnAnswer
read_open kept file old = answer_line (lines.read_line old file) (λ new. in_state kept (states.Open new)) no_servers (read_text file)

abbrev pub read_asked : List ℕ → ℕ → TxnSlot → asks.Dialogue TxnAnswer
read_asked file number kept = open_in number kept kept.txn (read_open kept file)

abbrev pub write_open : TxnSlot → List ℕ → List ℕ → OpenView → asks.Dialogue TxnAnswer
write_open kept file content old =
    answer_line (lines.write_line old file content) (λ new. in_state kept (states.Open new)) no_servers (written_text file)

abbrev pub write_asked : List ℕ → List ℕ → ℕ → TxnSlot → asks.Dialogue TxnAnswer
write_asked file content number kept = open_in number kept kept.txn (write_open kept file content)

-- what a line does with a file of an open transaction
abbrev pub operation_open : Operation → List ℕ → TxnSlot → OpenView → asks.Dialogue TxnAnswer
operation_open operations.Read file kept = read_open kept file
operation_open (operations.Write content) file kept = write_open kept file content

abbrev pub operation_asked : Operation → List ℕ → ℕ → TxnSlot → asks.Dialogue TxnAnswer
operation_asked operation file number kept = open_in number kept kept.txn (operation_open operation file kept)

abbrev pub voted_text : ℕ → VotingView → Unit {0} → List ℕ
voted_text server new all = codes "yes " ++ decimal server

abbrev pub down_text : ℕ → List ℕ
down_text server = codes "down " ++ decimal server

-- the vote that is there, or that the server is down
abbrev pub stop_text : ℕ → Bool → List ℕ
stop_text server there = cond there (codes "yes " ++ decimal server) (down_text server)

abbrev pub stopped_text : ℕ → VotingView → Bool → List ℕ
stopped_text server new there = stop_text server there

-- the server votes; or it stops in its vote, behind so many of its records
abbrev pub prepare_voting : Option ℕ → ℕ → TxnSlot → VotingView → asks.Dialogue TxnAnswer
prepare_voting None server kept old =
    answer_line (lines.prepare_line old server) (λ new. in_state kept (states.Voting new)) (λ new. server ∷ []) (voted_text server)
prepare_voting (Some after) server kept old =
    answer_line (lines.prepare_stop_line old server after) (λ new. in_state kept (states.Voting new)) (λ new. server ∷ []) (stopped_text server)

abbrev pub prepare_asked : Option ℕ → ℕ → ℕ → TxnSlot → asks.Dialogue TxnAnswer
prepare_asked stop server number kept = voting_in kept kept.txn (prepare_voting stop server kept)

abbrev pub serial_text : Txn → ℕ → List ℕ
serial_text new serial = codes "committed " ++ decimal serial

-- what a commit says of the desk's answer
abbrev pub committed_text : Txn → Result ℕ LineFault → List ℕ
committed_text new answer = result_text (missing_in new) (serial_text new) answer

-- a line to the desk's decision, printed
abbrev pub decision_voting : (VotingView → asks.Dialogue (LineEnd ℕ Txn)) → TxnSlot → VotingView → asks.Dialogue TxnAnswer
decision_voting line kept old = answer_line (line old) (in_state kept) missing_in serial_text

abbrev pub decision_asked : (VotingView → asks.Dialogue (LineEnd ℕ Txn)) → ℕ → TxnSlot → asks.Dialogue TxnAnswer
decision_asked line number kept = voting_in kept kept.txn (decision_voting line kept)

-- the decision alone, or the votes before it and the ending behind it as well
abbrev pub course_line : CommitScope → VotingView → asks.Dialogue (LineEnd ℕ Txn)
course_line courses.Decide = decide_line
course_line courses.Commit = commit_line

abbrev pub aborted_text : Txn → Unit {0} → List ℕ
aborted_text new all = codes "aborted"

abbrev pub abort_asked : ℕ → TxnSlot → asks.Dialogue TxnAnswer
abort_asked number kept = answer_line (abort_line kept.txn) (in_state kept) no_servers aborted_text

abbrev pub resolved_text : DeskReply → List ℕ
resolved_text (desk_replies.Verdict verdict) = verdict_text verdict
resolved_text (desk_replies.Refused refusal) = desk_refusal_text refusal
resolved_text other = codes "bad answer"

abbrev pub resolved_kept : TxnSlot → ℕ → DeskReply → TxnSlot
resolved_kept kept cite reply = with_told kept cite (resolve_verdict reply)

abbrev pub resolve_end : TxnSlot → Result DeskTold LineFault → TxnAnswer
resolve_end kept (Ok told) = record { text = resolved_text told.reply; kept = resolved_kept kept told.number told.reply }
resolve_end kept (Err fault) = record { text = fault_text [] fault; kept = kept }

-- the verdict is kept for `apply`
abbrev pub resolve_asked : ℕ → TxnSlot → asks.Dialogue TxnAnswer
resolve_asked number kept = then_line (desk_line (desk_asks.Resolve number)) (λ end. Ends (resolve_end kept end.answer))

abbrev pub told_text : ℕ → Unit {0} → Applied → List ℕ
told_text server none applied = applied_text server applied

abbrev pub apply_stopped_text : ℕ → Unit {0} → Unit {0} → List ℕ
apply_stopped_text server none all = down_text server

-- the server is told the verdict; or it stops there, behind so many of its records
abbrev pub apply_ending : Option ℕ → ℕ → ℕ → TxnSlot → Ending → asks.Dialogue TxnAnswer
apply_ending None server number kept ending =
    answer_line (lines.apply_line number ending.verdict ending.cite server) (λ none. kept) no_servers (told_text server)
apply_ending (Some after) server number kept ending =
    answer_line (lines.stop_line server (Decide number ending.verdict ending.cite) after) (λ none. kept) no_servers (apply_stopped_text server)

abbrev pub apply_by : Option ℕ → ℕ → ℕ → TxnSlot → Option Ending → asks.Dialogue TxnAnswer
apply_by stop server number kept None = txn_said kept (codes "not decided " ++ decimal number)
apply_by stop server number kept (Some ending) = apply_ending stop server number kept ending

abbrev pub apply_asked : Option ℕ → ℕ → ℕ → TxnSlot → asks.Dialogue TxnAnswer
apply_asked stop server number kept = apply_by stop server number kept (ending_in kept)

-- ---- the server is one of the tree

abbrev pub server_asked : ℕ → ℕ → (ℕ → ℕ → TxnSlot → asks.Dialogue TxnAnswer) → ℕ → TxnSlot → asks.Dialogue TxnAnswer
server_asked levels server next number kept = cond (is_server levels server) (next server number kept) (txn_said kept (codes "no such server " ++ decimal server))

abbrev pub duty_asked : Phase → Option ℕ → ℕ → ℕ → TxnSlot → asks.Dialogue TxnAnswer
duty_asked duties.Prepare = prepare_asked
duty_asked duties.Apply = apply_asked

abbrev pub errand_asked : ℕ → ServerLine → ℕ → TxnSlot → asks.Dialogue TxnAnswer
errand_asked levels errand = server_asked levels errand.server (duty_asked errand.duty errand.stop)

-- ---- all lines of a transaction, by what is kept of it
abbrev pub line_asked : ℕ → TxnLine → ℕ → TxnSlot → asks.Dialogue TxnAnswer
line_asked levels (of.Read file) = read_asked file
line_asked levels (of.Write file content) = write_asked file content
line_asked levels (of.Prepare server) = server_asked levels server (prepare_asked None)
line_asked levels of.Decide = decision_asked decide_line
line_asked levels (of.Apply server) = server_asked levels server (apply_asked None)
line_asked levels of.Commit = decision_asked commit_line
line_asked levels of.Abort = abort_asked
line_asked levels of.Resolve = resolve_asked
line_asked levels (of.PrepareCrash server after) = server_asked levels server (prepare_asked (Some after))
line_asked levels (of.ApplyCrash server after) = server_asked levels server (apply_asked (Some after))

-- a line of a transaction that was printed so: the text that it adds, the journals and what is kept of the transaction
pub record IsAnswered (line : asks.Dialogue TxnAnswer) (old new : Progress) (left : TxnSlot) : Type 0 where
  pub text : new.text ≡ old.text ++ printed_line (run_line old.journals line).end.text
  pub journals : new.journals ≡ (run_line old.journals line).after
  pub kept : left ≡ (run_line old.journals line).end.kept

-- ---- states

-- a line that wants a transaction which gathers votes says this in its place
abbrev pub SaysNotVoting : Txn → List ℕ → Type 0
SaysNotVoting txn said = (kept : TxnSlot) (next : VotingView → asks.Dialogue TxnAnswer) → voting_in kept txn next ≡ txn_said kept said

abbrev pub IsClosed : Txn → Closed → List ℕ → List ℕ → Type 0
IsClosed txn (closed.Voting old) before after = (after ≡ before) × ((now : RecorderView) → IsKept now txn → IsKept now (states.Voting old)) × ((kept : TxnSlot) (next : VotingView → asks.Dialogue TxnAnswer) → voting_in kept txn next ≡ next old)
IsClosed txn (closed.Said back) before after = (said : List ℕ) × (after ≡ before ++ printed_line said) × (back ≡ txn) × SaysNotVoting txn said
