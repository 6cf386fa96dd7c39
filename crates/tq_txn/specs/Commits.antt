-- The line that aborts a transaction. The lines that end a transaction: decide and commit.
use Rattle.std.specs.Prelude.{ℕ, Bool, false, not, if◌then◌else◌, Option, Some, None, Result, Err, List, [], ◌∷◌, Ok}
use Rattle.tq_shape.specs.declared.part.Part.TheVariants as parts
use Rattle.tq_desk.specs.declared.ask.DeskAsk.TheVariants as asks
use Rattle.tq_desk.specs.declared.ask.DeskReply.{DeskReply}
use Rattle.tq_desk.specs.declared.ask.DeskReply.TheVariants as replies
use Rattle.tq_txn.specs.{declared.fault.LineFault.LineFault, Lines.{answers, ending_line, prepare_line}, Told.number_of}
use Rattle.tq_txn.specs.Dialogue.{Dialogue, LineEnd, line_done, and_then, desk_line, is_commit, fault_of_desk, line_failed}
use Rattle.tq_txn.specs.declared.txn.Txn.{Txn}
use Rattle.tq_txn.specs.declared.fault.LineFault.TheVariants as faults
use Rattle.tq_asks.specs.declared.ask.Verdict.{Verdict}
use Rattle.tq_txn_states.specs.{declared.told.DeskTold.DeskTold, Ended.{EndedView, verdict_in, ended_with}}
use Rattle.tq_txn_states.specs.{Open.OpenView, Voting.{VotingView, has_votes, evidence_of}}
use Rattle.tq_txn.specs.declared.txn.Txn.TheVariants as states
use Rattle.tq_txn_states.specs.declared.fault.TxnFault.TheVariants as txn_faults

-- a verdict ends the transaction; with none it is as before
abbrev pub resolved_by : Txn → OpenView → ℕ → Option Verdict → Txn
resolved_by before old cite None = before
resolved_by before old cite (Some verdict) = states.Ended (ended_with old cite verdict)

-- one that has ended keeps its verdict
abbrev pub txn_after_resolve : Txn → DeskTold → Txn
txn_after_resolve (states.Open old) told = resolved_by (states.Open old) old told.number (verdict_in old.txn told)
txn_after_resolve (states.Voting old) told = resolved_by (states.Voting old) old.txn told.number (verdict_in old.txn.txn told)
txn_after_resolve (states.Ended old) told = states.Ended old

-- the same by the verdict that the answer tells of it
abbrev pub resolved_with : Txn → ℕ → Option Verdict → Txn
resolved_with (states.Open old) cite verdict = resolved_by (states.Open old) old cite verdict
resolved_with (states.Voting old) cite verdict = resolved_by (states.Voting old) old.txn cite verdict
resolved_with (states.Ended old) cite verdict = states.Ended old

-- an answer that is no abort
abbrev pub abort_answer : DeskReply → Result (Unit {0}) LineFault
abort_answer (replies.Verdict verdict) = Err (faults.Ended (is_commit verdict))
abort_answer (replies.Refused refusal) = Err (fault_of_desk refusal)
abort_answer reply = Err (faults.WrongReply parts.Desk)

abbrev pub is_abort : DeskReply → Bool
is_abort (replies.Verdict verdict) = not (is_commit verdict)
is_abort reply = false

abbrev pub ending_of : EndedView → Dialogue (LineEnd (Unit {0}) Txn)
ending_of ended = and_then (ending_line ended ended.servers) (λ none. states.Ended ended) (λ all none. line_done tt (states.Ended ended))

abbrev pub end_aborted : DeskReply → Txn → Dialogue (LineEnd (Unit {0}) Txn)
end_aborted reply (states.Ended ended) = ending_of ended
end_aborted reply txn = answers (abort_answer reply) txn

-- after an abort, the ending; a transaction that committed has none
abbrev pub abort_end : DeskReply → Txn → Dialogue (LineEnd (Unit {0}) Txn)
abort_end reply txn = if is_abort reply then end_aborted reply txn else answers (abort_answer reply) txn

-- the desk's verdict, and then the ending
abbrev pub abort_line : Txn → Dialogue (LineEnd (Unit {0}) Txn)
abort_line old =
    and_then (desk_line (asks.Resolve (number_of old))) (λ none. old) (λ told none. abort_end told.reply (txn_after_resolve old told))

-- ---- commits

-- the votes of the servers, in their order; one that is there is not asked for
abbrev pub prepares_line : List ℕ → VotingView → Dialogue (LineEnd (Unit {0}) VotingView)
prepares_line [] old = line_done tt old
prepares_line (server ∷ servers) old = and_then (prepare_line old server) (λ new. new) (λ all new. prepares_line servers new)

abbrev pub commit_answer : DeskReply → Result ℕ LineFault
commit_answer (replies.Committed serial) = Ok serial
commit_answer (replies.Refused refusal) = Err (fault_of_desk refusal)
commit_answer reply = Err (faults.WrongReply parts.Desk)

-- an answer that tells how the transaction ended ends it
abbrev pub txn_after_answer : VotingView → DeskTold → Txn
txn_after_answer old told = txn_after_resolve (states.Voting old) told

-- the commit at the desk
abbrev pub ready_line : VotingView → Dialogue (LineEnd ℕ Txn)
ready_line old = and_then (desk_line (evidence_of old)) (λ none. states.Voting old) (λ told none. answers (commit_answer told.reply) (txn_after_answer old told))

-- the commit, where each voter's vote is there
abbrev pub decide_line : VotingView → Dialogue (LineEnd ℕ Txn)
decide_line old = if has_votes old then ready_line old else line_failed (faults.Txn txn_faults.VotesMissing) (states.Voting old)

-- after the commit, the ending
abbrev pub commit_end : ℕ → Txn → Dialogue (LineEnd ℕ Txn)
commit_end serial (states.Ended ended) = and_then (ending_line ended ended.servers) (λ none. states.Ended ended) (λ all none. line_done serial (states.Ended ended))
commit_end serial txn = line_done serial txn

abbrev pub decide_and_end_line : VotingView → Dialogue (LineEnd ℕ Txn)
decide_and_end_line old = and_then (decide_line old) (λ txn. txn) (λ serial txn. commit_end serial txn)

-- the votes still missing, the commit at the desk, and then the ending
abbrev pub commit_line : VotingView → Dialogue (LineEnd ℕ Txn)
commit_line old = and_then (prepares_line old.txn.voters old) (λ new. states.Voting new) (λ all new. decide_and_end_line new)
