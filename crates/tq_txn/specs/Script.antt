-- What the lines of a client's script ask, in order, each ask as the answers before demand. A client has at most one
-- transaction at a time. Its commits are two-phase commits, as in Bernstein, Hadzilacos and Goodman 1987.
use Rattle.std.specs.Prelude.{ℕ, Bool, true, false, cond, List, [], ◌∷◌, Option, Some, None, Result, Ok, Err}
use Rattle.tq_shape.specs.{Limits.LimitsView, Journal.is_empty, declared.fault.AskFault.AskFault}
use Rattle.tq_shape.specs.declared.fault.AskFault.TheVariants as ask_faults
use Rattle.tq_asks.specs.declared.ask.{NodeAsk.NodeAsk, NodeAsk.TheVariants.{Crash, Return}}
use Rattle.tq_desk.specs.declared.ask.DeskAsk.TheVariants as desk_asks
use Rattle.tq_desk.specs.declared.ask.DeskReply.{DeskReply}
use Rattle.tq_desk.specs.declared.ask.DeskReply.TheVariants as replies
use Rattle.tq_live.specs.{View.is_server, declared.view.ViewAsk.ViewAsk}
use Rattle.tq_live.specs.declared.view.ViewAsk.TheVariants as view_asks
use Rattle.tq_txn_states.specs.{Open.{OpenView, opening_txn}, Voting.{VotingView, voting_of}}
use Rattle.tq_txn_states.specs.declared.told.DeskTold.{DeskTold}
use Rattle.tq_txn.specs.declared.{fault.LineFault.LineFault, txn.Txn.Txn, asker.ViewTold.ViewTold}
use Rattle.tq_txn.specs.Dialogue.{Told, Dialogue, LineEnd, Ends, AsksDesk, then_line, view_line}
use Rattle.tq_txn.specs.{Lines.{any_line, read_line, write_line}, Commits.{commit_line, abort_line}}
use Rattle.tq_txn.specs.declared.fault.LineFault.TheVariants as faults
use Rattle.tq_txn.specs.declared.txn.Txn.TheVariants as states
use Rattle.tq_syntax.specs.declared.script.Line.{Line}
use Rattle.tq_syntax.specs.declared.script.Line.TheVariants as is

-- the line is asked, and leaves this
abbrev pub leaving : {S : Type 0} → S → Dialogue (Unit {0}) → Dialogue S
leaving after line = then_line line (λ asked. Ends after)

-- ---- the lines that concern no transaction

-- an answer of the view was waited for, unless memory ran out
abbrev pub view_wait : Result ViewTold AskFault → Option (Unit {0})
view_wait (Err ask_faults.Memory) = None
view_wait answer = Some tt

-- an ask of the view, whatever it answers
abbrev pub view_asked : ViewAsk → Dialogue (Unit {0})
view_asked ask = then_line (view_line ask) (λ end. Ends tt)

abbrev pub mark_ask : Bool → NodeAsk
mark_ask up = cond up Return Crash

-- whatever the server answers, the view is asked
abbrev pub mark_line : ℕ → Bool → Dialogue (LineEnd ViewTold (Unit {0}))
mark_line server up = then_line (any_line server (mark_ask up)) (λ end. view_line (view_asks.Mark server up))

-- whatever the view answers as well
abbrev pub server_marked : ℕ → Bool → Dialogue (Unit {0})
server_marked server up = then_line (mark_line server up) (λ end. Ends tt)

-- outside the tree the view is asked alone
abbrev pub mark_asked : ℕ → ℕ → Bool → Dialogue (Unit {0})
mark_asked levels server up = cond (is_server levels server) (server_marked server up) (view_asked (view_asks.Mark server up))

-- ---- begin and abort

-- whether a line was answered or refused, unless memory ran out
abbrev pub was_answered : {A : Type 0} → Result A LineFault → Option Bool
was_answered (Ok a) = Some true
was_answered (Err faults.Memory) = None
was_answered (Err fault) = Some false

-- a line was answered, and not refused
abbrev pub is_answered : {A : Type 0} → Result A LineFault → Bool
is_answered (Ok a) = true
is_answered (Err fault) = false

-- a transaction is aborted, whatever is answered, and none is left open
abbrev pub given_up : Txn → Dialogue (Option OpenView)
given_up txn = then_line (abort_line txn) (λ end. Ends None)

-- what is open is aborted
abbrev pub closing : Option OpenView → Dialogue (Option OpenView)
closing None = Ends None
closing (Some txn) = given_up (states.Open txn)

-- the transaction that the desk's reply begins; none where it refuses
abbrev pub txn_of_reply : ℕ → LimitsView → DeskReply → Option OpenView
txn_of_reply levels limits (replies.Txn number) = Some (opening_txn levels limits number)
txn_of_reply levels limits reply = None

abbrev pub desk_opened : ℕ → LimitsView → Told DeskReply → Option OpenView
desk_opened levels limits (Ok answered) = txn_of_reply levels limits answered.reply
desk_opened levels limits (Err fault) = None

abbrev pub desk_begun : ℕ → LimitsView → Dialogue (Option OpenView)
desk_begun levels limits = AsksDesk desk_asks.Begin (λ answer. Ends (desk_opened levels limits answer))

-- what an answer to a begin leaves open, unless memory ran out
abbrev pub txn_of_answer : ℕ → LimitsView → Result DeskTold AskFault → Option (Option OpenView)
txn_of_answer levels limits (Ok told) = Some (txn_of_reply levels limits told.reply)
txn_of_answer levels limits (Err ask_faults.Memory) = None
txn_of_answer levels limits (Err fault) = Some None

-- a transaction begins, after the one that is open was aborted
abbrev pub begin_asked : ℕ → LimitsView → Option OpenView → Dialogue (Option OpenView)
begin_asked levels limits txn = then_line (closing txn) (λ none. desk_begun levels limits)

-- ---- the lines of the open transaction

-- it stays open after what was answered; what was refused aborts it
abbrev pub after : Bool → OpenView → Dialogue (Option OpenView)
after true txn = Ends (Some txn)
after false txn = given_up (states.Open txn)

abbrev pub read_asked : List ℕ → OpenView → Dialogue (Option OpenView)
read_asked file txn = then_line (read_line txn file) (λ end. after (is_answered end.answer) end.after)

abbrev pub write_asked : List ℕ → List ℕ → OpenView → Dialogue (Option OpenView)
write_asked file content txn = then_line (write_line txn file content) (λ end. after (is_answered end.answer) end.after)

-- a commit that is refused aborts
abbrev pub after_commit : Bool → Txn → Dialogue (Option OpenView)
after_commit true txn = Ends None
after_commit false txn = given_up txn

abbrev pub voting_asked : VotingView → Dialogue (Option OpenView)
voting_asked voting = then_line (commit_line voting) (λ end. after_commit (is_answered end.answer) end.after)

-- a transaction that read and wrote nothing has nothing to commit: that is refused, too
abbrev pub commit_asked : OpenView → Dialogue (Option OpenView)
commit_asked txn = cond (is_empty txn.ops) (given_up (states.Open txn)) (voting_asked (voting_of txn))

-- where no transaction is open nothing is asked
abbrev pub in_open : (OpenView → Dialogue (Option OpenView)) → Option OpenView → Dialogue (Option OpenView)
in_open line None = Ends None
in_open line (Some txn) = line txn

-- ---- all lines

-- a line, and the transaction that it leaves open
abbrev pub line_asked : ℕ → LimitsView → Line → Option OpenView → Dialogue (Option OpenView)
line_asked levels limits (is.Cost server read write) txn = leaving txn (view_asked (view_asks.SetCost server read write))
line_asked levels limits (is.Down server) txn = leaving txn (mark_asked levels server false)
line_asked levels limits (is.Up server) txn = leaving txn (mark_asked levels server true)
line_asked levels limits (is.Choose purpose) txn = leaving txn (view_asked (view_asks.Choose purpose))
line_asked levels limits is.Begin txn = begin_asked levels limits txn
line_asked levels limits (is.Read file) txn = in_open (read_asked file) txn
line_asked levels limits (is.Write file content) txn = in_open (write_asked file content) txn
line_asked levels limits is.Commit txn = in_open commit_asked txn
line_asked levels limits is.Abort txn = closing txn

-- the lines one after another; a transaction that is open at the end is aborted
abbrev pub script_asked : ℕ → LimitsView → List Line → Option OpenView → Dialogue (Unit {0})
script_asked levels limits [] txn = then_line (closing txn) (λ none. Ends tt)
script_asked levels limits (line ∷ lines) txn = then_line (line_asked levels limits line txn) (λ left. script_asked levels limits lines left)
