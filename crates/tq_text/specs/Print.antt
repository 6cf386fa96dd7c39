-- How answers are printed. The texts of refusals.
use Rattle.std.specs.Prelude.{◌≡◌, ℕ, Bool, cond, List, [], ◌∷◌, ◌++◌, codes, Option, Some, None, true, false, take}
use Rattle.std.specs.{List.flat_map, Fmt.decimal, Global.Vec}
use Rattle.tq_asks.specs.declared.ask.{Verdict.Verdict, Verdict.TheVariants.{Abort, Commit}, NodeRefusal.NodeRefusal}
use Rattle.tq_asks.specs.declared.ask.NodeRefusal.TheVariants.{Down, AlreadyUp, AlreadyDown, Held, Prepared, NotLocked, BadWrites, NotNewer, NothingHere}
use Rattle.tq_asks.specs.declared.ask.Verdict.TheVariants as verdicts
use Rattle.tq_evidence.specs.{declared.op.Op.Op, Evidence.{servers_of, rule_number}}
use Rattle.tq_live.specs.declared.view.{ViewReply.ViewReply, ViewRefusal.ViewRefusal}
use Rattle.tq_live.specs.declared.view.ViewReply.TheVariants as replies
use Rattle.tq_live.specs.declared.view.ViewRefusal.TheVariants as refusals
use Rattle.tq_store.specs.declared.copies.FileCopy.{FileCopy}
use Rattle.tq_txn.specs.declared.txn.{Applied.{Applied, TheVariants.{Installed, Discarded}}, ReadAnswer.ReadAnswer}
use Rattle.tq_txn.specs.declared.{txn.ReadAnswer.TheVariants.{Pending, Copy}, fault.LineFault.LineFault}
use Rattle.tq_shape.specs.declared.part.{Part.Part, Part.TheVariants.{Server, Desk, View}}
use Rattle.tq_desk.specs.declared.ask.DeskRefusal.{DeskRefusal}
use Rattle.tq_desk.specs.declared.ask.DeskRefusal.TheVariants as desk
use Rattle.tq_txn_states.specs.declared.fault.TxnFault.{TxnFault}
use Rattle.tq_txn_states.specs.declared.fault.TxnFault.TheVariants as txn
use Rattle.tq_txn.specs.declared.fault.LineFault.TheVariants as faults

-- a text goes on from what stood in it
abbrev pub Extends : List ℕ → List ℕ → Type 0
Extends old new = (more : List ℕ) × (new ≡ old ++ more)

-- a printed line
abbrev pub printed_line : List ℕ → List ℕ
printed_line text = text ++ 10 ∷ []

-- these bytes were put behind the text
abbrev pub Appends : Vec ℕ → Vec ℕ → List ℕ → Type 0
Appends old new bytes = new.items ≡ old.items ++ bytes

-- these bytes were, as a line
abbrev pub Prints : Vec ℕ → Vec ℕ → List ℕ → Type 0
Prints old new line = Appends old new (printed_line line)

-- numbers, each with a space before it
abbrev pub numbers_text : List ℕ → List ℕ
numbers_text numbers = flat_map (λ number. 32 ∷ decimal number) numbers

-- what is printed for a view's reply to Choose, which is one of two
abbrev pub choice_text : ViewReply → List ℕ
choice_text (replies.Chosen quorum cost) = codes "quorum" ++ numbers_text quorum.servers ++ codes " cost " ++ decimal cost
choice_text (replies.Refused (refusals.Blocked blocker)) = codes "blocked by" ++ numbers_text blocker.servers
choice_text _ = []

abbrev pub mark_word : Bool → List ℕ
mark_word up = cond up (codes "up ") (codes "down ")

-- the servers that an operation rests on
abbrev pub op_servers : Option Op → List ℕ
op_servers None = []
op_servers (Some op) = servers_of op

abbrev pub bracketed_text : List ℕ → List ℕ
bracketed_text content = codes " [" ++ content ++ codes "]"

abbrev pub version_text : List ℕ → ℕ → List ℕ
version_text file version = file ++ codes " version " ++ decimal version

-- a file as the transaction reads it; the operation is its read of the file
abbrev pub reading_text : List ℕ → Option Op → ReadAnswer → List ℕ
reading_text file op (Pending content) = file ++ codes " pending [" ++ content ++ codes "]"
reading_text file op (Copy copy) = version_text file copy.version ++ codes " from" ++ numbers_text (op_servers op) ++ bracketed_text copy.content

-- the same of a copy that a server has
abbrev pub copy_text : List ℕ → Option Op → FileCopy → List ℕ
copy_text file op copy = reading_text file op (Copy copy)

-- the version that the transaction makes of a file; the operation is its write to the file
abbrev pub writing_text : List ℕ → Option Op → ℕ → List ℕ
writing_text file op version = codes "write " ++ version_text file version ++ codes " at" ++ numbers_text (op_servers op)

abbrev pub applied_text : ℕ → Applied → List ℕ
applied_text server Installed = codes "installed " ++ decimal server
applied_text server Discarded = codes "discarded " ++ decimal server

abbrev pub verdict_text : Verdict → List ℕ
verdict_text verdicts.Abort = codes "verdict abort"
verdict_text (verdicts.Commit votes) = codes "verdict commit"

-- ---- refusals

abbrev pub part_text : Part → List ℕ
part_text (Server number) = codes "server " ++ decimal number
part_text Desk = codes "desk"
part_text View = codes "view"

-- how a transaction ended, which was to go on
abbrev pub ended_text : Bool → List ℕ
ended_text true = codes "decided commit"
ended_text false = codes "decided abort"

-- how a transaction ended
abbrev pub decided_text : Verdict → List ℕ
decided_text Abort = codes "decided abort"
decided_text (Commit votes) = codes "decided commit"

-- a server's refusal (the shell makes no ask that finds a server up or down already and prints it)
abbrev pub server_refusal_text : ℕ → NodeRefusal → List ℕ
server_refusal_text server Down = codes "down at " ++ decimal server
server_refusal_text server AlreadyUp = codes "up at " ++ decimal server
server_refusal_text server AlreadyDown = codes "down at " ++ decimal server
server_refusal_text server (Held by) = codes "held by " ++ decimal by ++ codes " at " ++ decimal server
server_refusal_text server Prepared = codes "prepared at " ++ decimal server
server_refusal_text server (NotLocked file) = codes "not locked " ++ file ++ codes " at " ++ decimal server
server_refusal_text server BadWrites = codes "bad writes at " ++ decimal server
server_refusal_text server NotNewer = codes "not newer at " ++ decimal server
server_refusal_text server NothingHere = codes "nothing at " ++ decimal server

abbrev pub desk_refusal_text : DeskRefusal → List ℕ
desk_refusal_text desk.NoSuchTxn = codes "no such transaction"
desk_refusal_text (desk.Decided verdict) = decided_text verdict
desk_refusal_text desk.TooManyOps = codes "too many operations"
desk_refusal_text (desk.BadEvidence rule) = codes "bad evidence " ++ decimal (rule_number rule)
desk_refusal_text desk.TooManyFiles = codes "too many files"

abbrev pub view_refusal_text : ViewRefusal → List ℕ
view_refusal_text refusals.NoSuchServer = codes "no such server"
view_refusal_text refusals.BadCost = codes "bad cost"
view_refusal_text (refusals.Blocked blocker) = codes "blocked by" ++ numbers_text blocker.servers

-- why a transaction does not go on; the numbers are those of the servers whose votes are missing or refused, that of the
-- refused one first
abbrev pub txn_fault_text : List ℕ → TxnFault → List ℕ
txn_fault_text servers txn.TooManyOps = codes "too many operations"
txn_fault_text servers txn.VersionFull = codes "version full"
txn_fault_text servers txn.NoOps = codes "nothing to commit"
txn_fault_text servers txn.NotAVoter = codes "not a voter" ++ numbers_text (take 1 servers)
txn_fault_text servers (txn.LostLock file) = codes "lost lock " ++ file ++ codes " at" ++ numbers_text (take 1 servers)
txn_fault_text servers txn.VotesMissing = codes "votes missing" ++ numbers_text servers
txn_fault_text servers other = codes "bad answer"

-- why a line ended before its end
abbrev pub fault_text : List ℕ → LineFault → List ℕ
fault_text servers faults.Memory = []
fault_text servers (faults.JournalFull part) = codes "journal full " ++ part_text part
fault_text servers (faults.Unfounded part number) = codes "unfounded " ++ part_text part ++ codes " " ++ decimal number
fault_text servers (faults.Txn fault) = txn_fault_text servers fault
fault_text servers (faults.Server server refusal) = server_refusal_text server refusal
fault_text servers (faults.Desk refusal) = desk_refusal_text refusal
fault_text servers (faults.Ended committed) = ended_text committed
fault_text servers (faults.View refusal) = view_refusal_text refusal
fault_text servers (faults.WrongReply part) = codes "bad answer"

-- memory was refused: such a line prints nothing
abbrev pub is_memory : LineFault → Bool
is_memory faults.Memory = true
is_memory fault = false
