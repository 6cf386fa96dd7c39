-- What a line asks and answers: a tree of asks with a branch for each answer, and at its ends what the line answers.
use Rattle.std.specs.Prelude.{◌≡◌, ◌⊎◌, ℕ, Bool, true, false, List, [], ◌∷◌, ◌++◌, Option, Some, None, Result, Ok, Err}
use Rattle.tq_asks.specs.declared.ask.{NodeAsk.NodeAsk, NodeReply.NodeReply, Verdict.Verdict}
use Rattle.tq_desk.specs.declared.ask.{DeskAsk.DeskAsk, DeskRefusal.DeskRefusal, DeskRefusal.TheVariants.Decided}
use Rattle.tq_desk.specs.declared.ask.DeskReply.{DeskReply}
use Rattle.tq_asks.specs.declared.ask.Verdict.TheVariants as verdicts
use Rattle.tq_live.specs.declared.view.{ViewAsk.ViewAsk, ViewReply.ViewReply}
use Rattle.tq_shape.specs.declared.{fault.AskFault.AskFault, journaled.Answered.Answered}
use Rattle.tq_shape.specs.declared.fault.AskFault.TheVariants as ask_faults
use Rattle.tq_txn.specs.declared.{asker.Exchange.Exchange, asker.ViewTold.ViewTold, fault.LineFault.LineFault}
use Rattle.tq_txn.specs.declared.asker.Exchange.TheVariants as exchanges
use Rattle.tq_txn.specs.declared.fault.LineFault.TheVariants as faults
use Rattle.tq_txn_states.specs.declared.{fault.TxnFault.TxnFault, told.DeskTold.DeskTold, told.NodeTold.NodeTold}
use Rattle.tq_txn_states.specs.declared.fault.TxnFault.TheVariants as txn_faults

-- what is told of an ask: the part's reply with the number of its entry, or why it was not taken
abbrev pub Told : Type 0 → Type 0
Told R = Result (Answered R) AskFault

pub data Dialogue (A : Type 0) : Type 0 where
  Ends : A → Dialogue A
  AsksNode : ℕ → NodeAsk → (Told NodeReply → Dialogue A) → Dialogue A
  AsksDesk : DeskAsk → (Told DeskReply → Dialogue A) → Dialogue A
  AsksView : ViewAsk → (Told ViewReply → Dialogue A) → Dialogue A

-- the whole line was asked, with these answers, and ended so
abbrev pub Makes : {A : Type 0} → Dialogue A → List Exchange → A → Type 0
Makes (Ends a) told end = (told ≡ []) × (end ≡ a)
Makes (AsksNode server ask next) told end = (answer : Told NodeReply) × (rest : List Exchange) × (told ≡ exchanges.Node server ask answer ∷ rest) × Makes (next answer) rest end
Makes (AsksDesk ask next) told end = (answer : Told DeskReply) × (rest : List Exchange) × (told ≡ exchanges.Desk ask answer ∷ rest) × Makes (next answer) rest end
Makes (AsksView ask next) told end = (answer : Told ViewReply) × (rest : List Exchange) × (told ≡ exchanges.View ask answer ∷ rest) × Makes (next answer) rest end

-- these asks, with these answers, are the first of the line
abbrev pub Begins : {A : Type 0} → Dialogue A → List Exchange → Type 0
Begins (Ends a) told = told ≡ []
Begins (AsksNode server ask next) told = (told ≡ []) ⊎ ((answer : Told NodeReply) × (rest : List Exchange) × (told ≡ exchanges.Node server ask answer ∷ rest) × Begins (next answer) rest)
Begins (AsksDesk ask next) told = (told ≡ []) ⊎ ((answer : Told DeskReply) × (rest : List Exchange) × (told ≡ exchanges.Desk ask answer ∷ rest) × Begins (next answer) rest)
Begins (AsksView ask next) told = (told ≡ []) ⊎ ((answer : Told ViewReply) × (rest : List Exchange) × (told ≡ exchanges.View ask answer ∷ rest) × Begins (next answer) rest)

-- what was told grew by the asks of the line, which ended so; where memory ran out, by the first of them
abbrev pub Follows : {A : Type 0} → Dialogue A → List Exchange → List Exchange → Option A → Type 0
Follows line old new (Some end) = (more : List Exchange) × (new ≡ old ++ more) × Makes line more end
Follows line old new None = (more : List Exchange) × (new ≡ old ++ more) × Begins line more

-- ---- lines after one another

abbrev pub then_line : {A B : Type 0} → Dialogue A → (A → Dialogue B) → Dialogue B
then_line (Ends a) next = next a
then_line (AsksNode server ask more) next = AsksNode server ask (λ answer. then_line (more answer) next)
then_line (AsksDesk ask more) next = AsksDesk ask (λ answer. then_line (more answer) next)
then_line (AsksView ask more) next = AsksView ask (λ answer. then_line (more answer) next)

-- what a line answers, and what it leaves the transaction as
pub record LineEnd (A S : Type 0) : Type 0 where
  pub answer : Result A LineFault
  pub after : S

abbrev pub line_done : {A S : Type 0} → A → S → Dialogue (LineEnd A S)
line_done a after = Ends (record { answer = Ok a; after = after })

abbrev pub line_failed : {A S : Type 0} → LineFault → S → Dialogue (LineEnd A S)
line_failed fault after = Ends (record { answer = Err fault; after = after })

abbrev pub go_on : {A B T : Type 0} → Result A LineFault → T → (A → Dialogue (LineEnd B T)) → Dialogue (LineEnd B T)
go_on (Ok a) after next = next a
go_on (Err fault) after next = line_failed fault after

-- the line goes on, unless its first part was refused
abbrev pub and_then : {A S B T : Type 0} → Dialogue (LineEnd A S) → (S → T) → (A → S → Dialogue (LineEnd B T)) → Dialogue (LineEnd B T)
and_then line left next = then_line line (λ end. go_on end.answer (left end.after) (λ a. next a end.after))

-- the line goes on, unless there is a cause for a fault
abbrev pub unless : {A S : Type 0} → Option TxnFault → S → Dialogue (LineEnd A S) → Dialogue (LineEnd A S)
unless None after line = line
unless (Some fault) after line = line_failed (faults.Txn fault) after

-- how a call ended: no end of the line where memory ran out
abbrev pub ended_by : {A S : Type 0} → Result A LineFault → S → Option (LineEnd A S)
ended_by (Err faults.Memory) after = None
ended_by result after = Some (record { answer = result; after = after })

-- ---- faults

abbrev pub fault_of_ask : AskFault → LineFault
fault_of_ask ask_faults.Memory = faults.Memory
fault_of_ask (ask_faults.JournalFull part) = faults.JournalFull part
fault_of_ask (ask_faults.Unfounded part number) = faults.Unfounded part number

-- what a line of one ask answers
abbrev pub line_result : {T : Type 0} → Result T AskFault → Result T LineFault
line_result (Ok told) = Ok told
line_result (Err fault) = Err (fault_of_ask fault)

abbrev pub fault_of_txn : TxnFault → LineFault
fault_of_txn txn_faults.Memory = faults.Memory
fault_of_txn fault = faults.Txn fault

-- whether the transaction ended by a commit
abbrev pub is_commit : Verdict → Bool
is_commit verdicts.Abort = false
is_commit (verdicts.Commit votes) = true

-- what the desk refuses for; where it tells that the transaction has ended, its state tells the verdict
abbrev pub fault_of_desk : DeskRefusal → LineFault
fault_of_desk (Decided verdict) = faults.Ended (is_commit verdict)
fault_of_desk refusal = faults.Desk refusal

-- ---- one ask

-- an ask that met want of memory is not told
abbrev pub unless_memory : AskFault → Exchange → List Exchange
unless_memory ask_faults.Memory exchange = []
unless_memory fault exchange = exchange ∷ []

abbrev pub node_exchange : ℕ → NodeAsk → Result NodeTold AskFault → List Exchange
node_exchange server ask (Ok told) = exchanges.Node server ask (Ok (record { number = told.number; reply = told.reply })) ∷ []
node_exchange server ask (Err fault) = unless_memory fault (exchanges.Node server ask (Err fault))

abbrev pub desk_exchange : DeskAsk → Result DeskTold AskFault → List Exchange
desk_exchange ask (Ok told) = exchanges.Desk ask (Ok (record { number = told.number; reply = told.reply })) ∷ []
desk_exchange ask (Err fault) = unless_memory fault (exchanges.Desk ask (Err fault))

abbrev pub view_exchange : ViewAsk → Result ViewTold AskFault → List Exchange
view_exchange ask (Ok told) = exchanges.View ask (Ok (record { number = told.number; reply = told.reply })) ∷ []
view_exchange ask (Err fault) = unless_memory fault (exchanges.View ask (Err fault))

-- where an ask was not taken the line ends
abbrev pub on_told : {R T : Type 0} → (ℕ → R → T) → Told R → Dialogue (LineEnd T (Unit {0}))
on_told told_as (Ok answered) = line_done (told_as answered.number answered.reply) tt
on_told told_as (Err fault) = line_failed (fault_of_ask fault) tt

abbrev pub node_line : ℕ → NodeAsk → Dialogue (LineEnd NodeTold (Unit {0}))
node_line server ask = AsksNode server ask (on_told (λ number reply. record { server = server; number = number; ask = ask; reply = reply }))

abbrev pub desk_line : DeskAsk → Dialogue (LineEnd DeskTold (Unit {0}))
desk_line ask = AsksDesk ask (on_told (λ number reply. record { number = number; ask = ask; reply = reply }))

abbrev pub view_line : ViewAsk → Dialogue (LineEnd ViewTold (Unit {0}))
view_line ask = AsksView ask (on_told (λ number reply. record { number = number; ask = ask; reply = reply }))
