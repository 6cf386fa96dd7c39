-- A line in a world: the service answers each of its asks, and the next is made as the answers demand. The asks of a
-- service in their order, and the worlds that they lead through. How far a session is.
use Rattle.std.specs.Prelude.{ℕ, suc, nat_le, List, [], ◌∷◌, length, Option, Some, None, Ok, Err, if◌then◌else◌, ◌≡◌, ◌++◌}
use Rattle.std.specs.{List.All, Option.option_map, Global.Vec}
use Rattle.tq_shape.specs.{Journal.entry, declared.part.Part.Part, declared.fault.AskFault.AskFault, Limits.LimitsView}
use Rattle.tq_shape.specs.declared.fault.AskFault.TheVariants.{JournalFull, Unfounded, Memory}
use Rattle.tq_shape.specs.declared.part.Part.TheVariants as parts
use Rattle.tq_asks.specs.declared.ask.{NodeAsk.NodeAsk, NodeReply.NodeReply}
use Rattle.tq_desk.specs.declared.ask.{DeskAsk.DeskAsk, DeskReply.DeskReply}
use Rattle.tq_live.specs.declared.view.{ViewAsk.ViewAsk, ViewReply.ViewReply}
use Rattle.tq_tables.specs.Journals.{JournalsView}
use Rattle.tq_core.specs.{declared.answer.Step.Step, declared.citation.Citation.Citation, World.{item_at, server_entry}}
use Rattle.tq_core.specs.Founded.{unfounded_in_node_ask, unfounded_in_desk_ask}
use Rattle.tq_core.specs.Steps.{server_journal, node_entry, desk_entry, view_entry, world_after}
use Rattle.tq_core.specs.declared.answer.Step.TheVariants as steps
use Rattle.tq_txn.specs.declared.asker.Exchange.{Exchange}
use Rattle.tq_txn.specs.Dialogue.{Told, Dialogue, Ends, AsksNode, AsksDesk, AsksView, unless_memory}
use Rattle.tq_txn.specs.declared.asker.Exchange.TheVariants as exchanges
use base.Stored.{Gv, gnil, gnum, gcons}
use Rattle.tq_asks.specs.declared.ask.NodeAsk.TheVariants as asks
use Rattle.tq_asks.specs.declared.ask.WorkAsk.TheVariants as work
use Rattle.tq_locks.specs.declared.mode.Mode.TheVariants as modes
use Rattle.tq_tables.specs.contracts.journals.Journals as journals_type

-- why a part with so many entries does not take an ask: its journal is full, or else the ask cites an entry that does not stand
abbrev pub untaken_at : JournalsView → Part → ℕ → Option Citation → Option AskFault
untaken_at world part entries unfounded =
    if nat_le world.limits.entries entries then Some (JournalFull part) else option_map (λ citation. Unfounded citation.part citation.number) unfounded

-- why an ask of a part is not taken
abbrev pub step_refusal : JournalsView → Step → Option AskFault
step_refusal world (steps.Node server ask) = untaken_at world (parts.Server server) (length (server_journal world server)) (unfounded_in_node_ask world ask)
step_refusal world (steps.Desk ask) = untaken_at world parts.Desk (length world.desk) (unfounded_in_desk_ask world ask)
step_refusal world (steps.View ask) = untaken_at world parts.View (length world.view) None

-- what is told of an ask: the part's reply with the number of its entry, or why it was not taken
abbrev pub told_by : {R : Type 0} → Option AskFault → ℕ → R → Told R
told_by None number reply = Ok (record { number = number; reply = reply })
told_by (Some fault) number reply = Err fault

abbrev pub node_told : JournalsView → ℕ → NodeAsk → Told NodeReply
node_told world server ask = told_by (step_refusal world (steps.Node server ask)) (suc (length (server_journal world server))) (node_entry world server ask).reply

abbrev pub desk_told : JournalsView → DeskAsk → Told DeskReply
desk_told world ask = told_by (step_refusal world (steps.Desk ask)) (suc (length world.desk)) (desk_entry world ask).reply

abbrev pub view_told : JournalsView → ViewAsk → Told ViewReply
view_told world ask = told_by (step_refusal world (steps.View ask)) (suc (length world.view)) (view_entry world ask).reply

-- a line that was asked in a world: what was told, how it ended, and the world after it
pub record Ran (A : Type 0) : Type 0 where
  pub exchanges : List Exchange
  pub end : A
  pub after : JournalsView

abbrev pub exchange_first : {A : Type 0} → Exchange → Ran A → Ran A
exchange_first first ran = record { exchanges = first ∷ ran.exchanges; end = ran.end; after = ran.after }

abbrev pub run_line : {A : Type 0} → JournalsView → Dialogue A → Ran A
run_line world (Ends end) = record { exchanges = []; end = end; after = world }
run_line world (AsksNode server ask next) =
    exchange_first (exchanges.Node server ask (node_told world server ask)) (run_line (world_after world (steps.Node server ask)) (next (node_told world server ask)))
run_line world (AsksDesk ask next) =
    exchange_first (exchanges.Desk ask (desk_told world ask)) (run_line (world_after world (steps.Desk ask)) (next (desk_told world ask)))
run_line world (AsksView ask next) =
    exchange_first (exchanges.View ask (view_told world ask)) (run_line (world_after world (steps.View ask)) (next (view_told world ask)))

-- ---- recorded

-- what callers see of a recorder: the journals of its service, and each ask with what was told of it
pub record RecorderView : Type 0 where
  pub journals : JournalsView
  pub told : List Exchange

-- what an ask with that answer adds to what was told: nothing where it met want of memory
abbrev pub told_exchanges : {R : Type 0} → Told R → Exchange → List Exchange
told_exchanges (Ok answered) exchange = exchange ∷ []
told_exchanges (Err fault) exchange = unless_memory fault exchange

-- ---- the worlds that the asks lead through

abbrev pub step_of : Exchange → Step
step_of (exchanges.Node server ask answer) = steps.Node server ask
step_of (exchanges.Desk ask answer) = steps.Desk ask
step_of (exchanges.View ask answer) = steps.View ask

-- the ask was told what the service answers in the world
abbrev pub Matches : JournalsView → Exchange → Type 0
Matches world (exchanges.Node server ask answer) = answer ≡ node_told world server ask
Matches world (exchanges.Desk ask answer) = answer ≡ desk_told world ask
Matches world (exchanges.View ask answer) = answer ≡ view_told world ask

-- the asks, each told what the service answers in its turn, lead from one world to the other
abbrev pub Replays : JournalsView → List Exchange → JournalsView → Type 0
Replays old [] new = new ≡ old
Replays old (first ∷ rest) new = Matches old first × Replays (world_after old (step_of first)) rest new

-- the greatest limits
abbrev pub full_limits : LimitsView
full_limits = record { files = 1000; ops = 64; entries = 1000000 }

-- ---- where the asks began

-- a tree of numbers as a list of them
abbrev pub coded_numbers : Gv → List ℕ
coded_numbers gnil = 0 ∷ []
coded_numbers (gnum n) = 1 ∷ n ∷ []
coded_numbers (gcons a b) = 2 ∷ (coded_numbers a ++ coded_numbers b)

-- It stands before all that was told, and names the journals that the first ask found: so two recorders of which one was told
-- what the other was, and more, began at the same journals. No ask is told so: those that met want of memory are not told.
abbrev pub mark_of : JournalsView → Exchange
mark_of start = exchanges.Node 0 (asks.Work (work.Lock modes.Shared 0 (coded_numbers (journals_type.the_row.coded.code start)))) (Err Memory)

-- what a server or the desk answered stands in its journal, under its number
abbrev pub StandsIn : JournalsView → Exchange → Type 0
StandsIn world (exchanges.Node server ask (Ok told)) = server_entry world server told.number ≡ Some (entry ask told.reply)
StandsIn world (exchanges.Desk ask (Ok told)) = item_at world.desk told.number ≡ Some (entry ask told.reply)
StandsIn world exchange = Unit {0}

-- replaying what was told, from where the asks began, leads to these journals, in which the answers stand
pub record IsReplayed (a : RecorderView) : Type 0 where
  pub start : JournalsView
  pub since : List Exchange
  pub told_is : a.told ≡ mark_of start ∷ since
  pub replays : Replays start since a.journals
  pub stands : All (StandsIn a.journals) a.told

-- ---- progress

-- how far a session is: the journals of its service, and the text that was written
pub record Progress : Type 0 where
  pub journals : JournalsView
  pub text : List ℕ

abbrev pub progress_of : RecorderView → Vec ℕ → Progress
progress_of recorder text = record { journals = recorder.journals; text = text.items }
