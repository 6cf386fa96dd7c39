-- What the service answers to a step, and the world after it: the run of a list of steps.
use Rattle.std.specs.Prelude.{◌≡◌, ◌-◌, ℕ, suc, Bool, true, false, nat_le, List, [], ◌∷◌, ◌++◌, length, Option, Some, None, Result, Ok, Err, slice_set, if◌then◌else◌, fold}
use Rattle.std.specs.Option.{unwrap_or}
use Rattle.tq_shape.specs.{Limits.LimitsView, Journal.{entry, state_at}, declared.part.Part.Part}
use Rattle.tq_shape.specs.declared.part.Part.TheVariants.{Server, Desk, View}
use Rattle.tq_asks.specs.declared.ask.NodeAsk.{NodeAsk}
use Rattle.tq_node.specs.{Records.node_reply, NodeJournal.NodeEntry}
use Rattle.tq_desk.specs.{declared.ask.DeskAsk.DeskAsk, DeskStep.desk_reply, DeskJournal.DeskEntry}
use Rattle.tq_live.specs.{declared.view.ViewAsk.ViewAsk, View.view_reply}
use Rattle.tq_tables.specs.Journals.{JournalsView, ViewEntry, no_entries}
use Rattle.tq_core.specs.declared.answer.{Answer.Answer, Refusal.Refusal, Step.Step}
use Rattle.tq_core.specs.declared.answer.Refusal.TheVariants.{Memory, NoSuchServer, JournalFull, Unfounded}
use Rattle.tq_core.specs.{declared.citation.Citation.Citation, World.{item_at, node_at, desk_at, view_at}}
use Rattle.tq_core.specs.Founded.{unfounded_in_node_ask, unfounded_in_desk_ask}
use Rattle.tq_core.specs.declared.answer.Reply.TheVariants as replies
use Rattle.tq_core.specs.declared.answer.Step.TheVariants as steps

-- ---- what a step is refused for

abbrev pub refuse_unfounded : Option Citation → Option Refusal
refuse_unfounded None = None
refuse_unfounded (Some citation) = Some (Unfounded citation.part citation.number)

-- a journal with so many entries is full, or else the ask cites an entry that does not stand
abbrev pub refuse_entry : JournalsView → Part → ℕ → Option Citation → Option Refusal
refuse_entry world part entries unfounded = if nat_le world.limits.entries entries then Some (JournalFull part) else refuse_unfounded unfounded

abbrev pub refuse_at : JournalsView → ℕ → Option (List NodeEntry) → Option Citation → Option Refusal
refuse_at world server None unfounded = Some NoSuchServer
refuse_at world server (Some entries) unfounded = refuse_entry world (Server server) (length entries) unfounded

-- the first reason that holds
abbrev pub refusal : JournalsView → Step → Option Refusal
refusal world (steps.Node server ask) = refuse_at world server (item_at world.servers server) (unfounded_in_node_ask world ask)
refusal world (steps.Desk ask) = refuse_entry world Desk (length world.desk) (unfounded_in_desk_ask world ask)
refusal world (steps.View ask) = refuse_entry world View (length world.view) None

-- ---- what it is answered, where it is not refused: the part's own reply, after the entries of its journal

abbrev pub server_journal : JournalsView → ℕ → List NodeEntry
server_journal world server = unwrap_or (item_at world.servers server) []

abbrev pub node_entry : JournalsView → ℕ → NodeAsk → NodeEntry
node_entry world server ask = entry ask (node_reply server (node_at server (server_journal world server)) ask)

abbrev pub desk_entry : JournalsView → DeskAsk → DeskEntry
desk_entry world ask = entry ask (desk_reply (desk_at world.levels world.limits world.desk) ask)

abbrev pub view_entry : JournalsView → ViewAsk → ViewEntry
view_entry world ask = entry ask (view_reply (view_at world.levels world.view) ask)

abbrev pub answer : JournalsView → Step → Answer
answer world (steps.Node server ask) = record { number = suc (length (server_journal world server)); reply = replies.Node (node_entry world server ask).reply }
answer world (steps.Desk ask) = record { number = suc (length world.desk); reply = replies.Desk (desk_entry world ask).reply }
answer world (steps.View ask) = record { number = suc (length world.view); reply = replies.View (view_entry world ask).reply }

-- the world with the ask and its reply at the end of the part's journal
abbrev pub world_with_step : JournalsView → Step → JournalsView
world_with_step world (steps.Node server ask) =
    record {
      levels = world.levels;
      limits = world.limits;
      servers = slice_set world.servers (server - 1) (server_journal world server ++ node_entry world server ask ∷ []);
      desk = world.desk;
      view = world.view;
    }
world_with_step world (steps.Desk ask) = record { levels = world.levels; limits = world.limits; servers = world.servers; desk = world.desk ++ desk_entry world ask ∷ []; view = world.view }
world_with_step world (steps.View ask) = record { levels = world.levels; limits = world.limits; servers = world.servers; desk = world.desk; view = world.view ++ view_entry world ask ∷ [] }

-- ---- a step, and a run

abbrev pub told_at : Option Refusal → Answer → Result Answer Refusal
told_at None answered = Ok answered
told_at (Some reason) answered = Err reason

-- what the step is told
abbrev pub outcome : JournalsView → Step → Result Answer Refusal
outcome world step = told_at (refusal world step) (answer world step)

-- the world after the step: a refusal leaves it as it was
abbrev pub world_after : JournalsView → Step → JournalsView
world_after world step = state_at (refusal world step) world (world_with_step world step)

abbrev pub run_from : JournalsView → List Step → JournalsView
run_from world steps = fold world_after world steps

-- the world after a list of steps, from empty journals
abbrev pub run : ℕ → LimitsView → List Step → JournalsView
run levels limits steps = run_from (no_entries levels limits) steps

-- the journals are those of a list of steps
abbrev pub IsOfRun : JournalsView → Type 0
IsOfRun world = (steps : List Step) × (world ≡ run world.levels world.limits steps)

-- ---- a list of steps with what they were told

-- memory was refused: the step was not taken
abbrev pub is_memory : Result Answer Refusal → Bool
is_memory (Err Memory) = true
is_memory result = false

-- the steps that were taken: those that were not answered Memory
abbrev pub taken_steps : List Step → List (Result Answer Refusal) → List Step
taken_steps [] results = []
taken_steps (step ∷ steps) [] = []
taken_steps (step ∷ steps) (result ∷ results) = if is_memory result then taken_steps steps results else step ∷ taken_steps steps results

-- the step was told what it is to be told, or that memory was refused, which comes only where it would be answered
abbrev pub IsTold : JournalsView → Step → Result Answer Refusal → Type 0
IsTold world step (Err Memory) = refusal world step ≡ None
IsTold world step result = result ≡ outcome world step

-- each step was told so in its turn
abbrev pub AreTold : JournalsView → List Step → List (Result Answer Refusal) → Type 0
AreTold world [] [] = Unit {0}
AreTold world (step ∷ steps) (result ∷ results) =
    IsTold world step result × AreTold (if is_memory result then world else world_after world step) steps results
AreTold world steps results = ⊥
