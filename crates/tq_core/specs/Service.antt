-- What a service keeps: its tables, and beside them the journals that they are of. An ask of one part and a step: the
-- same things are told.
use Rattle.std.specs.Prelude.{◌≡◌, Result, Ok, Err}
use Rattle.tq_tables.specs.{Journals.{AreJournals, JournalsView}, Tables.{TablesView, tables_of}}
use Rattle.tq_core.specs.{Steps.IsOfRun, declared.answer.{Answer.Answer, Reply.Reply, Refusal.Refusal}}
use Rattle.tq_shape.specs.declared.{fault.AskFault.AskFault, journaled.Answered.Answered}
use Rattle.tq_shape.specs.declared.fault.AskFault.TheVariants as ask_faults
use Rattle.tq_core.specs.declared.answer.Refusal.TheVariants as refusals

-- the journals are those of a run, and the tables are theirs
pub record IsService (tables : TablesView) (world : JournalsView) : Type 0 where
  pub journals : AreJournals world
  pub ran : IsOfRun world
  pub stand : tables ≡ tables_of world

-- ---- asked

-- the answer to the step
abbrev pub answer_of : {R : Type 0} → (R → Reply) → Answered R → Answer
answer_of reply told = record { number = told.number; reply = reply told.reply }

-- why the step is refused where the ask is not taken
abbrev pub refusal_of : AskFault → Refusal
refusal_of ask_faults.Memory = refusals.Memory
refusal_of (ask_faults.JournalFull part) = refusals.JournalFull part
refusal_of (ask_faults.Unfounded part number) = refusals.Unfounded part number

-- what the step is told where the ask is told this
abbrev pub told_by : {R : Type 0} → (R → Reply) → Result (Answered R) AskFault → Result Answer Refusal
told_by reply (Ok told) = Ok (answer_of reply told)
told_by reply (Err fault) = Err (refusal_of fault)
