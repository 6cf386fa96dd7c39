-- The line and the status that tell what came of client scripts. What came of the text of client scripts that were run
-- in threads. What `threads` has written for the bytes that it has read, by the way that it ended.
use Rattle.std.specs.{Prelude.{ℕ, List, [], ◌∷◌, ◌++◌, codes, ◌≡◌, true, map, Err, Result, Ok}, Fmt.decimal}
use Rattle.serde_json.specs.Written.{compact_text}
use Rattle.tq_text.specs.Print.{printed_line}
use Rattle.tq_board.specs.Form.{journals_value}
use Rattle.tq_shell.specs.declared.outcome.{Outcome.Outcome, Outcome.TheVariants.{Ran, Unclosed, BadScript}}
use Rattle.tq_shape.specs.declared.part.Part.{Part}
use Rattle.tq_interpreter.specs.Recorded.{full_limits}
use Rattle.tq_syntax.specs.{declared.script.Line.Line, Scripts.{are_good, scripts_of, said_lines, IsRead}}
use Rattle.tq_syntax.specs.declared.fault.ScriptFault.TheVariants.{Bad}
use Rattle.tq_tables.specs.Journals.{JournalsView}
use Rattle.tq_merge.specs.{Order.Explains, Told.AreKept, declared.fault.CloseFault.CloseFault}
use Rattle.tq_merge.specs.declared.fault.CloseFault.TheVariants as faults
use Rattle.tq_cluster.specs.{Told.CallerView, Clients.AllRan, Cluster.IsClosedBy}
use Rattle.tq_devices.specs.declared.fault.{RunFault.RunFault, RunFault.TheVariants.{Memory, Read, Write, TooLong}}

abbrev pub outcome_line : Outcome → List ℕ
outcome_line (Ran journals) = printed_line (compact_text (journals_value journals))
outcome_line Unclosed = printed_line (codes "fault close")
outcome_line (BadScript line) = printed_line (codes "bad script line " ++ decimal line)

abbrev pub status_of : Outcome → ℕ
status_of (Ran journals) = 0
status_of Unclosed = 1
status_of (BadScript line) = 2

-- ---- running

-- these callers ran the scripts and did the workers' jobs, the journals of one run hold all that they were told, and this order shows it
pub record AreOfRun (levels workers : ℕ) (scripts : List (List Line)) (journals : JournalsView) : Type 0 where
  pub levels_are : journals.levels ≡ levels
  pub limits_are : journals.limits ≡ full_limits
  pub callers : List CallerView
  pub ran : AllRan levels full_limits scripts workers callers
  pub kept : AreKept journals (map (λ caller. caller.told) callers)
  pub order : List Part
  pub explains : Explains journals order

-- these callers ran the scripts and did the workers' jobs, and closing the cluster failed by this, which is no want of memory
pub record IsUnclosed (levels workers : ℕ) (scripts : List (List Line)) : Type 0 where
  pub callers : List CallerView
  pub ran : AllRan levels full_limits scripts workers callers
  pub fault : CloseFault
  pub no_memory : fault ≡ faults.Memory → ⊥
  pub failed : IsClosedBy (record { levels = levels; limits = full_limits }) (map (λ caller. caller.told) callers) fault

-- what came of these scripts, once they ran
abbrev pub IsOutcomeOf : ℕ → ℕ → List (List Line) → Outcome → Type 0
IsOutcomeOf levels workers scripts (Ran journals) = AreOfRun levels workers scripts journals
IsOutcomeOf levels workers scripts Unclosed = IsUnclosed levels workers scripts
IsOutcomeOf levels workers scripts (BadScript line) = ⊥

-- what came of the text: its lines are good and its scripts ran, or one of its lines is bad
abbrev pub IsOutcome : ℕ → ℕ → List ℕ → Outcome → Type 0
IsOutcome levels workers text (BadScript line) = IsRead (said_lines text) (Err (Bad line))
IsOutcome levels workers text ran = (are_good (said_lines text) ≡ true) × IsOutcomeOf levels workers (scripts_of (said_lines text)) ran

-- ---- threads

-- the line of what came of the bytes is written, and its status answered
pub record IsTold (status levels workers : ℕ) (bytes text : List ℕ) : Type 0 where
  pub outcome : Outcome
  pub came : IsOutcome levels workers bytes outcome
  pub line : text ≡ outcome_line outcome
  pub status_is : status ≡ status_of outcome

-- a prefix of that line is written
pub record IsCut (levels workers : ℕ) (bytes text : List ℕ) : Type 0 where
  pub outcome : Outcome
  pub came : IsOutcome levels workers bytes outcome
  pub rest : List ℕ
  pub line : text ++ rest ≡ outcome_line outcome

-- the status or the fault, the bytes read, and the text written
abbrev pub IsThreadsText : Result ℕ RunFault → ℕ → ℕ → List ℕ → List ℕ → Type 0
IsThreadsText (Ok status) levels workers bytes text = IsTold status levels workers bytes text
IsThreadsText (Err Memory) levels workers bytes text = text ≡ []
IsThreadsText (Err Read) levels workers bytes text = text ≡ []
IsThreadsText (Err Write) levels workers bytes text = IsCut levels workers bytes text
IsThreadsText (Err TooLong) levels workers bytes text = ⊥
