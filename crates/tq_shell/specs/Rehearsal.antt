-- What a rehearsal has written for the journal file and for the lines that it has read.
use Rattle.std.specs.Prelude.{◌≡◌, ◌⊎◌, ◌≤◌, ◌<◌, ℕ, Bool, List, [], Result, IfOk, length}
use Rattle.tq_devices.specs.{declared.fault.RunFault.RunFault, Devices.IsRunCount}
use Rattle.tq_shape.specs.declared.part.Part.{Part}
use Rattle.tq_tables.specs.Journals.{JournalsView}
use Rattle.tq_merge.specs.Order.{Explains}
use Rattle.tq_interpreter.specs.Answer.{over}
use Rattle.tq_shell.specs.{declared.opened.Opened.{Opened, TheVariants.{Ready, Refused}}, Session.IsRunText}
use Rattle.tq_shell.specs.{Audit.{IsAudited, status_of, IsFileOf, IsVerdict}, Reading.{file_limit, IsReportText}}

-- the bytes are a file of these journals, and an order explains them
pub record IsExplainedFile (bytes : List ℕ) (journals : JournalsView) : Type 0 where
  pub file : IsFileOf bytes journals
  pub order : List Part
  pub explains : Explains journals order

-- what an audit tells of the bytes, which finds no order
pub record IsRefusedFile (bytes line : List ℕ) (status : ℕ) : Type 0 where
  pub audited : IsAudited bytes line status
  pub refused : 0 < status

-- what is made of a journal file
abbrev pub IsOpened : List ℕ → Opened → Type 0
IsOpened bytes (Ready service) = IsExplainedFile bytes service
IsOpened bytes (Refused finding) = IsVerdict bytes finding × (0 < status_of finding)

-- no line is read, and what is written is what tells of the file
pub record IsTurnedAway (result : Result ℕ RunFault) (file lines text : List ℕ) : Type 0 where
  pub none_read : lines ≡ []
  pub told : IsReportText IsRefusedFile result file text

-- an order explains the journals of the file, and the lines are answered over them as those of a run are
pub record IsRehearsed (result : Result ℕ RunFault) (ended : Bool) (file lines text : List ℕ) : Type 0 where
  pub journals : JournalsView
  pub explained : IsExplainedFile file journals
  pub fits : length file ≤ file_limit
  pub answered : IsRunText result (over journals) ended lines text
  pub status : IfOk result (λ status. status ≡ 0)

-- the status or the fault, whether the end of the lines was reached, the bytes read of the file and of the lines, and the text
-- written
abbrev pub IsRehearsalText : Result ℕ RunFault → Bool → List ℕ → List ℕ → List ℕ → Type 0
IsRehearsalText result ended file lines text = IsTurnedAway result file lines text ⊎ IsRehearsed result ended file lines text

-- failures of the source of the file before and after, of the source of the lines, and of the sink: one source alone fails
abbrev pub IsRehearsalCount : {T : Type 0} → Result T RunFault → ℕ → ℕ → ℕ → ℕ → ℕ → ℕ → Type 0
IsRehearsalCount result files files_after reads reads_after writes writes_after =
    (IsRunCount result files files_after writes writes_after × (reads_after ≡ reads))
    ⊎ ((files_after ≡ files) × IsRunCount result reads reads_after writes writes_after)
