-- The line and the status that tell of what an audit found. What an audit finds in the bytes of a journal file. What
-- an audit writes of the bytes that it has read. What an upgrade writes of the bytes that it has read.
use Rattle.std.specs.{Prelude.{ℕ, List, ◌++◌, codes, ◌≡◌, Some, length, Result, ◌⊎◌, Option, None}, Fmt.decimal}
use Rattle.tq_text.specs.Print.{numbers_text, printed_line, part_text}
use Rattle.tq_shell.specs.{declared.audit_finding.AuditFinding.AuditFinding, Reading.IsReportText}
use Rattle.tq_shell.specs.declared.audit_finding.AuditFinding.TheVariants.{Explained, Wrong, Stuck, Unreadable}
use Rattle.serde_json.specs.{Data.Data, Written.compact_text}
use Rattle.tq_shape.specs.declared.part.Part.{Part}
use Rattle.tq_tables.specs.Journals.{JournalsView}
use Rattle.tq_json_read.specs.Frame.{IsJson, journals_of}
use Rattle.tq_merge.specs.{Order.{Explains, IsStuck}, Wrong.IsWrong}
use Rattle.tq_devices.specs.declared.fault.RunFault.{RunFault}
use Rattle.tq_board.specs.Form.{journals_value}

abbrev pub verdict_text : AuditFinding → List ℕ
verdict_text (Explained entries) = codes "explained " ++ decimal entries
verdict_text (Wrong part number) = codes "wrong " ++ part_text part ++ codes " entry " ++ decimal number
verdict_text (Stuck placed) = codes "stuck" ++ numbers_text placed.servers ++ codes " desk " ++ decimal placed.desk ++ codes " view " ++ decimal placed.view
verdict_text Unreadable = codes "unreadable"

abbrev pub verdict_line : AuditFinding → List ℕ
verdict_line verdict = printed_line (verdict_text verdict)

abbrev pub status_of : AuditFinding → ℕ
status_of (Explained entries) = 0
status_of (Wrong part number) = 3
status_of (Stuck placed) = 3
status_of Unreadable = 4

-- ---- verdicts

-- the bytes are a journal file, and these are its journals
abbrev pub IsFileOf : List ℕ → JournalsView → Type 0
IsFileOf bytes journals = (value : Data) × IsJson bytes value × (journals_of value ≡ Some journals)

-- an order explains the journals, and has so many entries, which are all of theirs
abbrev pub IsExplained : JournalsView → ℕ → Type 0
IsExplained journals entries = (order : List Part) × Explains journals order × (entries ≡ length order)

-- what is found in the bytes
abbrev pub IsVerdict : List ℕ → AuditFinding → Type 0
IsVerdict bytes (Explained entries) = (journals : JournalsView) × IsFileOf bytes journals × IsExplained journals entries
IsVerdict bytes (Wrong part number) = (journals : JournalsView) × IsFileOf bytes journals × IsWrong journals part number
IsVerdict bytes (Stuck placed) = (journals : JournalsView) × IsFileOf bytes journals × IsStuck journals placed
IsVerdict bytes Unreadable = (journals : JournalsView) → IsFileOf bytes journals → ⊥

-- ---- audit

-- the line of what is found in the bytes, and its status
pub record IsAudited (bytes line : List ℕ) (status : ℕ) : Type 0 where
  pub verdict : AuditFinding
  pub found : IsVerdict bytes verdict
  pub line_is : line ≡ verdict_line verdict
  pub status_is : status ≡ status_of verdict

abbrev pub IsAuditText : Result ℕ RunFault → List ℕ → List ℕ → Type 0
IsAuditText = IsReportText IsAudited

-- ---- upgrade

-- the journals of the bytes in format 2, as one line, whether a run explains them or not
abbrev pub IsInTwo : List ℕ → List ℕ → ℕ → Type 0
IsInTwo bytes line status =
    (journals : JournalsView) × IsFileOf bytes journals × (line ≡ printed_line (compact_text (journals_value journals))) × (status ≡ 0)

-- the bytes are no journal file, and the line and the status are those of an audit that finds so
abbrev pub IsUnread : List ℕ → List ℕ → ℕ → Type 0
IsUnread bytes line status = IsVerdict bytes Unreadable × (line ≡ verdict_line Unreadable) × (status ≡ status_of Unreadable)

-- the journals of the bytes; none where they are no journal file
abbrev pub IsFound : List ℕ → Option JournalsView → Type 0
IsFound bytes (Some journals) = IsFileOf bytes journals
IsFound bytes None = IsVerdict bytes Unreadable

-- what is written where these were found, and the status that goes with it
abbrev pub found_line : Option JournalsView → List ℕ
found_line (Some journals) = printed_line (compact_text (journals_value journals))
found_line None = verdict_line Unreadable

abbrev pub found_status : Option JournalsView → ℕ
found_status (Some journals) = 0
found_status None = status_of Unreadable

abbrev pub IsUpgraded : List ℕ → List ℕ → ℕ → Type 0
IsUpgraded bytes line status = IsInTwo bytes line status ⊎ IsUnread bytes line status

abbrev pub IsUpgradeText : Result ℕ RunFault → List ℕ → List ℕ → Type 0
IsUpgradeText = IsReportText IsUpgraded
