-- How the reading of all bytes of a source fails. What a run over a journal file has written for the bytes that it has
-- read, by the way that it ended. A line and a status tell of the bytes as the first argument says.
use Rattle.std.specs.Prelude.{◌≡◌, ℕ, ◌+◌, ◌<◌, List, length, ◌≤◌, [], ◌++◌, Result, Ok, Err}
use Rattle.tq_devices.specs.declared.fault.{RunFault.RunFault, RunFault.TheVariants.{Memory, Read, Write, TooLong}}

-- the most bytes that client scripts have, and that a journal file has
abbrev pub script_limit : ℕ
script_limit = 16777216

abbrev pub file_limit : ℕ
file_limit = 67108864

-- memory was refused or the source failed: its failures before and after
abbrev pub IsSourceFault : ℕ → ℕ → RunFault → Type 0
IsSourceFault failed failed_after Memory = failed_after ≡ failed
IsSourceFault failed failed_after Read = failed_after ≡ failed + 1
IsSourceFault failed failed_after Write = ⊥
IsSourceFault failed failed_after TooLong = ⊥

-- the same of a journal file, which may be too long: the bytes read, and the failures of the source before and after
abbrev pub IsReadFault : List ℕ → ℕ → ℕ → RunFault → Type 0
IsReadFault bytes failed failed_after Memory = failed_after ≡ failed
IsReadFault bytes failed failed_after Read = failed_after ≡ failed + 1
IsReadFault bytes failed failed_after Write = ⊥
IsReadFault bytes failed failed_after TooLong = (file_limit < length bytes) × (failed_after ≡ failed)

-- ---- report

-- a prefix of a line that tells of the bytes
pub record IsCut (Tells : List ℕ → List ℕ → ℕ → Type 0) (bytes text : List ℕ) : Type 0 where
  pub rest : List ℕ
  pub status : ℕ
  pub tells : Tells bytes (text ++ rest) status

-- the status or the fault, the bytes read, and the text written
abbrev pub IsReportText : (List ℕ → List ℕ → ℕ → Type 0) → Result ℕ RunFault → List ℕ → List ℕ → Type 0
IsReportText Tells (Ok status) bytes text = (length bytes ≤ file_limit) × Tells bytes text status
IsReportText Tells (Err Memory) bytes text = text ≡ []
IsReportText Tells (Err Read) bytes text = text ≡ []
IsReportText Tells (Err Write) bytes text = (length bytes ≤ file_limit) × IsCut Tells bytes text
IsReportText Tells (Err TooLong) bytes text = (file_limit < length bytes) × (text ≡ [])
