-- What a read that fails says. What is upgraded of what was found. What a run over a journal file has written where it
-- ends by a fault. What a rehearsal has written where no line is read. A bad line under its number. Good lines give
-- few scripts. What is written where running scripts ends by a fault.
use Rattle.std.proofs.Common.{◌≡◌, ℕ, List, Result, Ok, Err, sym, subst, Option, Some, None, inl, inr, refl, ◌≤◌, [], length, take, drop, ◌<◌, Bool, true, ◌&&◌, ◌∙◌}
use Rattle.std.proofs.lemmas.{List.take-append-drop, Bool.{and_parts, leb-true}}
use Rattle.std.specs.{Prelude.{IfOk, IfErr, nat_le, OnOk}, Result.IsErrAnd, Io.KnownBytes.Appends, List.list_all}
use Rattle.tq_devices.specs.declared.fault.{RunFault.RunFault, RunFault.TheVariants.{Memory, Read, Write, TooLong}}
use Rattle.tq_devices.specs.Devices.{IsWritten}
use Rattle.tq_shell.specs.{Reading.{IsReadFault, IsSourceFault, IsReportText}, declared.opened.Opened.Opened}
use Rattle.tq_shell.specs.Audit.{IsFound, IsUpgraded, found_line, found_status, status_of, verdict_line, IsVerdict}
use Rattle.tq_shell.specs.declared.audit_finding.{AuditFinding.AuditFinding, AuditFinding.TheVariants.Unreadable}
use Rattle.tq_shell.specs.declared.{opened.Opened.TheVariants.Refused, outcome.Outcome.Outcome}
use Rattle.tq_shell.specs.Rehearsal.{IsOpened, IsRefusedFile, IsRehearsalText}
use Rattle.tq_shell.specs.Threads.{outcome_line, IsOutcome, IsThreadsText}
use Rattle.tq_tables.specs.Journals.{JournalsView}
use Rattle.tq_board.specs.Lines.{IsWrittenOut}
use Rattle.tq_syntax.specs.declared.{client.ClientLine.ClientLine, fault.ScriptFault.{ScriptFault, TheVariants.Bad}}
use Rattle.tq_syntax.specs.Scripts.{IsRead, are_good, clients_of, has_form, scripts_of}
use Rattle.tq_shape.specs.Journal.{is_empty}

pub never_ok : {T : Type 0} (P : T → Type 0) (Q : RunFault → Type 0) (result : Result T RunFault) → IsErrAnd result Q → IfOk result P
never_ok P Q (Ok all) is = absurd is
never_ok P Q (Err fault) is = tt

-- the fault that a read answers
pub fault_is : {T : Type 0} (P : RunFault → Type 0) (fault : RunFault) (result : Result T RunFault) → IsErrAnd result (λ e. e ≡ fault) → P fault → IfErr result P
fault_is P fault (Ok all) is holds = absurd is
fault_is P fault (Err e) is holds = subst P (sym is) holds

-- a source that fails, fails so for a journal file
pub of_file : (bytes : List ℕ) (failed failed_after : ℕ) (fault : RunFault) → IsSourceFault failed failed_after fault → IsReadFault bytes failed failed_after fault
of_file bytes failed failed_after Memory is = is
of_file bytes failed failed_after Read is = is
of_file bytes failed failed_after Write is = absurd is
of_file bytes failed failed_after TooLong is = absurd is

-- ---- upgrade laws

pub upgraded : (bytes : List ℕ) (found : Option JournalsView) → IsFound bytes found → IsUpgraded bytes (found_line found) (found_status found)
upgraded bytes (Some journals) is = inl (journals, is, refl, refl)
upgraded bytes None is = inr (is, refl, refl)

-- ---- report laws

module _ (Tells : List ℕ → List ℕ → ℕ → Type 0) where
  -- a result that is this fault
  pub by_fault : (result : Result ℕ RunFault) (fault : RunFault) (bytes text : List ℕ) → IsErrAnd result (λ e. e ≡ fault) → IsReportText Tells (Err fault) bytes text → IsReportText Tells result bytes text
  by_fault (Ok status) fault bytes text is told = absurd is
  by_fault (Err e) fault bytes text is told = let P : RunFault → Type 0 = λ f. IsReportText Tells (Err f) bytes text in subst P (sym is) told

  -- the line is not written whole
  pub ends_write : (fault : RunFault) (bytes line : List ℕ) (status : ℕ) (taken taken_after : Option (List ℕ)) (failed failed_after : ℕ)
      → Tells bytes line status → length bytes ≤ 67108864 → IsWritten {T = Unit {0}} (Err fault) line taken taken_after failed failed_after
      → (text : List ℕ) × Appends taken taken_after text × IsReportText Tells (Err fault) bytes text
  ends_write Write bytes line status taken taken_after failed failed_after tells few written = (
    take written.0 line,
    written.1,
    (few, record { rest = drop written.0 line; status = status; tells = subst (λ l. Tells bytes l status) (sym (take-append-drop written.0 line)) tells }),
  )
  ends_write Memory bytes line status taken taken_after failed failed_after tells few written = absurd written
  ends_write Read bytes line status taken taken_after failed failed_after tells few written = absurd written
  ends_write TooLong bytes line status taken taken_after failed failed_after tells few written = absurd written

  -- the same where memory may be refused
  pub ends_write_out : (fault : RunFault) (bytes line : List ℕ) (status : ℕ) (taken taken_after : Option (List ℕ)) (failed failed_after : ℕ)
      → Tells bytes line status → length bytes ≤ 67108864 → IsWrittenOut (Err fault) line taken taken_after failed failed_after
      → (text : List ℕ) × Appends taken taken_after text × IsReportText Tells (Err fault) bytes text
  ends_write_out Write bytes line status taken taken_after failed failed_after tells few written = ends_write Write bytes line status taken taken_after failed failed_after tells few written
  ends_write_out Memory bytes line status taken taken_after failed failed_after tells few written = ([], written.0, refl)
  ends_write_out Read bytes line status taken taken_after failed failed_after tells few written = absurd written
  ends_write_out TooLong bytes line status taken taken_after failed failed_after tells few written = absurd written

-- ---- rehearsal laws

-- bytes in which no journals were found
pub unread : (bytes given : List ℕ) (found : Option JournalsView) → IsFound given found → given ≡ bytes → ((journals : JournalsView) → found ≡ Some journals → ⊥) → IsVerdict bytes Unreadable
unread bytes given None is same none = subst (λ (b : List ℕ). IsVerdict b Unreadable) same is
unread bytes given (Some journals) is same none = absurd (none journals refl)

-- a file that is refused, and what tells of it
pub refused_file : (bytes given : List ℕ) (opened : Opened) (finding : AuditFinding) → IsOpened given opened → opened ≡ Refused finding → given ≡ bytes → IsRefusedFile bytes (verdict_line finding) (status_of finding)
refused_file bytes given opened finding opens refused same =
    let is : IsVerdict given finding × (0 < status_of finding) = subst (IsOpened given) refused opens in
    record {
      audited = record { verdict = finding; found = subst (λ (b : List ℕ). IsVerdict b finding) same is.0; line_is = refl; status_is = refl };
      refused = is.1;
    }

-- a fault before the first line is read
pub turned_away : (result : Result ℕ RunFault) (fault : RunFault) (ended : Bool) (file text : List ℕ) → IsErrAnd result (λ e. e ≡ fault) → IsReportText IsRefusedFile (Err fault) file text
    → IsRehearsalText result ended file [] text
turned_away result fault ended file text is told = inl (record { none_read = refl; told = by_fault IsRefusedFile result fault file text is told })

-- the file cannot be read
pub not_read : (result : Result ℕ RunFault) (fault : RunFault) (ended : Bool) (file : List ℕ) (failed failed_after : ℕ) → IsErrAnd result (λ e. e ≡ fault) → IsReadFault file failed failed_after fault
    → IsRehearsalText result ended file [] []
not_read result Memory ended file failed failed_after is fault = turned_away result Memory ended file [] is refl
not_read result Read ended file failed failed_after is fault = turned_away result Read ended file [] is refl
not_read result Write ended file failed failed_after is fault = absurd fault
not_read result TooLong ended file failed failed_after is fault = turned_away result TooLong ended file [] is (fault.0, refl)

-- ---- threads laws

pub bad_line : (lines : List ClientLine) (fault : ScriptFault) (number named : ℕ) → fault ≡ Bad number → named ≡ number → IsRead lines (Err fault) → IsRead lines (Err (Bad named))
bad_line lines fault number named is same read =
    subst (λ (n : ℕ). IsRead lines (Err (Bad n))) (sym same) (subst (λ (f : ScriptFault). IsRead lines (Err f)) is read)

-- ---- few scripts

pub few_scripts : (lines : List ClientLine) → are_good lines ≡ true → length (scripts_of lines) ≤ 16
few_scripts lines good =
    let formed = and_parts (list_all has_form lines) (is_empty (clients_of lines).before && nat_le (length (scripts_of lines)) 16) good in
    let few = and_parts (is_empty (clients_of lines).before) (nat_le (length (scripts_of lines)) 16) formed.1 in
    leb-true (length (scripts_of lines)) 16 few.1

-- ---- threads laws

-- a result that is this fault
pub threads_by_fault : (result : Result ℕ RunFault) (fault : RunFault) (levels workers : ℕ) (bytes text : List ℕ) → IsErrAnd result (λ e. e ≡ fault) → IsThreadsText (Err fault) levels workers bytes text
    → IsThreadsText result levels workers bytes text
threads_by_fault (Ok status) fault levels workers bytes text is told = absurd is
threads_by_fault (Err e) fault levels workers bytes text is told = let P : RunFault → Type 0 = λ f. IsThreadsText (Err f) levels workers bytes text in subst P (sym is) told

-- the line is not written whole, or nothing is written
pub threads_end_write : (fault : RunFault) (levels workers : ℕ) (bytes line : List ℕ) (outcome : Outcome) (taken taken_after : Option (List ℕ)) (failed failed_after : ℕ)
    → IsOutcome levels workers bytes outcome → line ≡ outcome_line outcome → IsWrittenOut (Err fault) line taken taken_after failed failed_after
    → (text : List ℕ) × Appends taken taken_after text × IsThreadsText (Err fault) levels workers bytes text
threads_end_write Write levels workers bytes line outcome taken taken_after failed failed_after came is written = (
  take written.0 line,
  written.1,
  record { outcome = outcome; came = came; rest = drop written.0 line; line = take-append-drop written.0 line ∙ is },
)
threads_end_write Memory levels workers bytes line outcome taken taken_after failed failed_after came is written = ([], written.0, refl)
threads_end_write Read levels workers bytes line outcome taken taken_after failed failed_after came is written = absurd written
threads_end_write TooLong levels workers bytes line outcome taken taken_after failed failed_after came is written = absurd written

-- of a fault nothing is said that is said of an answer
pub never_on_ok : {T : Type 0} (P : Type 0) (Q : RunFault → Type 0) (result : Result T RunFault) → IsErrAnd result Q → OnOk result P
never_on_ok P Q (Ok status) is = absurd is
never_on_ok P Q (Err fault) is = tt
