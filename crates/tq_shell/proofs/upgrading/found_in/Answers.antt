use Rattle.std.proofs.Common.{◌≡◌, ℕ, List, Err, subst}
use Rattle.tq_tables.specs.Journals.{JournalsView}
use Rattle.tq_json_read.specs.{declared.fault.ReadFault.{ReadFault, TheVariants.NotJson}, Frame.{Answers, journals_of}}
use Rattle.tq_shell.specs.{declared.audit_finding.AuditFinding.TheVariants.Unreadable, Audit.IsVerdict}
use Rattle.tq_shell.proofs.upgrading.found_in.Goals as goal

-- bytes that are no JSON are no journal file
not_json : (bytes : List ℕ) (fault : ReadFault) → fault ≡ NotJson → Answers {X = JournalsView} (Err fault) bytes journals_of → IsVerdict bytes Unreadable
not_json bytes fault is told =
    let P : ReadFault → Type 0 = λ f. Answers {X = JournalsView} (Err f) bytes journals_of in
    λ journals file. subst P is told file.0 file.1

pub returns-in-Err-NotJson : goal.returns-in-Err-NotJson
returns-in-Err-NotJson c =
    not_json c.args.bytes.now c.in-Err-NotJson.field-0 c.in-Err-NotJson.field-0-is c.in-Err-NotJson.ensures.answers
