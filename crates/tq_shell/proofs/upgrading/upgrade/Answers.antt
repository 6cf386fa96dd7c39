use Rattle.std.proofs.Common.{◌∙◌, ℕ, List, subst}
use Rattle.tq_shell.specs.Audit.{IsFound, IsUpgraded, found_line, found_status}
use Rattle.tq_shell.proofs.ReportLaws.{upgraded, by_fault, ends_write_out}
use Rattle.tq_shell.proofs.upgrading.upgrade.Goals as goal

pub returns-in_err-write_found-clause-text : goal.returns-in_err-write_found-clause-text
returns-in_err-write_found-clause-text g c =
    let taken = g.W.Sink.taken in
    let failed = g.W.Sink.failed in
    let fault = c.in_err-write_found.field-0.0 in
    let read = c.in_ok-bytes.ensures.bytes in
    let found = c.in_ok-found.found in
    let P : List ℕ → Type 0 = λ bytes. IsFound bytes found in
    let told = upgraded read.0 found (subst P (c.as_slice.ensures.value ∙ read.2.0) c.in_ok-found.ensures) in
    let wrote = ends_write_out IsUpgraded fault read.0 (found_line found) (found_status found) (taken c.args.writer.now) (taken c.write_found.new.writer) (failed c.args.writer.now) (failed c.write_found.new.writer) told read.2.1 c.in_err-write_found.ensures in
    (read.0, wrote.0, read.1, wrote.1, by_fault IsUpgraded c.from_residual-in_err-write_found.result fault read.0 wrote.0 c.from_residual-in_err-write_found.ensures.1 wrote.2)

pub returns-clause-text : goal.returns-clause-text
returns-clause-text g c =
    let read = c.in_ok-bytes.ensures.bytes in
    let found = c.in_ok-found.found in
    let P : List ℕ → Type 0 = λ bytes. IsFound bytes found in
    let told = upgraded read.0 found (subst P (c.as_slice.ensures.value ∙ read.2.0) c.in_ok-found.ensures) in
    (read.0, found_line found, read.1, c.in_ok-write_found.ensures.0, (read.2.1, rw c.status_of-status.ensures told))
