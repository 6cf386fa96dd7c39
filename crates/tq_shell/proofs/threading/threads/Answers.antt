use Rattle.std.proofs.Common.{◌∙◌, ℕ, List, refl, subst}
use Rattle.tq_shell.specs.Threads.{IsOutcome, outcome_line}
use Rattle.tq_shell.proofs.ReportLaws.{threads_by_fault, threads_end_write, never_on_ok}
use Rattle.tq_shell.proofs.threading.threads.Goals as goal

pub returns-in_err-write-clause-text : goal.returns-in_err-write-clause-text
returns-in_err-write-clause-text g c =
    let taken = g.W.Sink.taken in
    let failed = g.W.Sink.failed in
    let fault = c.in_err-write.field-0.0 in
    let read = c.in_ok-bytes.ensures.bytes in
    let outcome = c.in_ok-outcome.outcome in
    let P : List ℕ → Type 0 = λ bytes. IsOutcome c.args.levels c.args.workers bytes outcome in
    let came = subst P (c.as_slice.ensures.value ∙ read.2) c.in_ok-outcome.ensures in
    let wrote =
    threads_end_write fault c.args.levels c.args.workers read.0 (outcome_line outcome) outcome (taken c.args.writer.now) (taken c.write.new.writer) (failed c.args.writer.now) (failed c.write.new.writer) came refl c.in_err-write.ensures in
    let is = c.from_residual-in_err-write.ensures.1 in
    let result = c.from_residual-in_err-write.result in
    (read.0, wrote.0, read.1, wrote.1, threads_by_fault result fault c.args.levels c.args.workers read.0 wrote.0 is wrote.2, never_on_ok _ _ result is)
