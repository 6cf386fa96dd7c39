use Rattle.std.proofs.Common.{◌∙◌, ℕ, List, [], refl, subst}
use Rattle.tq_devices.{proofs.Written.Appends-none, specs.declared.fault.RunFault.TheVariants.Memory}
use Rattle.tq_shell.{specs.Audit.{IsAudited, status_of, IsVerdict}, proofs.ReportLaws.{by_fault, ends_write}}
use Rattle.tq_shell.proofs.auditing.audit.Goals as goal

pub returns-in_err-line-clause-text : goal.returns-in_err-line-clause-text
returns-in_err-line-clause-text g c =
    let read = c.in_ok-bytes.ensures.bytes in
    (read.0, [], read.1, Appends-none (g.W.Sink.taken c.args.writer.now), by_fault IsAudited c.from_residual-in_err-line.result Memory read.0 [] c.from_residual-in_err-line.ensures.1 refl)

pub returns-in_err-write_out-clause-text : goal.returns-in_err-write_out-clause-text
returns-in_err-write_out-clause-text g c =
    let taken = g.W.Sink.taken in
    let failed = g.W.Sink.failed in
    let fault = c.in_err-write_out.field-0.0 in
    let read = c.in_ok-bytes.ensures.bytes in
    let verdict = c.in_ok-verdict.verdict in
    let P : List ℕ → Type 0 = λ bytes. IsVerdict bytes verdict in
    let told : IsAudited read.0 c.as_slice-2.result.now (status_of verdict) = record {
      verdict = verdict;
      found = subst P (c.as_slice.ensures.value ∙ read.2.0) c.in_ok-verdict.ensures;
      line_is = c.as_slice-2.ensures.value ∙ c.in_ok-line.ensures;
      status_is = refl;
    } in
    let wrote = ends_write IsAudited fault read.0 c.as_slice-2.result.now (status_of verdict) (taken c.args.writer.now) (taken c.write_out.new.writer) (failed c.args.writer.now) (failed c.write_out.new.writer) told read.2.1 c.in_err-write_out.ensures in
    (read.0, wrote.0, read.1, wrote.1, by_fault IsAudited c.from_residual-in_err-write_out.result fault read.0 wrote.0 c.from_residual-in_err-write_out.ensures.1 wrote.2)
