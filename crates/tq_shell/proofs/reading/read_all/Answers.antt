use Rattle.tq_shell.{specs.Reading.IsReadFault, proofs.ReportLaws.{fault_is, never_ok, of_file}}
use Rattle.tq_shell.proofs.reading.read_all.Goals as goal

pub returns-in_err-bytes-clause-bytes : goal.returns-in_err-bytes-clause-bytes
returns-in_err-bytes-clause-bytes g c =
    let failed = g.R.Source.failed in
    let read = c.in_err-bytes.ensures.bytes in
    let fault = c.in_err-bytes.field-0.0 in
    let P = IsReadFault read.0 (failed c.args.reader.now) (failed c.read_within.new.reader) in
    let is = c.from_residual.ensures.1 in
    (read.0, read.1, never_ok _ _ c.from_residual.result is, fault_is P fault c.from_residual.result is (of_file read.0 (failed c.args.reader.now) (failed c.read_within.new.reader) fault read.3))
