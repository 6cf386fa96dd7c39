use Rattle.std.proofs.Common.{◌++◌, ◌∙◌, take}
use Rattle.tq_devices.{proofs.Written.Appends-then, specs.declared.fault.RunFault.TheVariants.Memory}
use Rattle.tq_shell.{specs.Reading.IsSourceFault, proofs.ReportLaws.{fault_is, never_ok}}
use Rattle.tq_shell.proofs.reading.read_within.Goals as goal

pub returns-in_err-extend_from_slice-clause-bytes : goal.returns-in_err-extend_from_slice-clause-bytes
returns-in_err-extend_from_slice-clause-bytes g c =
    let given = g.R.Source.given in
    let failed = g.R.Source.failed in
    let bytes = c.loop-buffer.bytes.items in
    let piece = take c.in-Ok.count c.read.new.buffer in
    let refused = IsSourceFault (failed c.args.reader.now) (failed c.read.new.self) in (
      bytes ++ piece,
      Appends-then (given c.args.reader.now) (given c.loop-buffer.reader) (given c.read.new.self) bytes piece c.loop-buffer.invariant.read c.in-Ok.ensures.bytes,
      never_ok _ _ c.from_residual.result c.from_residual.ensures.1,
      fault_is refused Memory c.from_residual.result c.from_residual.ensures.1 (c.in-Ok.ensures.counts ∙ c.loop-buffer.invariant.same),
    )
