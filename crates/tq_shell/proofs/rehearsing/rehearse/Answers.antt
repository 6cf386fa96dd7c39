use Rattle.std.proofs.Common.{◌∙◌, ℕ, List, [], refl, subst, sym, inl}
use Rattle.tq_devices.{proofs.Written.Appends-none, specs.declared.fault.RunFault.TheVariants.Memory}
use Rattle.tq_shell.specs.{Rehearsal.IsRefusedFile, Audit.status_of}
use Rattle.tq_shell.proofs.ReportLaws.{not_read, refused_file, turned_away, ends_write}
use Rattle.tq_shell.proofs.rehearsing.rehearse.Goals as goal

pub returns-in_err-bytes-clause-text : goal.returns-in_err-bytes-clause-text
returns-in_err-bytes-clause-text g c =
    let read = c.in_err-bytes.ensures.bytes in
    let ended = g.R.Source.is_ended c.args.lines.now in (
      read.0,
      [],
      [],
      read.1,
      Appends-none (g.R.Source.given c.args.lines.now),
      Appends-none (g.W.Sink.taken c.args.writer.now),
      not_read c.from_residual.result c.in_err-bytes.field-0.0 ended read.0 (g.J.Source.failed c.args.journals.now) (g.J.Source.failed c.read_all.new.reader) c.from_residual.ensures.1 read.3,
    )

pub returns-in_err-service-clause-text : goal.returns-in_err-service-clause-text
returns-in_err-service-clause-text g c =
    let read = c.in_ok-bytes.ensures.bytes in
    let ended = g.R.Source.is_ended c.args.lines.now in (
      read.0,
      [],
      [],
      read.1,
      Appends-none (g.R.Source.given c.args.lines.now),
      Appends-none (g.W.Sink.taken c.args.writer.now),
      turned_away c.from_residual-in_err-service.result Memory ended read.0 [] c.from_residual-in_err-service.ensures.1 refl,
    )

pub returns-in_err-line-in-Refused-clause-text : goal.returns-in_err-line-in-Refused-clause-text
returns-in_err-line-in-Refused-clause-text g c =
    let read = c.in_ok-bytes.ensures.bytes in
    let ended = g.R.Source.is_ended c.args.lines.now in (
      read.0,
      [],
      [],
      read.1,
      Appends-none (g.R.Source.given c.args.lines.now),
      Appends-none (g.W.Sink.taken c.args.writer.now),
      turned_away c.from_residual-in_err-line-in-Refused.result Memory ended read.0 [] c.from_residual-in_err-line-in-Refused.ensures.1 refl,
    )

pub returns-in_err-write_out-in-Refused-clause-text : goal.returns-in_err-write_out-in-Refused-clause-text
returns-in_err-write_out-in-Refused-clause-text g c =
    let taken = g.W.Sink.taken in
    let failed = g.W.Sink.failed in
    let fault = c.in_err-write_out-in-Refused.field-0.0 in
    let finding = c.in-Refused.finding in
    let read = c.in_ok-bytes.ensures.bytes in
    let ended = g.R.Source.is_ended c.args.lines.now in
    let P : List ℕ → Type 0 = λ line. IsRefusedFile read.0 line (status_of finding) in
    let told = subst P (sym (c.as_slice.ensures.value ∙ c.in_ok-line-in-Refused.ensures)) (refused_file read.0 c.in_ok-bytes.bytes.items c.in_ok-service.field-0 finding c.in_ok-service.ensures c.in-Refused.is read.2.0) in
    let wrote = ends_write IsRefusedFile fault read.0 c.as_slice.result.now (status_of finding) (taken c.args.writer.now) (taken c.write_out.new.writer) (failed c.args.writer.now) (failed c.write_out.new.writer) told read.2.1 c.in_err-write_out-in-Refused.ensures in (
      read.0,
      [],
      wrote.0,
      read.1,
      Appends-none (g.R.Source.given c.args.lines.now),
      wrote.1,
      turned_away c.from_residual-in_err-write_out-in-Refused.result fault ended read.0 wrote.0 c.from_residual-in_err-write_out-in-Refused.ensures.1 wrote.2,
    )

pub returns-in_ok-write_out-in-Refused-clause-text : goal.returns-in_ok-write_out-in-Refused-clause-text
returns-in_ok-write_out-in-Refused-clause-text g c =
    let finding = c.in-Refused.finding in
    let read = c.in_ok-bytes.ensures.bytes in
    let P : List ℕ → Type 0 = λ line. IsRefusedFile read.0 line (status_of finding) in
    let Q : ℕ → Type 0 = λ status. IsRefusedFile read.0 c.as_slice.result.now status in
    let told = subst P (sym (c.as_slice.ensures.value ∙ c.in_ok-line-in-Refused.ensures)) (refused_file read.0 c.in_ok-bytes.bytes.items c.in_ok-service.field-0 finding c.in_ok-service.ensures c.in-Refused.is read.2.0) in (
      read.0,
      [],
      c.as_slice.result.now,
      read.1,
      Appends-none (g.R.Source.given c.args.lines.now),
      c.in_ok-write_out-in-Refused.ensures.0,
      inl (record { none_read = refl; told = (read.2.1, subst Q (sym c.status.ensures) told) }),
    )
