use Rattle.std.proofs.Common.{◌∙◌, ap, rules, subst}
use Rattle.tq_devices.specs.declared.fault.RunFault.TheVariants.{Memory}
use Rattle.tq_interpreter.specs.Answer.{World, opening}
use Rattle.tq_shell.{specs.Stream.Received, proofs.SessionLaws.{HasRun, by_fault, ends_before}}
use Rattle.tq_shell.proofs.session.run.Goals as goal

pub returns-in_err-shell-clause-text : goal.returns-in_err-shell-clause-text
returns-in_err-shell-clause-text g c =
    let given = g.R.Source.given in
    let ended = g.R.Source.is_ended c.args.reader.now in
    let taken = g.W.Sink.taken in
    by_fault c.from_residual.result Memory (opening c.args.levels) ended _ _ _ _ (search rules) (ends_before (opening c.args.levels) ended (given c.args.reader.now) (taken c.args.writer.now))

pub returns-clause-text : goal.returns-clause-text
returns-clause-text g c =
    let given = g.R.Source.given in
    let taken = g.W.Sink.taken in
    let P : World → Type 0 = λ w. HasRun c.answer_pieces-ran.result w (g.R.Source.is_ended c.answer_pieces-ran.new.reader) (given c.args.reader.now) (given c.answer_pieces-ran.new.reader) (taken c.args.writer.now) (taken c.answer_pieces-ran.new.writer) in
    subst P (ap (λ (r : Received). r.world) c.new-receiver.ensures ∙ c.in_ok-shell.ensures) c.answer_pieces-ran.ensures.text
