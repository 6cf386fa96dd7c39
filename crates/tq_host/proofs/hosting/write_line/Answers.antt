use Rattle.std.{proofs.Common.{◌≡◌, ◌++◌, ◌∷◌, [], subst, rules}, specs.Fmt.decimal}
use Rattle.tq_host.{specs.Hosted.IsFront, proofs.LineLaws.front-of}
use Rattle.tq_host.proofs.hosting.write_line.Goals as goal

pub returns-in_default-write_out-clause-err : goal.returns-in_default-write_out-clause-err
returns-in_default-write_out-clause-err g c =
    let taken = g.W.Sink.taken in
    let failed = g.W.Sink.failed in
    let line : c.as_slice.result.now ≡ c.args.words.now ++ decimal c.args.number ++ 10 ∷ [] = search rules in
    subst (λ text. IsFront text (taken c.args.writer.now) (taken c.write_out.new.writer)) line
    (front-of (Unit {0}) c.in_default-write_out.field-0 c.as_slice.result.now (taken c.args.writer.now) (taken c.write_out.new.writer) (failed c.args.writer.now) (failed c.write_out.new.writer) c.in_default-write_out.ensures)
