use Rattle.std.proofs.lemmas.Str.{IsUtf8-string_bytes}
use Rattle.tq_shape.specs.Journal.{entry}
use Rattle.tq_board.proofs.Laws.{node-line-back}
use Rattle.tq_host.proofs.parts.NodeWire.line_of_entry.Goals as goal

pub returns-clause-back : goal.returns-clause-back
returns-clause-back c = λ n legal.
    let line = c.in_ok-line.ensures in
    node-line-back (entry c.args.ask.now c.args.given.now) _ (IsUtf8-string_bytes c.in_ok-line.line) line.text line.fits line.kept
