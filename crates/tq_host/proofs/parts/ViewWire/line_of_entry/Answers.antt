use Rattle.std.proofs.{Common.{sym, subst}, lemmas.Str.IsUtf8-string_bytes}
use Rattle.tq_live.specs.ViewLaws.{IsOfTree, reply_of_tree}
use Rattle.tq_shape.specs.Journal.{entry}
use Rattle.tq_board.proofs.Laws.{view-line-back}
use Rattle.tq_host.proofs.parts.ViewWire.line_of_entry.Goals as goal

pub returns-clause-back : goal.returns-clause-back
returns-clause-back c = λ n legal.
    let line = c.in_ok-line.ensures in
    view-line-back c.args.self.now.levels (entry c.args.ask.now c.args.given.now) _ (IsUtf8-string_bytes c.in_ok-line.line) line.text line.fits line.kept (subst (IsOfTree c.args.self.now.levels) (sym legal) (reply_of_tree c.args.self.now c.args.ask.now))
