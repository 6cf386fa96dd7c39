use Rattle.std.proofs.Common.{◌∙◌, ◌++◌, ap}
use Rattle.tq_interpreter.specs.Answer.{board_of}
use Rattle.tq_interpreter.proofs.shell.Shell.board.Goals as goal

pub returns-clause-text : goal.returns-clause-text
returns-clause-text c = c.in_ok-say_board.ensures.text ∙ ap (λ journals. c.args.text.now.items ++ board_of journals) c.service.ensures
