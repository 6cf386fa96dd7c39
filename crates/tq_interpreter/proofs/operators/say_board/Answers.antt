use Rattle.std.proofs.Common.{◌∙◌, ◌++◌, ap}
use Rattle.tq_interpreter.proofs.operators.say_board.Goals as goal

pub returns-clause-text : goal.returns-clause-text
returns-clause-text c =
    c.in_ok-extend_from_slice.ensures.items
    ∙ ap (λ t. c.args.text.now.items ++ t) (c.as_bytes.ensures.value ∙ c.in_ok-board.ensures)
