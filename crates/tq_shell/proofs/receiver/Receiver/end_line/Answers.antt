use Rattle.std.proofs.Common.{◌≡◌, ◌∙◌, ◌++◌, length, ap, arith}
use Rattle.tq_syntax.specs.Line.{line_of}
use Rattle.tq_interpreter.specs.Answer.{answer}
use Rattle.tq_shell.proofs.Pieces.{line-whole, no-bytes}
use Rattle.tq_shell.proofs.receiver.Receiver.end_line.Goals as goal

pub returns-then-is_empty-clause-text : goal.returns-then-is_empty-clause-text
returns-then-is_empty-clause-text c =
    let none : length c.self.inside.line.items ≡ 0 = grind arith in
    let line = c.in_ok-line.ensures ∙ ap line_of c.without_return.ensures ∙ line-whole c.self.inside.line.items c.args.bytes.now none in
    rw (← c.self.view_is) (c.in_ok-answer.ensures.text ∙ ap (λ line. c.args.text.now.items ++ (answer c.self.inside.shell line).text) line)

pub returns-then-is_empty-clause-after : goal.returns-then-is_empty-clause-after
returns-then-is_empty-clause-after c =
    let none : length c.self.inside.line.items ≡ 0 = grind arith in
    let line = c.in_ok-line.ensures ∙ ap line_of c.without_return.ensures ∙ line-whole c.self.inside.line.items c.args.bytes.now none in
    let after = c.in_ok-answer.ensures.after ∙ ap (λ line. (answer c.self.inside.shell line).after) line in
    rw (← c.self.view_is) (λ i. record { world = after i; line = no-bytes c.self.inside.line.items none i })
