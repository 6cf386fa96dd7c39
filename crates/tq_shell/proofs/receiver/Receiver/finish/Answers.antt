use Rattle.std.proofs.Common.{◌≡◌, ◌∙◌, ◌++◌, ℕ, List, [], ◌∷◌, refl, ap}
use Rattle.tq_syntax.specs.Line.{line_of}
use Rattle.tq_interpreter.specs.Answer.{World, answer}
use Rattle.tq_shell.specs.Stream.{answer_to_rest}
use Rattle.tq_shell.proofs.receiver.Receiver.finish.Goals as goal

-- a last line that is empty is answered by nothing
last_answered : (world : World) (line : List ℕ) → (answer world (line_of line)).text ≡ answer_to_rest world line
last_answered world [] = refl
last_answered world (byte ∷ bytes) = refl

pub returns : goal.returns
returns c =
    let line = c.in_ok-line.ensures ∙ ap line_of c.as_slice.ensures.value in
    let said = ap (λ line. (answer c.self.inside.shell line).text) line ∙ last_answered c.self.inside.shell c.self.inside.line.items in
    rw (← c.self.view_is) (c.in_ok-answer.ensures.text ∙ ap (λ text. c.args.text.now.items ++ text) said)
