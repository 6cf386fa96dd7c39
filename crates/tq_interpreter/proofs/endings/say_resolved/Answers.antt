use Rattle.std.proofs.Common.{◌∙◌, ◌++◌, ◌∷◌, [], ap, append_assoc}
use Rattle.tq_text.specs.Print.{desk_refusal_text}
use Rattle.tq_interpreter.proofs.endings.say_resolved.Goals as goal

pub returns-in_ok-push-in-Refused-clause-text : goal.returns-in_ok-push-in-Refused-clause-text
returns-in_ok-push-in-Refused-clause-text c =
    rw c.in-Refused.is (c.in_ok-push-in-Refused.ensures.items ∙ ap (λ t. t ++ 10 ∷ []) c.in_ok-push_desk_refusal-in-Refused.ensures.text ∙ append_assoc c.args.text.now.items (desk_refusal_text c.in-Refused.refusal) (10 ∷ []))
