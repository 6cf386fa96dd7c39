use Rattle.std.proofs.Common.{◌∙◌, ◌++◌, ap, codes, append_assoc}
use Rattle.tq_text.specs.Print.{numbers_text}
use Rattle.tq_text.proofs.refusals.push_not_a_voter.Goals as goal

pub returns-clause-text : goal.returns-clause-text
returns-clause-text c =
    let old = c.args.text.now.items in
    c.in_ok-push_numbers.ensures.text ∙ ap (λ t. t ++ numbers_text c.first_of.result.now) c.in_ok-extend_from_slice.ensures.items ∙ append_assoc old (codes "not a voter") (numbers_text c.first_of.result.now)
    ∙ ap (λ f. old ++ (codes "not a voter" ++ numbers_text f)) c.first_of.ensures
