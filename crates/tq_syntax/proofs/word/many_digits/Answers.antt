use Rattle.std.proofs.Common.{◌∙◌, sym}
use Rattle.tq_syntax.proofs.WordLaws.{digits_stop}
use Rattle.tq_syntax.proofs.word.many_digits.Goals as goal

pub returns-in_err-value : goal.returns-in_err-value
returns-in_err-value c =
    let stops = digits_stop c.args.word.now c.loop-digit.digit-index c.loop-digit.value c.loop-digit-test.true (sym c.in_err-value.ensures) in
    c.from_residual.ensures ∙ sym stops ∙ c.loop-digit.invariant
