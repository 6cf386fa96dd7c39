use Rattle.std.proofs.{Common.{◌≤◌, ◌^◌, ◌∙◌, sym, arith}, Math.Nat.pow-le-pow_right}
use Rattle.tq_syntax.proofs.WordLaws.{digits_stop}
use Rattle.tq_syntax.proofs.word.few_digits.Goals as goal

pub with_low_digit-requires : goal.with_low_digit-requires
with_low_digit-requires c =
    let within : c.loop-digit.digit-index ≤ 18 = omega (arith, c.loop-digit-test.true, c.requires) in
    let few : 10 ^ c.loop-digit.digit-index ≤ 10 ^ 18 = pow-le-pow_right (omega arith) within in
    let low = c.loop-digit.invariant.1 in
    omega (arith, few, low)

pub returns-in_err-value : goal.returns-in_err-value
returns-in_err-value c =
    let stops = digits_stop c.args.word.now c.loop-digit.digit-index c.loop-digit.value c.loop-digit-test.true (sym c.in_err-value.ensures.value) in
    c.from_residual.ensures ∙ sym stops ∙ c.loop-digit.invariant.0
