use Rattle.std.{proofs.Common.{length, ap, sym, ◌∙◌, arith}, specs.Str.Parse.digits_value}
use Rattle.tq_json.proofs.Contents.{few-down, few-up, no-digits}
use Rattle.tq_json.proofs.number.has_few_places.Goals as goal

pub returns-then-is_exponent_negative : goal.returns-then-is_exponent_negative
returns-then-is_exponent_negative c =
    few-down c.args.numeral.now (rw c.whole-places.ensures.value at c.whole-places.ensures.digits) (rw c.fraction-fraction.ensures.value at c.fraction-fraction.ensures.digits)
    (omega (arith, ap length c.whole-places.ensures.value)) (sym c.if-is_exponent_negative.ensures)

pub returns-then-is_empty : goal.returns-then-is_empty
returns-then-is_empty c =
    few-up c.args.numeral.now 0 (rw c.whole-places.ensures.value at c.whole-places.ensures.digits) (rw c.fraction-fraction.ensures.value at c.fraction-fraction.ensures.digits)
    (omega (arith, ap length c.whole-places.ensures.value)) (sym c.if-is_exponent_negative.ensures)
    (ap (digits_value 10) (sym c.exponent-exponent.ensures.value) ∙ no-digits c.exponent-exponent.result.now (sym c.if-is_empty.ensures))

pub returns : goal.returns
returns c =
    few-up c.args.numeral.now c.in-Some.tens (rw c.whole-places.ensures.value at c.whole-places.ensures.digits) (rw c.fraction-fraction.ensures.value at c.fraction-fraction.ensures.digits)
    (omega (arith, ap length c.whole-places.ensures.value)) (sym c.if-is_exponent_negative.ensures)
    (ap (digits_value 10) (sym c.exponent-exponent.ensures.value) ∙ sym c.in-Some.ensures.value)
