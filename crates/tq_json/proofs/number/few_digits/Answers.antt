use Rattle.std.proofs.Common.{◌≡◌, ◌<◌, take, take_all, length, subst, ap, ◌∙◌, arith}
use Rattle.std.specs.Str.Parse.{AllDigits, digits_value}
use Rattle.tq_json.proofs.Contents.{one_more, next_number, below_18}
use Rattle.tq_json.proofs.number.few_digits.Goals as goal

pub overflow_mul-number : goal.overflow_mul-number
overflow_mul-number c =
    let l = c.digits in
    omega (arith, below_18 c.args.bytes.now l.place l.number l.invariant.0 (omega arith) l.invariant.1 l.invariant.2)

pub overflow_add-number : goal.overflow_add-number
overflow_add-number c =
    let l = c.digits in
    omega (arith, below_18 c.args.bytes.now l.place l.number l.invariant.0 (omega arith) l.invariant.1 l.invariant.2)

pub digits-preserved : goal.digits-preserved
digits-preserved c =
    let l = c.digits in
    let bs = c.args.bytes.now in
    let within : l.place < length bs = omega arith in
    let digit = c.if-not-is_ascii_digit.ensures.bound in
    (omega arith, one_more bs l.place within l.invariant.1 digit, next_number bs l.place l.number within l.invariant.2 digit)

pub returns-clause-digits : goal.returns-clause-digits
returns-clause-digits c =
    let l = c.digits in
    let all : take l.place c.args.bytes.now ≡ c.args.bytes.now = take_all l.place c.args.bytes.now (omega arith) in
    subst (AllDigits 10) all l.invariant.1

pub returns-clause-value : goal.returns-clause-value
returns-clause-value c =
    let l = c.digits in
    l.invariant.2 ∙ ap (digits_value 10) (take_all l.place c.args.bytes.now (omega arith))
