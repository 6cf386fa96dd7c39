use Rattle.std.proofs.{Common.{◌∙◌, ◌++◌, ◌%◌, ap, sym, arith, rules, append_assoc}, lemmas.Fmt.decimal_digit}
use Rattle.itoa.proofs.Decimal.{decimal_pair, decimal_two, length_one, length_pair, length_two, pair}
use Rattle.tq_shape.proofs.decimal.+push_digits.Goals as goal

pub push_reserved-requires : goal.push_reserved-requires
push_reserved-requires t c = let one = length_one c.args.number c.if-number-lt10.true in omega (arith, c.requires, one)

pub returns-then-number-lt10-clause-items : goal.returns-then-number-lt10-clause-items
returns-then-number-lt10-clause-items t c = c.push_reserved.ensures.items ∙ ap (λ digits. c.args.text.now.items ++ digits) (sym (decimal_digit c.args.number c.if-number-lt10.true))

pub returns-then-number-lt10-clause-len : goal.returns-then-number-lt10-clause-len
returns-then-number-lt10-clause-len t c = let one = length_one c.args.number c.if-number-lt10.true in omega (arith, c.push_reserved.ensures.len, one)

pub push_pair-requires : goal.push_pair-requires
push_pair-requires t c = let two = length_two c.args.number c.if-number-lt10.false c.if-number-lt100.true in record { few = c.if-number-lt100.true; room = omega (arith, c.requires, two) }

pub returns-then-number-lt100-clause-items : goal.returns-then-number-lt100-clause-items
returns-then-number-lt100-clause-items t c =
    c.push_pair.ensures.items ∙ ap (λ digits. c.args.text.now.items ++ digits) (sym (decimal_two c.args.number c.if-number-lt10.false c.if-number-lt100.true))

pub returns-then-number-lt100-clause-len : goal.returns-then-number-lt100-clause-len
returns-then-number-lt100-clause-len t c = let two = length_two c.args.number c.if-number-lt10.false c.if-number-lt100.true in omega (arith, c.push_pair.ensures.len, two)

pub push_digits-requires : goal.push_digits-requires
push_digits-requires t c =
    let step = length_pair c.args.number c.if-number-lt100.false c.ranges.number.fits in
    (search rules, omega (arith, c.requires, step))

pub push_pair-requires-2 : goal.push_pair-requires-2
push_pair-requires-2 t c =
    let step = length_pair c.args.number c.if-number-lt100.false c.ranges.number.fits in
    record { few = omega arith; room = omega (arith, c.requires, c.push_digits.ensures.len, c.push_digits.ensures.capacity, step) }

pub returns-clause-items : goal.returns-clause-items
returns-clause-items t c =
    let last = pair (c.args.number % 100) in
    let digits = decimal_pair c.args.number c.if-number-lt100.false c.ranges.number.fits in
    c.push_pair-2.ensures.items ∙ ap (λ front. front ++ last) c.push_digits.ensures.items ∙ append_assoc c.args.text.now.items _ last ∙ ap (λ all. c.args.text.now.items ++ all) (sym digits)

pub returns-clause-len : goal.returns-clause-len
returns-clause-len t c =
    let step = length_pair c.args.number c.if-number-lt100.false c.ranges.number.fits in
    omega (arith, c.push_digits.ensures.len, c.push_pair-2.ensures.len, step)
