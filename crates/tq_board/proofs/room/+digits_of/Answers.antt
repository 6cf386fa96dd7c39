use Rattle.std.proofs.{Common.{◌/◌, sym, arith}, lemmas.Fmt.length-decimal-le}
use Rattle.itoa.proofs.Decimal.{length_four, length_one, length_pair, length_two}
use Rattle.tq_board.proofs.room.+digits_of.Goals as goal

pub returns-then-number-lt10 : goal.returns-then-number-lt10
returns-then-number-lt10 t c = sym (length_one c.args.number c.if-number-lt10.true)

pub returns-then-number-lt100 : goal.returns-then-number-lt100
returns-then-number-lt100 t c = sym (length_two c.args.number c.if-number-lt10.false c.if-number-lt100.true)

pub returns-then-number-lt1000 : goal.returns-then-number-lt1000
returns-then-number-lt1000 t c =
    omega (arith, length_pair c.args.number c.if-number-lt100.false c.ranges.number.fits, length_one (c.args.number / 100) (omega (arith, c.if-number-lt1000.true)))

pub returns-then-number-lt10000 : goal.returns-then-number-lt10000
returns-then-number-lt10000 t c =
    omega (arith, length_pair c.args.number c.if-number-lt100.false c.ranges.number.fits, length_two (c.args.number / 100) (omega (arith, c.if-number-lt1000.false)) (omega (arith, c.if-number-lt10000.true)))

pub returns : goal.returns
returns t c = omega (arith, c.digits_of.ensures, length_four c.args.number c.if-number-lt10000.false c.ranges.number.fits)

pub overflow_add-result : goal.overflow_add-result
overflow_add-result t c =
    let fits = c.ranges.number.fits in
    omega (arith, c.digits_of.ensures, length-decimal-le 20 (c.args.number / 10000) (omega arith) (omega (arith, fits)) (omega (arith, fits)))
