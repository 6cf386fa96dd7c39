use Rattle.std.proofs.{Common.{arith, ◌<◌, ◌^◌}, lemmas.Fmt.length-decimal-le}
use Rattle.tq_shape.proofs.decimal.push_number.Goals as goal

pub push_digits-requires : goal.push_digits-requires
push_digits-requires c =
    let fits = c.ranges.number.fits in
    let wide : c.args.number < 10 ^ 20 = omega (arith, fits) in
    let most = length-decimal-le 20 c.args.number (omega arith) wide fits in
    let room = c.in_ok-reserve.ensures.ok in
    omega (arith, most, room)
