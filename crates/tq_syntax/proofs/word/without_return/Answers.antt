use Rattle.std.proofs.{Common.{◌≤◌, length, arith}, lemmas.Bool.ne_eqb}
use Rattle.tq_syntax.proofs.WordLaws.{return_dropped_at, no_return_at}
use Rattle.tq_syntax.proofs.word.without_return.Goals as goal

pub returns-then-bytes-length-eq13 : goal.returns-then-bytes-length-eq13
returns-then-bytes-length-eq13 c =
    let some : 1 ≤ length c.args.bytes.now = omega (arith, c.if-length-eq0.false) in
    return_dropped_at c.args.bytes.now some c.if-bytes-length-eq13.true

pub returns : goal.returns
returns c = no_return_at c.args.bytes.now (ne_eqb _ _ c.if-bytes-length-eq13.false)
