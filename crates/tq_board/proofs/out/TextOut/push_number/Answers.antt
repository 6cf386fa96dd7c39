use Rattle.std.proofs.lemmas.Fmt.{IsAscii-decimal}
use Rattle.std.proofs.lemmas.Str.{IsUtf8-append, IsUtf8-from_ascii}
use Rattle.tq_board.proofs.out.TextOut.push_number.Goals as goal

pub invariant_of-self-2 : goal.invariant_of-self-2
invariant_of-self-2 c =
    let digits = IsUtf8-from_ascii _ (IsAscii-decimal c.args.number c.ranges.number.fits) in
    rw c.in_ok-push_number.ensures.text (IsUtf8-append _ _ c.self.invariant digits)
