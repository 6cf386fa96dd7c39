use Rattle.std.proofs.lemmas.Str.{IsUtf8-append, IsUtf8-from_ascii}
use Rattle.tq_board.proofs.ReadBack.{digits-ascii}
use Rattle.tq_board.proofs.out.TextOut.push_digits.Goals as goal

pub invariant_of-self : goal.invariant_of-self
invariant_of-self c =
    let some = c.in_err-push_bytes.ensures.kept in
    rw some.1 (IsUtf8-append _ _ c.self.invariant (IsUtf8-from_ascii _ (digits-ascii some.0)))

pub invariant_of-self-2 : goal.invariant_of-self-2
invariant_of-self-2 c =
    rw c.in_ok-push_bytes.ensures.text (IsUtf8-append _ _ c.self.invariant (IsUtf8-from_ascii _ (digits-ascii c.args.bytes.now)))
