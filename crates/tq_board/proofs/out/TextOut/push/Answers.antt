use Rattle.std.proofs.lemmas.Str.{IsUtf8-append}
use Rattle.tq_board.proofs.out.TextOut.push.Goals as goal

pub invariant_of-self-2 : goal.invariant_of-self-2
invariant_of-self-2 c = rw c.in_ok-extend_from_slice.ensures.items (IsUtf8-append _ _ c.self.invariant c.as_bytes.ensures.utf8)
