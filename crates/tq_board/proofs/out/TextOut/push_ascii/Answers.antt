use Rattle.std.proofs.lemmas.Str.{IsUtf8-append, IsUtf8-from_ascii}
use Rattle.tq_board.proofs.out.TextOut.push_ascii.Goals as goal

pub invariant_of-self-2 : goal.invariant_of-self-2
invariant_of-self-2 c = rw c.in_ok-extend_from_slice.ensures.items (IsUtf8-append _ _ c.self.invariant (IsUtf8-from_ascii _ c.requires.ascii))
