use Rattle.std.proofs.Common.{refl}
use Rattle.tq_board.proofs.Gathered.{ends-cut, ends-whole}
use Rattle.tq_board.proofs.spilling.Spilling.end.Goals as goal

pub returns-then-self-clause-ends : goal.returns-then-self-clause-ends
returns-then-self-clause-ends g c = ends-cut _ _ c.flush.ensures.settles c.if-self.true

pub returns-clause-ends : goal.returns-clause-ends
returns-clause-ends g c = ends-whole _ _ c.flush.ensures.settles c.if-self.false refl
