use Rattle.std.proofs.Common.{ap, length}
use Rattle.tq_shape.proofs.SetWords.{AreWordsOf-none, numbers_of-none}
use Rattle.tq_shape.proofs.server_set.ServerSet.clear.Goals as goal

pub invariant_of-self : goal.invariant_of-self
invariant_of-self c =
    rw c.clear.ensures (AreWordsOf-none c.self.inside.levels (length c.self.inside.words) c.self.invariant.room c.self.invariant.short)

pub returns : goal.returns
returns c =
    rw (← c.self.view_is, c.clear.ensures)
    (ap (λ numbers. record { levels = c.self.inside.levels; numbers = numbers }) (numbers_of-none (length c.self.inside.words)))
