use Rattle.std.proofs.Common.{◌+◌, ◌/◌, ap, arith}
use Rattle.tq_shape.proofs.SetWords.{AreWordsOf-none, numbers_of-none}
use Rattle.tq_shape.proofs.server_set.ServerSet.new.Goals as goal

pub invariant_of-result : goal.invariant_of-result
invariant_of-result c =
    rw c.in_ok-words.ensures
    (AreWordsOf-none c.args.levels (c.servers.result / 64 + 1) (omega (arith, c.servers.ensures.value)) (omega (arith, c.servers.ensures.most)))

pub returns : goal.returns
returns c =
    rw c.in_ok-words.ensures
    (ap (λ numbers. record { levels = c.args.levels; numbers = numbers }) (numbers_of-none (c.servers.result / 64 + 1)))
