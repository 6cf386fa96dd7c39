use Rattle.std.proofs.Common.{◌↔◌, drop}
use Rattle.tq_shape.specs.ServerSet.{Ascends}
use Rattle.tq_coterie.proofs.membership.is_ascending.Given as goal

abbrev pub invariant-loop-number : goal.invariant-loop-number
invariant-loop-number l = Ascends 0 l.numbers ↔ Ascends l.last (drop l.number-index l.numbers)
