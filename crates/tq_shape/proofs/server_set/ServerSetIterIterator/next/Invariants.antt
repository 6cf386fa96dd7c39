use Rattle.std.proofs.Common.{◌≡◌, length}
use Rattle.tq_shape.specs.ServerSet.{AreLeft, numbers_left}
use Rattle.tq_shape.proofs.server_set.ServerSetIterIterator.next.Given as goal

abbrev pub invariant-loop-word : goal.invariant-loop-word
invariant-loop-word l = record {
  left : AreLeft l.self-inside.levels l.base l.word l.rest;
  same : numbers_left l.base l.word l.rest ≡ numbers_left l.self-inside.base l.self-inside.word l.self-inside.rest.now;
}

abbrev pub decreases-loop-word : goal.decreases-loop-word
decreases-loop-word l = length l.rest
