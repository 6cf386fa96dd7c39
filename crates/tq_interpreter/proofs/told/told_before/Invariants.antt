use Rattle.std.proofs.Common.{[], ◌∷◌}
use Rattle.tq_interpreter.specs.Recorded.{mark_of}
use Rattle.tq_interpreter.proofs.told.told_before.Given as goal

abbrev pub ghost-of : goal.ghost-of
ghost-of a = mark_of a.facts.now ∷ []
