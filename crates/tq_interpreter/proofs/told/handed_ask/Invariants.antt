use Rattle.std.proofs.Common.{[], ◌∷◌}
use Rattle.tq_interpreter.proofs.told.handed_ask.Given as goal

abbrev pub ghost-of : goal.ghost-of
ghost-of a = a.facts.now ∷ []
