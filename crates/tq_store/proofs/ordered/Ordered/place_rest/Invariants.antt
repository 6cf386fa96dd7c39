use Rattle.std.proofs.Common.{◌≡◌}
use Rattle.tq_store.proofs.ordered.Ordered.place_rest.Given as goal

abbrev pub invariant-loop : goal.invariant-loop
invariant-loop g l = l.self ≡ l.fn.self
