use Rattle.std.proofs.Common.{◌≡◌, vec_len, length}
use Rattle.tq_core.specs.Steps as spec
use Rattle.tq_core.proofs.service.Service.take.Given as goal

-- the steps so far were told what they are to be told, and made the world as it is; there is room for the results of all
abbrev pub invariant-loop-step : goal.invariant-loop-step
invariant-loop-step l =
    (goal.iterator-loop-step).can_next l.step-iterator ×
    (goal.iterator-loop-step).is_finite l.step-iterator ×
    spec.AreTold l.initial.self l.yielded l.results.items ×
    (l.self ≡ spec.run_from l.initial.self (spec.taken_steps l.yielded l.results.items)) ×
    (Rattle.std.specs.Vec.vec_capacity l.results ≡ Rattle.std.specs.Vec.vec_capacity l.initial.results) ×
    (Rattle.std.specs.Vec.vec_len l.results ≡ length l.yielded)
