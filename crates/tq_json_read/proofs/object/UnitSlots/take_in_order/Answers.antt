use Rattle.std.proofs.Common.{drop, refl}
use Rattle.tq_json_read.{specs.Slots.texts, proofs.Places.nothing_taken}
use Rattle.tq_json_read.proofs.object.UnitSlots.take_in_order.Goals as goal

pub returns-clause-ok : goal.returns-clause-ok
returns-clause-ok c old none = nothing_taken (λ values. tt) (drop c.args._slot (texts c.args._names.now)) old c.args._depth tt c.args._reader.now none refl
