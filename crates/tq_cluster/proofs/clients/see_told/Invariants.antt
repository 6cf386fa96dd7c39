use Rattle.std.proofs.Common.{take}
use Rattle.tq_cluster.specs.Told.{AreToldByParts}
use Rattle.tq_cluster.proofs.clients.see_told.Given as goal

-- so far each caller was told by parts
abbrev pub invariant-loop-caller : goal.invariant-loop-caller
invariant-loop-caller l = AreToldByParts (take l.caller-index l.callers)
