use Rattle.std.proofs.Common.{◌≡◌, ◌++◌, drop}
use Rattle.tq_desk.specs.DeskPlans.{names_written}
use Rattle.tq_desk.proofs.files.written_list.Given as goal

abbrev pub invariant-loop-op : goal.invariant-loop-op
invariant-loop-op l = l.names.items ++ names_written (drop l.op-index l.ops) ≡ names_written l.ops
