use Rattle.std.proofs.Common.{◌≡◌, drop}
use Rattle.std.specs.FinMap as fin
use Rattle.tq_desk.specs.DeskStep.{with_files}
use Rattle.tq_tables.proofs.file_names.FileNames.of_ops.Given as goal

abbrev pub invariant-loop-op : goal.invariant-loop-op
invariant-loop-op l = with_files l.names (drop l.op-index l.ops) ≡ with_files fin.empty l.ops
