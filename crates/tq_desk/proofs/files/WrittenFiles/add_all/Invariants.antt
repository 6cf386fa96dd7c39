use Rattle.std.proofs.Common.{◌≡◌, ◌≤◌, ◌+◌, drop, length}
use Rattle.tq_desk.specs.DeskPlans.{with_names}
use Rattle.tq_desk.proofs.files.WrittenFiles.add_all.Given as goal

abbrev pub invariant-loop-name : goal.invariant-loop-name
invariant-loop-name l = record {
  files : with_names l.self.files (drop l.name-index l.names) ≡ with_names l.fn.self.files l.names;
  room : length l.names ≤ l.self.room + l.name-index;
}
