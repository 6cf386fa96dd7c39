use Rattle.std.{proofs.Common.{◌≡◌, map, take}, specs.Bool.OnTrue}
use Rattle.tq_tables.specs.Files.{HaveRows, all_stood}
use Rattle.tq_tables.proofs.file_table.FileTable.set_currency_of_written.Given as goal

abbrev pub invariant-loop-write : goal.invariant-loop-write
invariant-loop-write l = record {
  levels : l.self.levels ≡ l.fn.self.levels;
  found : OnTrue l.found (HaveRows l.fn.self.rows (map (λ write. write.file) (take l.write-index l.writes)));
  rows : l.self.rows ≡ all_stood l.node l.fn.self.rows (map (λ write. write.file) (take l.write-index l.writes));
}
