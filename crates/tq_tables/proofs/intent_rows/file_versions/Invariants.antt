use Rattle.std.proofs.Common.{◌≡◌, map, take}
use Rattle.tq_tables.specs.Rows.{file_version}
use Rattle.tq_tables.proofs.intent_rows.file_versions.Given as goal

abbrev pub invariant-loop-write : goal.invariant-loop-write
invariant-loop-write l = l.versions.items ≡ map file_version (take l.write-index l.writes)
