use Rattle.std.proofs.Common.{◌≡◌, map, take}
use Rattle.tq_intents.specs.declared.record.Record.TheVariants.{Copy}
use Rattle.tq_node.proofs.change.copies.Given as goal

abbrev pub invariant-loop-write : goal.invariant-loop-write
invariant-loop-write l = l.records.items ≡ map Copy (take l.write-index l.newer)
