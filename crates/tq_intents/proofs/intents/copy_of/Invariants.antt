use Rattle.std.proofs.Common.{◌≡◌, ◌≤◌, take, length, vec_capacity}
use Rattle.tq_intents.proofs.intents.copy_of.Given as goal

abbrev pub invariant-loop-record : goal.invariant-loop-record
invariant-loop-record l = (l.copy.items ≡ take l.record-index l.records) × (length l.records ≤ vec_capacity l.copy)
