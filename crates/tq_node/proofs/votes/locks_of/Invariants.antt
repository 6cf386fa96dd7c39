use Rattle.std.proofs.Common.{◌≡◌, ◌≤◌, ◌+◌, ◌++◌, length, map, vec_capacity, vec_len}
use Rattle.tq_locks.specs.Locks.{held_of}
use Rattle.tq_node.{specs.Records.held_lock, proofs.LocksWalked.version_of}
use Rattle.tq_node.proofs.votes.locks_of.Given as goal

abbrev pub invariant-loop-entry : goal.invariant-loop-entry
invariant-loop-entry l =
    (l.held.items ++ map held_lock l.entry-iterator ≡ map held_lock (held_of l.table.locks l.txn))
    × (l.versions.items ++ map version_of l.entry-iterator ≡ map version_of (held_of l.table.locks l.txn))
    × (vec_len l.held + length l.entry-iterator ≤ vec_capacity l.held)
    × (length l.versions.items + length l.entry-iterator ≤ l.versions.capacity)
