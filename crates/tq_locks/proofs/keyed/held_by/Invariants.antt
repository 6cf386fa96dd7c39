use Rattle.std.{proofs.Common.◌≡◌, specs.Option.option_copied}
use Rattle.tq_locks.specs.{Keys.{keys_in, entries_of}, Kept.first_blocker}
use Rattle.tq_locks.proofs.keyed.held_by.Given as goal

-- the entries that were passed are the transaction's own
abbrev pub invariant-loop-entry : goal.invariant-loop-entry
invariant-loop-entry l = first_blocker l.txn l.mode l.entry-iterator ≡ first_blocker l.txn l.mode (entries_of l.entries (keys_in (option_copied l.list)))
