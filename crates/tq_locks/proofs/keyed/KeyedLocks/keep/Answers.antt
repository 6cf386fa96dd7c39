use Rattle.std.proofs.Common.{nat_eq, refl, ◌∙◌}
use Rattle.tq_locks.specs.{declared.keyed.KeyedLocks.KeyedLocks, Kept.locks_in, Keys.keys_under}
use Rattle.tq_locks.proofs.Steadied.{Agrees-kept, steadied-moved}
use Rattle.tq_locks.proofs.keyed.KeyedLocks.keep.Goals as goal

pub returns : goal.returns
returns c =
    let old = c.args.self.now in
    let new : KeyedLocks = record { entries = c.stabilise_each.new.entries; by_file = old.by_file; by_txn = old.by_txn; homes = old.homes; last = old.last; alloc = old.alloc } in
    Agrees-kept old new (locks_in old) c.args.txn c.requires (λ k. c.stabilise_each.ensures k ∙ steadied-moved old.entries (keys_under nat_eq old.by_txn c.args.txn) c.listed_under.result.now c.listed_under.ensures k) refl refl
