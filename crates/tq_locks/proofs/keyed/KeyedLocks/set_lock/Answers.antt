use Rattle.std.proofs.Common.{refl}
use Rattle.tq_locks.{specs.{declared.keyed.KeyedLocks.KeyedLocks, Kept.locks_in}, proofs.Changed.Agrees-set}
use Rattle.tq_locks.proofs.keyed.KeyedLocks.set_lock.Goals as goal

pub returns : goal.returns
returns c name is =
    let old = c.args.self.now in
    let new : KeyedLocks = record { entries = c.set_lock.new.self; by_file = old.by_file; by_txn = old.by_txn; homes = old.homes; last = old.last; alloc = old.alloc } in
    Agrees-set old new (locks_in old) c.requires.agreed name c.args.lock c.args.key is.0 is.1 (c.set_lock.ensures (name, is.0) is.1) (λ f. refl) (λ t. refl)
