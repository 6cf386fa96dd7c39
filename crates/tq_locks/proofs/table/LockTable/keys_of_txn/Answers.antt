use Rattle.std.proofs.Common.{subst, nat_eq}
use Rattle.tq_locks.specs.{Keys.keys_under, Locks.{LocksView, held_of}, Kept.{locks_in, ListsKeysOf, HasOneKeyEach}}
use Rattle.tq_locks.proofs.Applied.{lent, lent_once, sorted_held_of}
use Rattle.tq_locks.proofs.table.LockTable.keys_of_txn.Goals as goal

pub returns-clause-entries : goal.returns-clause-entries
returns-clause-entries c =
    let kept = c.self.inside.kept in
    let moved = c.listed_under.result.now in
    subst (λ (v : LocksView). ListsKeysOf v.slab moved (held_of v.locks c.args.txn)) c.self.view_is
    (lent kept.entries (keys_under nat_eq kept.by_txn c.args.txn) moved (held_of (locks_in kept) c.args.txn) c.listed_under.ensures (c.self.invariant.0.of_txn c.args.txn))

pub returns-clause-once : goal.returns-clause-once
returns-clause-once c =
    let kept = c.self.inside.kept in
    let moved = c.listed_under.result.now in
    subst (λ (v : LocksView). HasOneKeyEach moved (held_of v.locks c.args.txn)) c.self.view_is
    (lent_once kept.entries (keys_under nat_eq kept.by_txn c.args.txn) moved (held_of (locks_in kept) c.args.txn) c.listed_under.ensures (c.self.invariant.0.of_txn c.args.txn) (sorted_held_of (locks_in kept) c.args.txn))
