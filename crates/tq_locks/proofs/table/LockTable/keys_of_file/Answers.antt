use Rattle.std.proofs.Common.{subst}
use Rattle.tq_store.specs.Names.{same_name}
use Rattle.tq_locks.specs.{Keys.keys_under, Locks.LocksView, Kept.{locks_in, on_file, ListsKeysOf, HasOneKeyEach}}
use Rattle.tq_locks.proofs.Applied.{lent, lent_once, sorted_on_file}
use Rattle.tq_locks.proofs.table.LockTable.keys_of_file.Goals as goal

pub returns-clause-entries : goal.returns-clause-entries
returns-clause-entries c =
    let kept = c.self.inside.kept in
    let moved = c.listed_under.result.now in
    subst (λ (v : LocksView). ListsKeysOf v.slab moved (on_file v.locks c.args.file.now)) c.self.view_is
    (lent kept.entries (keys_under same_name kept.by_file c.args.file.now) moved (on_file (locks_in kept) c.args.file.now) c.listed_under.ensures (c.self.invariant.0.of_file c.args.file.now))

pub returns-clause-once : goal.returns-clause-once
returns-clause-once c =
    let kept = c.self.inside.kept in
    let moved = c.listed_under.result.now in
    subst (λ (v : LocksView). HasOneKeyEach moved (on_file v.locks c.args.file.now)) c.self.view_is
    (lent_once kept.entries (keys_under same_name kept.by_file c.args.file.now) moved (on_file (locks_in kept) c.args.file.now) c.listed_under.ensures (c.self.invariant.0.of_file c.args.file.now) (sorted_on_file (locks_in kept) c.args.file.now))
