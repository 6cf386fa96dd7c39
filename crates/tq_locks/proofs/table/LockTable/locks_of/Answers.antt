use Rattle.std.proofs.Common.{nat_eq, ap, ◌∙◌}
use Rattle.slab.specs.Slab.{get}
use Rattle.tq_locks.specs.{Locks.{held_of, LocksView}, Keys.{keys_in, keys_under, entries_of}, Kept.locks_in}
use Rattle.tq_locks.proofs.Applied.{told-listed}
use Rattle.tq_locks.proofs.table.LockTable.locks_of.Goals as goal

pub returns : goal.returns
returns c =
    let kept = c.self.inside.kept in
    let all = told-listed (get kept.entries) (keys_under nat_eq kept.by_txn c.args.txn) (held_of (locks_in kept) c.args.txn) (c.self.invariant.0.of_txn c.args.txn) in
    c.walk.ensures ∙ ap (λ list. entries_of kept.entries (keys_in list)) c.list_near-list.ensures.list ∙ all ∙ ap (λ m. held_of m c.args.txn) (ap (λ (v : LocksView). v.locks) c.self.view_is)
