use Rattle.std.proofs.Common.{rules, nat_eq}
use Rattle.tq_store.specs.Names.{same_name}
use Rattle.tq_locks.{specs.declared.keyed.KeyedLocks.KeyedLocks, proofs.{Applied.Agrees-same, Listed.cloned_lists}}
use Rattle.tq_locks.proofs.keyed.KeyedLocks.copy.Goals as goal

pub returns : goal.returns
returns c locks a =
    let old = c.args.self.now in
    let copy : KeyedLocks = record { entries = c.in_ok-copy.field-0; by_file = c.in_ok-clone.field-0; by_txn = c.in_ok-clone-2.field-0; homes = c.in_ok-clone-3.field-0; last = old.last; alloc = old.alloc } in
    Agrees-same old copy locks a
    c.in_ok-copy.ensures
    (λ f. cloned_lists _ (search rules) (same_name f) old.by_file.entries copy.by_file.entries c.in_ok-clone.ensures.cases)
    (λ t. cloned_lists _ (search rules) (nat_eq t) old.by_txn.entries copy.by_txn.entries c.in_ok-clone-2.ensures.cases)
