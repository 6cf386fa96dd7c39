use Rattle.std.proofs.Common.{◌≡◌, nat_eq, ap, subst, refl, ◌∙◌}
use Rattle.tq_locks.specs.{declared.mode.Lock.Lock, Locks.LockKey, Keys.keys_under, Kept.{locks_in, RisesTo}}
use Rattle.tq_locks.proofs.{Found.some_same, Applied.Agrees-left}
use Rattle.tq_locks.proofs.keyed.KeyedLocks.remove.Goals as goal

pub returns-clause-agreed : goal.returns-clause-agreed
returns-clause-agreed c name is =
    let old = c.args.self.now in
    let same : c.in-Some.entry.now ≡ (name, is.0) = some_same c.in-Some.entry.now (name, is.0) (c.in-Some.ensures ∙ is.1) in
    let left = c.leave_file.ensures.left name is in
    Agrees-left old c.leave_file.new.self (locks_in old) c.requires (name, is.0) name.0 c.entry.inside.txn refl (ap (λ (x : LockKey × Lock). x.0.1) (c.entry.view_is ∙ same)) left.place c.take_under.result c.args.key left.stood
    (subst (λ (q : LockKey). RisesTo old.entries (keys_under nat_eq old.by_txn c.entry.inside.txn) q c.take_under.result) (ap (λ (x : LockKey × Lock). x.0) same) c.take_under.ensures.place)
    is.1 c.leave_file.ensures.entries left.files (λ t. ap (λ lists. keys_under nat_eq lists t) c.leave_file.ensures.by_txn ∙ c.take_under.ensures.after t)
