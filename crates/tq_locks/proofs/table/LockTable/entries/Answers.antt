use Rattle.std.proofs.{Common.{◌≡◌, ap, rules, subst, ◌∙◌, List}, lemmas.Fn.always_returns_same}
use Rattle.std.specs.List.Sorted.{IsPermutation}
use Rattle.std.specs.FinMap as fin
use Rattle.tq_locks.specs.{declared.mode.Lock.Lock, Locks.{LockKey, LocksView}, Kept.locks_in}
use Rattle.tq_locks.proofs.Steadied.{sorted-agreed}
use Rattle.tq_locks.proofs.table.LockTable.entries.Goals as goal

pub returns : goal.returns
returns c =
    let kept = c.self.inside.kept in
    let key = λ (e : LockKey × Lock). e.0 in
    sorted-agreed kept (locks_in kept) c.self.invariant.0 c.sort_unstable_by_key.new.self.items
    (subst (λ (vs : List (LockKey × Lock)). IsPermutation vs c.sort_unstable_by_key.new.self.items) c.in_ok-all.ensures c.sort_unstable_by_key.ensures.permutation)
    (c.sort_unstable_by_key.ensures.sorted key (always_returns_same _ (λ a r. r ≡ key a.0.now) _ (λ a r q k. search rules)))
    ∙ ap fin.entries (ap (λ (v : LocksView). v.locks) c.self.view_is)
