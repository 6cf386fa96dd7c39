use Rattle.std.proofs.Common.{ℕ, Option, Some, refl, IfNone, IfSome, ◌≡◌, None, ap, sym, subst, ◌∙◌}
use Rattle.tq_locks.specs.{Locks.{blocker, IsFree, IsLeastBlocker, LocksView}, Keys.{keys_in, entries_of}}
use Rattle.tq_locks.specs.Kept.{first_blocker, locks_in}
use Rattle.tq_locks.proofs.{Applied.decided_on_file, Locked.{decided-blocker, least_blocker, no_blocker}}
use Rattle.tq_locks.proofs.table.LockTable.blocker.Goals as goal

pub returns-clause-value : goal.returns-clause-value
returns-clause-value c =
    let kept = c.self.inside.kept in
    let all = decided_on_file kept (locks_in kept) c.self.invariant.0 c.args.file c.args.txn c.args.mode in
    c.held_by.ensures
    ∙ ap (λ list. first_blocker c.args.txn c.args.mode (entries_of kept.entries (keys_in list))) c.get-list.ensures.value
    ∙ all
    ∙ decided-blocker (locks_in kept) c.args.file c.args.txn c.args.mode c.self.invariant.1
    ∙ ap (λ m. blocker m c.args.file c.args.txn c.args.mode) (ap (λ (v : LocksView). v.locks) c.self.view_is)

pub returns-clause-least : goal.returns-clause-least
returns-clause-least c =
    subst (λ (o : Option ℕ). IfSome o (IsLeastBlocker c.args.self.now.locks c.args.file c.args.txn c.args.mode)) (sym (returns-clause-value c)) (least_blocker c.args.self.now.locks c.args.file c.args.txn c.args.mode)

pub returns-clause-free : goal.returns-clause-free
returns-clause-free c = subst (λ (o : Option ℕ). IfNone o (IsFree c.args.self.now.locks c.args.file c.args.txn c.args.mode)) (sym (returns-clause-value c)) (none_free (blocker c.args.self.now.locks c.args.file c.args.txn c.args.mode) (no_blocker c.args.self.now.locks c.args.file c.args.txn c.args.mode))
  where
    none_free : {P : Type 0} (o : Option ℕ) → (o ≡ None → P) → IfNone o P
    none_free None f = f refl
    none_free (Some by) f = tt
