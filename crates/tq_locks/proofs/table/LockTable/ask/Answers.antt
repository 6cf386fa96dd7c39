use Rattle.std.proofs.Common.{◌≡◌, None, IfNone, IfSome, ap, sym, subst, ◌∙◌}
use Rattle.std.specs.FinMap as fin
use Rattle.tq_shape.specs.Journal.{state_at}
use Rattle.tq_locks.specs.Locks.{IsTold, locks_after_grant, lock_after, outcome, LocksView}
use Rattle.tq_locks.{specs.Kept.{locks_in, lock_found, IsOf}, proofs.Changed.{closed, locks_in-agreed}}
use Rattle.tq_locks.proofs.Applied.{OnErr-any, by_is, is_told, granted_whole, granted_value, asked_whole, asked_value}
use Rattle.tq_locks.proofs.table.LockTable.ask.Goals as goal

pub invariant_of-self-in-None : goal.invariant_of-self-in-None
invariant_of-self-in-None c =
    asked_whole c.self.inside.kept c.insert.new.self c.args.self.now.locks c.args.file.now c.args.txn c.args.mode c.args.number c.args.version c.after-lock.result c.in_ok-by-in-None.by (ap (λ (v : LocksView). v.locks) c.self.view_is) c.self.invariant
    (subst (λ found. IfNone found (fin.get (locks_in c.self.inside.kept) (c.args.file.now, c.args.txn) ≡ None)) c.in-None.is (c.find-found.ensures.none c.self.invariant.0))
    (c.after-lock.ensures ∙ ap (λ o. lock_after o c.args.mode c.args.number c.args.version) (c.lock_at.ensures ∙ ap (lock_found c.self.inside.kept.entries) c.in-None.is)) c.in_ok-by-in-None.ensures.told c.in_ok-by-in-None.ensures.ok

pub invariant_of-self : goal.invariant_of-self
invariant_of-self c =
    granted_whole c.self.inside.kept c.set_lock.new.self c.args.self.now.locks c.args.file.now c.args.txn c.args.mode c.args.number c.args.version c.find-found.result.key c.lock_at.result c.after-lock.result
    (ap (λ (v : LocksView). v.locks) c.self.view_is) c.self.invariant c.find-found.ensures.some c.find-found.ensures.none c.lock_at.ensures c.after-lock.ensures (sym c.blocker.ensures.value ∙ c.in-None-blocker.is)
    (c.set_lock.ensures (c.args.file.now, c.args.txn) (subst (λ found. IfSome found (λ key. IsOf c.self.inside.kept.entries key (c.args.file.now, c.args.txn))) c.in-Some.is (c.find-found.ensures.some c.self.invariant.0)))

pub returns-in-None-blocker-clause-after : goal.returns-in-None-blocker-clause-after
returns-in-None-blocker-clause-after c =
    granted_value c.self.inside.kept c.set_lock.new.self c.args.self.now.locks c.args.file.now c.args.txn c.args.mode c.args.number c.args.version c.find-found.result.key c.lock_at.result c.after-lock.result
    (ap (λ (v : LocksView). v.locks) c.self.view_is) c.self.invariant c.find-found.ensures.some c.find-found.ensures.none c.lock_at.ensures c.after-lock.ensures (sym c.blocker.ensures.value ∙ c.in-None-blocker.is)
    (c.set_lock.ensures (c.args.file.now, c.args.txn) (subst (λ found. IfSome found (λ key. IsOf c.self.inside.kept.entries key (c.args.file.now, c.args.txn))) c.in-Some.is (c.find-found.ensures.some c.self.invariant.0)))
    ∙ ap (λ o. state_at o c.args.self.now.locks (locks_after_grant c.args.self.now.locks c.args.file.now c.args.txn c.args.mode c.args.number c.args.version)) (sym c.in-None-blocker.is ∙ c.blocker.ensures.value)

pub returns-in-None-blocker-clause-no_conflict : goal.returns-in-None-blocker-clause-no_conflict
returns-in-None-blocker-clause-no_conflict c = (invariant_of-self c).1

pub returns-in_ok-by-in-None-clause-outcome : goal.returns-in_ok-by-in-None-clause-outcome
returns-in_ok-by-in-None-clause-outcome c =
    c.of.ensures
    ∙ ap outcome (by_is c.self.inside.kept c.insert.new.self c.args.self.now.locks c.args.file.now c.args.txn c.args.mode c.args.number c.args.version c.after-lock.result c.in_ok-by-in-None.by (ap (λ (v : LocksView). v.locks) c.self.view_is) c.self.invariant
    (subst (λ found. IfNone found (fin.get (locks_in c.self.inside.kept) (c.args.file.now, c.args.txn) ≡ None)) c.in-None.is (c.find-found.ensures.none c.self.invariant.0))
    (c.after-lock.ensures ∙ ap (λ o. lock_after o c.args.mode c.args.number c.args.version) (c.lock_at.ensures ∙ ap (lock_found c.self.inside.kept.entries) c.in-None.is)) c.in_ok-by-in-None.ensures.told c.in_ok-by-in-None.ensures.ok)

pub returns-in_ok-by-in-None-clause-told : goal.returns-in_ok-by-in-None-clause-told
returns-in_ok-by-in-None-clause-told c = subst (IsTold c.args.self.now.locks c.args.file.now c.args.txn c.args.mode) (sym (returns-in_ok-by-in-None-clause-outcome c)) (is_told c.args.self.now.locks c.args.file.now c.args.txn c.args.mode)

pub returns-in_ok-by-in-None-clause-after : goal.returns-in_ok-by-in-None-clause-after
returns-in_ok-by-in-None-clause-after c =
    asked_value c.self.inside.kept c.insert.new.self c.args.self.now.locks c.args.file.now c.args.txn c.args.mode c.args.number c.args.version c.after-lock.result c.in_ok-by-in-None.by (ap (λ (v : LocksView). v.locks) c.self.view_is) c.self.invariant
    (subst (λ found. IfNone found (fin.get (locks_in c.self.inside.kept) (c.args.file.now, c.args.txn) ≡ None)) c.in-None.is (c.find-found.ensures.none c.self.invariant.0))
    (c.after-lock.ensures ∙ ap (λ o. lock_after o c.args.mode c.args.number c.args.version) (c.lock_at.ensures ∙ ap (lock_found c.self.inside.kept.entries) c.in-None.is)) c.in_ok-by-in-None.ensures.told c.in_ok-by-in-None.ensures.ok

pub returns-in_ok-by-in-None-clause-no_conflict : goal.returns-in_ok-by-in-None-clause-no_conflict
returns-in_ok-by-in-None-clause-no_conflict c = (invariant_of-self-in-None c).1

pub invariant_of-self-in_err-by-in-None : goal.invariant_of-self-in_err-by-in-None
invariant_of-self-in_err-by-in-None c = closed c.insert.new.self (locks_in c.self.inside.kept) c.in_err-by-in-None.ensures.err c.self.invariant.1

pub returns-in_err-by-in-None-clause-no_conflict : goal.returns-in_err-by-in-None-clause-no_conflict
returns-in_err-by-in-None-clause-no_conflict c = (invariant_of-self-in_err-by-in-None c).1

pub returns-in_err-by-in-None-clause-err : goal.returns-in_err-by-in-None-clause-err
returns-in_err-by-in-None-clause-err c = OnErr-any _ _ (locks_in-agreed c.insert.new.self (locks_in c.self.inside.kept) c.in_err-by-in-None.ensures.err ∙ (ap (λ (v : LocksView). v.locks) c.self.view_is))
