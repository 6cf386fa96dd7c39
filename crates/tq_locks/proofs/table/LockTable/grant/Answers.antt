use Rattle.std.proofs.Common.{◌≡◌, None, IfSome, IfNone, ap, subst, ◌∙◌}
use Rattle.std.specs.FinMap as fin
use Rattle.tq_locks.specs.Locks as spec
use Rattle.tq_locks.specs.{Locks.LocksView, Kept.{locks_in, lock_found, IsOf}}
use Rattle.tq_locks.proofs.Applied.{granted_whole, granted_value, asked_whole, asked_value, OnErr-any}
use Rattle.tq_locks.proofs.Changed.{closed, locks_in-agreed}
use Rattle.tq_shape.specs.Journal.{state_at}
use Rattle.tq_locks.proofs.table.LockTable.grant.Goals as goal

pub invariant_of-self : goal.invariant_of-self
invariant_of-self c =
    granted_whole c.self.inside.kept c.set_lock.new.self c.args.self.now.locks c.args.file c.args.txn c.args.mode c.args.number c.args.version c.find-found.result.key c.lock_at.result c.after-lock.result
    (ap (λ (v : LocksView). v.locks) c.self.view_is) c.self.invariant c.find-found.ensures.some c.find-found.ensures.none c.lock_at.ensures c.after-lock.ensures c.requires (c.set_lock.ensures (c.args.file, c.args.txn) (subst (λ found. IfSome found (λ key. IsOf c.self.inside.kept.entries key (c.args.file, c.args.txn))) c.in-Some.is (c.find-found.ensures.some c.self.invariant.0)))

pub returns-in-Some-clause-ok : goal.returns-in-Some-clause-ok
returns-in-Some-clause-ok c =
    granted_value c.self.inside.kept c.set_lock.new.self c.args.self.now.locks c.args.file c.args.txn c.args.mode c.args.number c.args.version c.find-found.result.key c.lock_at.result c.after-lock.result
    (ap (λ (v : LocksView). v.locks) c.self.view_is) c.self.invariant c.find-found.ensures.some c.find-found.ensures.none c.lock_at.ensures c.after-lock.ensures c.requires (c.set_lock.ensures (c.args.file, c.args.txn) (subst (λ found. IfSome found (λ key. IsOf c.self.inside.kept.entries key (c.args.file, c.args.txn))) c.in-Some.is (c.find-found.ensures.some c.self.invariant.0)))

pub returns-in-Some-clause-no_conflict : goal.returns-in-Some-clause-no_conflict
returns-in-Some-clause-no_conflict c = (invariant_of-self c).1

pub invariant_of-self-in-None : goal.invariant_of-self-in-None
invariant_of-self-in-None c =
    asked_whole c.self.inside.kept c.insert.new.self c.args.self.now.locks c.args.file c.args.txn c.args.mode c.args.number c.args.version c.after-lock.result c.in_ok-_unblocked-in-None._unblocked (ap (λ (v : LocksView). v.locks) c.self.view_is) c.self.invariant
    (subst (λ found. IfNone found (fin.get (locks_in c.self.inside.kept) (c.args.file, c.args.txn) ≡ None)) c.in-None.is (c.find-found.ensures.none c.self.invariant.0))
    (c.after-lock.ensures ∙ ap (λ o. spec.lock_after o c.args.mode c.args.number c.args.version) (c.lock_at.ensures ∙ ap (lock_found c.self.inside.kept.entries) c.in-None.is))
    c.in_ok-_unblocked-in-None.ensures.told c.in_ok-_unblocked-in-None.ensures.ok

pub returns-in_ok-_unblocked-in-None-clause-ok : goal.returns-in_ok-_unblocked-in-None-clause-ok
returns-in_ok-_unblocked-in-None-clause-ok c =
    asked_value c.self.inside.kept c.insert.new.self c.args.self.now.locks c.args.file c.args.txn c.args.mode c.args.number c.args.version c.after-lock.result c.in_ok-_unblocked-in-None._unblocked (ap (λ (v : LocksView). v.locks) c.self.view_is) c.self.invariant
    (subst (λ found. IfNone found (fin.get (locks_in c.self.inside.kept) (c.args.file, c.args.txn) ≡ None)) c.in-None.is (c.find-found.ensures.none c.self.invariant.0))
    (c.after-lock.ensures ∙ ap (λ o. spec.lock_after o c.args.mode c.args.number c.args.version) (c.lock_at.ensures ∙ ap (lock_found c.self.inside.kept.entries) c.in-None.is))
    c.in_ok-_unblocked-in-None.ensures.told c.in_ok-_unblocked-in-None.ensures.ok
    ∙ ap (λ o. state_at o c.args.self.now.locks (spec.locks_after_grant c.args.self.now.locks c.args.file c.args.txn c.args.mode c.args.number c.args.version)) c.requires

pub returns-in_ok-_unblocked-in-None-clause-no_conflict : goal.returns-in_ok-_unblocked-in-None-clause-no_conflict
returns-in_ok-_unblocked-in-None-clause-no_conflict c = (invariant_of-self-in-None c).1

pub invariant_of-self-in_err-_unblocked-in-None : goal.invariant_of-self-in_err-_unblocked-in-None
invariant_of-self-in_err-_unblocked-in-None c = closed c.insert.new.self (locks_in c.self.inside.kept) c.in_err-_unblocked-in-None.ensures.err c.self.invariant.1

pub returns-in_err-_unblocked-in-None-clause-no_conflict : goal.returns-in_err-_unblocked-in-None-clause-no_conflict
returns-in_err-_unblocked-in-None-clause-no_conflict c = (invariant_of-self-in_err-_unblocked-in-None c).1

pub returns-in_err-_unblocked-in-None-clause-err : goal.returns-in_err-_unblocked-in-None-clause-err
returns-in_err-_unblocked-in-None-clause-err c = OnErr-any _ _ (locks_in-agreed c.insert.new.self (locks_in c.self.inside.kept) c.in_err-_unblocked-in-None.ensures.err ∙ (ap (λ (v : LocksView). v.locks) c.self.view_is))
