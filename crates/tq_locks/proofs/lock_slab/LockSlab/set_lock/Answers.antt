use Rattle.std.proofs.Common.{◌≡◌, Some, sym, subst}
use Rattle.slab.specs.Slab.{Slab, get}
use Rattle.tq_locks.{specs.{Locks.LockKey, declared.mode.Lock.Lock}, proofs.Listed.put_lists}
use Rattle.tq_locks.proofs.lock_slab.LockSlab.set_lock.Goals as goal

pub invariant_of-self : goal.invariant_of-self
invariant_of-self c =
    put_lists c.self.inside.slab c.put_lock.new.slab c.args.key c.args.lock c.put_lock.ensures c.self.inside.loose.items c.self.invariant
    (subst (λ (slab : Slab (LockKey × Lock)). (entry : LockKey × Lock) → get slab c.args.key ≡ Some entry → c.args.lock.stable ≡ entry.1.stable) (sym c.self.view_is) c.requires)
