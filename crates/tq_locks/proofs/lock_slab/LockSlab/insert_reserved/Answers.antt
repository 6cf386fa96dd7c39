use Rattle.std.proofs.Common.{sym, subst}
use Rattle.slab.specs.Slab.{Slab, HasRoomFor}
use Rattle.tq_shape.specs.Journal.{Has}
use Rattle.tq_locks.{specs.{Locks.LockKey, declared.mode.Lock.Lock}, proofs.Listed.{inserted_lists, vacant_listed}}
use Rattle.tq_locks.proofs.lock_slab.LockSlab.insert_reserved.Goals as goal

pub invariant_of-self : goal.invariant_of-self
invariant_of-self c =
    let slab = c.self.inside.slab in
    let keys = c.self.inside.loose.items in
    let has = vacant_listed slab keys (subst (λ (s : Slab (LockKey × Lock)). HasRoomFor s 1) (sym c.self.view_is) c.requires) in
    inserted_lists slab c.insert_reserved.new.self keys c.insert_reserved.result _ c.self.invariant c.insert_reserved.ensures.updates (subst (Has keys) (sym c.insert_reserved.ensures.key) has)
