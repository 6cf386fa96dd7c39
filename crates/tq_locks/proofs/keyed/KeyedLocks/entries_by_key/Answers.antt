use Rattle.std.proofs.Common.{◌++◌, ℕ, map, ◌∙◌}
use Rattle.tq_locks.{specs.{declared.mode.Lock.Lock, Locks.LockKey}, proofs.Steadied.values-entries}
use Rattle.tq_locks.proofs.keyed.KeyedLocks.entries_by_key.Goals as goal

pub loop-key-init : goal.loop-key-init
loop-key-init c =
    let left = c.into_iter-key-iterator.ensures.into_iter_gives ∙ c.iter-key-items.ensures.rest in
    (λ i. c.in_ok-all.ensures.items i ++ map (λ (e : ℕ × (LockKey × Lock)). e.1) (left i)) ∙ values-entries 0 c.args.self.now.entries.slots
