use Rattle.std.proofs.{Common.{◌≤◌, List, drop, length, subst, arith}, lemmas.List.length-drop}
use Rattle.slab.specs.Slab.{get}
use Rattle.tq_locks.{specs.{Locks.LockKey, declared.mode.Lock.Lock}, proofs.Listed.told_most}
use Rattle.tq_locks.proofs.keyed.HeldLocks.most.Goals as goal

pub returns : goal.returns
returns c =
    let it = c.self.inside in
    let left = told_most (get it.entries.now) (drop it.at it.keys) in
    let all = length-drop it.at it.keys in
    subst (λ (left : List (LockKey × Lock)). length left ≤ c.saturating_sub.result) c.self.view_is (omega (arith, left, all, c.saturating_sub.ensures, c.len.ensures))
