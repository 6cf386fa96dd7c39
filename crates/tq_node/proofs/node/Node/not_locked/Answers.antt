use Rattle.std.proofs.Common.{List, ap, sym, ◌∙◌}
use Rattle.tq_locks.specs.{declared.mode.Lock.Lock, Locks.{LockKey, held_of}}
use Rattle.tq_node.{specs.{Node.NodeView, Telling.all_held}, proofs.LocksWalked.all_locked}
use Rattle.tq_node.proofs.node.Node.not_locked.Goals as goal

pub returns-then-all_held : goal.returns-then-all_held
returns-then-all_held c =
    let writes = c.args.writes.now in
    let txn = c.args.txn in
    let old = c.args.self.now.state.records in
    let walk = c.locks_of-held.ensures ∙ ap (λ (v : NodeView). held_of v.state.records.locks txn) c.self.view_is in
    sym (all_locked old txn writes (ap (λ (locks : List (LockKey × Lock)). all_held locks writes) (sym walk) ∙ sym c.all_held.ensures ∙ c.if-all_held.true))
