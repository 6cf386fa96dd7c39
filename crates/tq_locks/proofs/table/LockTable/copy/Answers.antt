use Rattle.std.proofs.Common.{◌∙◌, ap}
use Rattle.tq_locks.{specs.{Locks.LocksView, Kept.locks_in}, proofs.Changed.{closed, locks_in-agreed}}
use Rattle.tq_locks.proofs.table.LockTable.copy.Goals as goal

pub invariant_of-result : goal.invariant_of-result
invariant_of-result c = closed c.in_ok-kept.kept (locks_in c.self.inside.kept) (c.in_ok-kept.ensures (locks_in c.self.inside.kept) c.self.invariant.0) c.self.invariant.1

pub returns : goal.returns
returns c = locks_in-agreed c.in_ok-kept.kept (locks_in c.self.inside.kept) (c.in_ok-kept.ensures (locks_in c.self.inside.kept) c.self.invariant.0) ∙ (ap (λ (v : LocksView). v.locks) c.self.view_is)
