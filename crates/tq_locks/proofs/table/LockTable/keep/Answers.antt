use Rattle.std.proofs.Common.{ap, ◌∙◌}
use Rattle.tq_locks.specs.{Locks.{locks_after_keep, LocksView}, Kept.locks_in}
use Rattle.tq_locks.proofs.{Changed.{closed, locks_in-agreed}, Locked.HasNoConflict-kept}
use Rattle.tq_locks.proofs.table.LockTable.keep.Goals as goal

pub invariant_of-self : goal.invariant_of-self
invariant_of-self c = closed c.keep.new.self (locks_after_keep (locks_in c.self.inside.kept) c.args.txn) c.keep.ensures (HasNoConflict-kept (locks_in c.self.inside.kept) c.args.txn c.self.invariant.1)

pub returns : goal.returns
returns c = locks_in-agreed c.keep.new.self (locks_after_keep (locks_in c.self.inside.kept) c.args.txn) c.keep.ensures ∙ ap (λ m. locks_after_keep m c.args.txn) (ap (λ (v : LocksView). v.locks) c.self.view_is)
