use Rattle.std.proofs.Common.{ap, ◌∙◌}
use Rattle.tq_locks.specs.{Locks.{locks_after_release, LocksView}, Kept.locks_in}
use Rattle.tq_locks.proofs.{Changed.{closed, locks_in-agreed}, Locked.HasNoConflict-released}
use Rattle.tq_locks.proofs.table.LockTable.release.Goals as goal

pub invariant_of-self : goal.invariant_of-self
invariant_of-self c = closed c.release.new.self (locks_after_release (locks_in c.self.inside.kept) c.args.txn) c.release.ensures (HasNoConflict-released (locks_in c.self.inside.kept) c.args.txn c.self.invariant.1)

pub returns : goal.returns
returns c = locks_in-agreed c.release.new.self (locks_after_release (locks_in c.self.inside.kept) c.args.txn) c.release.ensures ∙ ap (λ m. locks_after_release m c.args.txn) (ap (λ (v : LocksView). v.locks) c.self.view_is)
