use Rattle.std.proofs.Common.{ap, ◌∙◌}
use Rattle.tq_locks.specs.{Locks.{only_stable, LocksView}, Kept.locks_in}
use Rattle.tq_locks.proofs.{Changed.{closed, locks_in-agreed}, Locked.HasNoConflict-only_stable}
use Rattle.tq_locks.proofs.table.LockTable.drop_unstable.Goals as goal

pub invariant_of-self : goal.invariant_of-self
invariant_of-self c = closed c.drop_unstable.new.self (only_stable (locks_in c.self.inside.kept)) c.drop_unstable.ensures (HasNoConflict-only_stable (locks_in c.self.inside.kept) c.self.invariant.1)

pub returns : goal.returns
returns c = locks_in-agreed c.drop_unstable.new.self (only_stable (locks_in c.self.inside.kept)) c.drop_unstable.ensures ∙ ap only_stable (ap (λ (v : LocksView). v.locks) c.self.view_is)
