use Rattle.std.proofs.Common.{ap, ◌∙◌}
use Rattle.std.specs.FinMap as fin
use Rattle.tq_locks.{specs.{Locks.LocksView, Kept.locks_in}, proofs.Applied.found_lock}
use Rattle.tq_locks.proofs.table.LockTable.get.Goals as goal

pub returns-clause-value : goal.returns-clause-value
returns-clause-value c = c.lock_at.ensures ∙ found_lock c.self.inside.kept (locks_in c.self.inside.kept) (c.args.file, c.args.txn) c.find.result.key c.self.invariant.0 (c.find.ensures.some c.self.invariant.0) (c.find.ensures.none c.self.invariant.0) ∙ ap (λ locks. fin.get locks (c.args.file, c.args.txn)) (ap (λ (v : LocksView). v.locks) c.self.view_is)
