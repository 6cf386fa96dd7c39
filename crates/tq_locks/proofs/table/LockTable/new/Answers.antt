use Rattle.std.specs.FinMap as fin
use Rattle.tq_locks.proofs.{Changed.{closed, locks_in-agreed}, Locked.HasNoConflict-empty}
use Rattle.tq_locks.proofs.table.LockTable.new.Goals as goal

pub invariant_of-result : goal.invariant_of-result
invariant_of-result c = closed c.new.result fin.empty c.new.ensures HasNoConflict-empty

pub returns : goal.returns
returns c = locks_in-agreed c.new.result fin.empty c.new.ensures
