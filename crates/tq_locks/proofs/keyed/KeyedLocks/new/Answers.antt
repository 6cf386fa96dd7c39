use Rattle.tq_locks.{specs.declared.keyed.KeyedLocks.KeyedLocks, proofs.Applied.Agrees-empty}
use Rattle.tq_locks.proofs.keyed.KeyedLocks.new.Goals as goal

pub returns : goal.returns
returns c =
    let made : KeyedLocks = record { entries = c.new.result; by_file = c.new-2.result; by_txn = c.new-3.result; homes = c.new-4.result; last = 0; alloc = c.args.alloc } in
    Agrees-empty made c.new.ensures c.new-2.ensures.empty c.new-3.ensures.empty
