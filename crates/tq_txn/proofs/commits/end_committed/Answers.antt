use Rattle.tq_txn.proofs.CommitLaws.{end_on, end_off}
use Rattle.tq_txn.proofs.commits.end_committed.Goals as goal

pub returns-in-Ok-clause-asks : goal.returns-in-Ok-clause-asks
returns-in-Ok-clause-asks g c =
    end_on c.args.serial c.args.txn c.in-Ended.ended c.in-Ended.is c.servers.result.now c.servers.ensures.numbers (g.A.Asker.told c.args.asker.now) (g.A.Asker.told c.end_at_each.new.asker) c.in-Ok.ensures.asks

pub returns-in-Err-clause-asks : goal.returns-in-Err-clause-asks
returns-in-Err-clause-asks g c =
    end_off c.args.serial c.args.txn c.in-Ended.ended c.in-Ended.is c.servers.result.now c.servers.ensures.numbers (g.A.Asker.told c.args.asker.now) (g.A.Asker.told c.end_at_each.new.asker) c.in-Err.fault c.in-Err.ensures.asks
