use Rattle.tq_txn.proofs.EndLaws.{aborted}
use Rattle.tq_txn.proofs.aborts.end_aborted.Goals as goal

pub returns-clause-asks : goal.returns-clause-asks
returns-clause-asks g c =
    aborted c.args.ended c.servers.result.now c.servers.ensures.numbers (g.A.Asker.told c.args.asker.now) (g.A.Asker.told c.end_at_each-answer.new.asker) c.end_at_each-answer.result c.end_at_each-answer.ensures.asks
