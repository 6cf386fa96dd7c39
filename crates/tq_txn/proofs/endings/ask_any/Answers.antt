use Rattle.tq_txn.proofs.LineLaws.{any_on}
use Rattle.tq_txn.proofs.endings.ask_any.Goals as goal

pub returns-clause-asks : goal.returns-clause-asks
returns-clause-asks g c =
    (any_on c.args.server.number c.args.ask c.node-told.result c.any_answer.result (g.A.Asker.told c.args.asker.now) (g.A.Asker.told c.node-told.new.self) c.node-told.ensures.exchanges c.any_answer.ensures).0

pub returns-clause-err : goal.returns-clause-err
returns-clause-err g c =
    (any_on c.args.server.number c.args.ask c.node-told.result c.any_answer.result (g.A.Asker.told c.args.asker.now) (g.A.Asker.told c.node-told.new.self) c.node-told.ensures.exchanges c.any_answer.ensures).1
