use Rattle.tq_coterie.specs.Coterie.{numbers_of}
use Rattle.tq_txn.{specs.Lines.ending_line, proofs.LineLaws.follows_memory}
use Rattle.tq_txn.proofs.endings.end_at_each.Goals as goal

pub returns-in-Err-clause-asks : goal.returns-in-Err-clause-asks
returns-in-Err-clause-asks g c = follows_memory (ending_line c.args.ended.now (numbers_of c.args.servers.now)) (g.A.Asker.told c.args.asker.now)
