use Rattle.tq_txn.specs.Told.{answers_in}
use Rattle.tq_tests_threads.proofs.boards.closed.Goals as goal

pub returns-clause-knows : goal.returns-clause-knows
returns-clause-knows g c = c.in-Ok.ensures.cited (answers_in (g.A.Asker.told c.args.asker.now)) c.requires.1
