use Rattle.tq_txn.proofs.transacting.after.Goals as goal

pub returns-clause-asks : goal.returns-clause-asks
returns-clause-asks g c = rw c.if-answered.false c.give_up.ensures.asks
