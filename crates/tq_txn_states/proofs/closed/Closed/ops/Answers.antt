use Rattle.tq_txn_states.proofs.Searched.{quorums-order}
use Rattle.tq_txn_states.proofs.closed.Closed.ops.Goals as goal

pub returns-clause-order : goal.returns-clause-order
returns-clause-order c = rw c.as_slice.ensures (quorums-order c.self.inside.levels c.self.inside.ops c.self.invariant.0.quorums)
