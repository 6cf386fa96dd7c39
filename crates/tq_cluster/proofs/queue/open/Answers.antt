use Rattle.tq_cluster.proofs.Queued.{begins}
use Rattle.tq_cluster.proofs.queue.open.Goals as goal

pub bounded_with-requires-clause-rule : goal.bounded_with-requires-clause-rule
bounded_with-requires-clause-rule g c = begins
