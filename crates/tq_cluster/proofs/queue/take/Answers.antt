use Rattle.crossbeam_channel.specs.Claims.{view}
use Rattle.tq_cluster.proofs.Queued.{takes}
use Rattle.tq_cluster.proofs.queue.take.Goals as goal

pub recv_as-requires-clause-rule : goal.recv_as-requires-clause-rule
recv_as-requires-clause-rule g c = (takes c.args.pass.now.id (view c.args.pass.now) c.requires.parts, λ items views rule at. tt)
