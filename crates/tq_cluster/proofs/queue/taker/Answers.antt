use Rattle.crossbeam_channel.specs.Claims.{view}
use Rattle.tq_cluster.proofs.Queued.{forks}
use Rattle.tq_cluster.proofs.queue.taker.Goals as goal

pub another-requires-clause-rule : goal.another-requires-clause-rule
another-requires-clause-rule g c = forks c.args.pass.now.id (view c.args.pass.now) c.requires.parts
