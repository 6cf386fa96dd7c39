use Rattle.crossbeam_channel.specs.Claims.{view}
use Rattle.tq_cluster.proofs.Queued.{learns}
use Rattle.tq_cluster.proofs.queue.settle.Goals as goal

pub learn_as-requires-clause-rule : goal.learn_as-requires-clause-rule
learn_as-requires-clause-rule g c = learns c.args.pass.now.id (view c.args.pass.now) c.requires.whole.0 c.requires.whole.1
