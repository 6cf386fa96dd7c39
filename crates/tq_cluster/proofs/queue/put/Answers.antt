use Rattle.crossbeam_channel.specs.Claims.{view}
use Rattle.tq_cluster.proofs.Queued.{puts}
use Rattle.tq_cluster.proofs.queue.put.Goals as goal

pub send_as-requires-clause-rule : goal.send_as-requires-clause-rule
send_as-requires-clause-rule g c = (puts _ c.args.pass.now.id (view c.args.pass.now) c.args.message c.requires.puts, λ items views rule at. tt)
