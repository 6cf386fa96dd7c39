use Rattle.crossbeam_channel.specs.Claims.{view}
use Rattle.tq_cluster.proofs.Queued.{merges}
use Rattle.tq_cluster.proofs.queue.rejoin.Goals as goal

pub absorb-requires-clause-rule : goal.absorb-requires-clause-rule
absorb-requires-clause-rule g c = merges c.args.pass.now.id (view c.args.pass.now) c.args.other.id (view c.args.other) c.requires.parts c.requires.takes
