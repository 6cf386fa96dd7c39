use Rattle.tq_cluster.proofs.Closing.{one_server_more}
use Rattle.tq_cluster.proofs.cluster.Cluster.new.Goals as goal

pub loop-place-preserved : goal.loop-place-preserved
loop-place-preserved g c =
    one_server_more c.loop-place.servers.items c.push.new.self.items c.loop-place.place c.new-cell.result c.loop-place.invariant c.new-cell.ensures c.in_ok-push.ensures.items
