use denote.Param.Send.{sendable}
use Rattle.std.proofs.Crossing.{crosses}
use Rattle.tq_cluster.proofs.Seen.{cluster_sync}
use Rattle.tq_tests_threads.proofs.clients.two_parts_at_once.Goals as goal

pub join-one-requires-send-F : goal.join-one-requires-send-F
join-one-requires-send-F g c κs within = search (cluster_sync, sendable, crosses) depth 60 fits 30000
