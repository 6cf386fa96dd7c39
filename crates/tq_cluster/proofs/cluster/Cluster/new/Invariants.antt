use Rattle.std.proofs.Common.{◌≡◌, length}
use Rattle.tq_cluster.specs.Cluster.{AreServers}
use Rattle.tq_cluster.proofs.cluster.Cluster.new.Given as goal

-- so many cells were made, each with the name of its server
abbrev pub invariant-loop-place : goal.invariant-loop-place
invariant-loop-place g l = AreServers 1 l.servers.items × (length l.servers.items ≡ l.place)
