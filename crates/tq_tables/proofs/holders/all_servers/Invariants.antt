use Rattle.std.proofs.Common.{◌≡◌, true, take}
use Rattle.tq_tables.specs.Rows.{servers_where}
use Rattle.tq_tables.proofs.holders.all_servers.Given as goal

abbrev pub invariant-loop-node : goal.invariant-loop-node
invariant-loop-node l = l.all ≡ servers_where l.fn.levels (λ node. true) (take l.node-index l.nodes)
