use Rattle.std.{proofs.Common.{◌≡◌, find}, specs.List.All}
use Rattle.tq_shape.specs.ServerSet.{has_number}
use Rattle.tq_refresh.specs.Plan.{servers_in}
use Rattle.tq_refresh.proofs.planning.first_up.Given as goal

abbrev pub invariant-loop-current : goal.invariant-loop-current
invariant-loop-current l = record {
  of_tree : All (λ server. server.levels ≡ l.up.levels) l.current-iterator;
  left : find (λ server. has_number l.up.numbers server.number) l.current-iterator ≡ find (λ server. has_number l.up.numbers server.number) (servers_in l.servers);
}
