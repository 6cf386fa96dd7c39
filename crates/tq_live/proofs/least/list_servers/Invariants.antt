use Rattle.std.proofs.Common.{◌≡◌, ◌++◌}
use Rattle.tq_live.proofs.least.list_servers.Given as goal

-- those so far and those that are left are all
abbrev pub invariant-loop-server : goal.invariant-loop-server
invariant-loop-server l = l.ids.items ++ l.server-iterator ≡ l.initial.server-iterator
