use Rattle.std.proofs.Common.{◌+◌}
use Rattle.tq_mirror.specs.Prefixes.{ServersBegin}
use Rattle.tq_mirror.proofs.prefixes.Prefixes.first_server_astray.Given as goal

-- the servers so far begin so
abbrev pub invariant-loop-place : goal.invariant-loop-place
invariant-loop-place l = ServersBegin l.self l.journals (l.place + 1)
