use Rattle.std.proofs.Common.{◌≡◌, take}
use Rattle.tq_coterie.specs.Coterie.{servers_of}
use Rattle.tq_coterie.proofs.member.server_ids.Given as goal

abbrev pub invariant-loop-number : goal.invariant-loop-number
invariant-loop-number l = l.ids.items ≡ servers_of l.levels (take l.number-index l.numbers)
