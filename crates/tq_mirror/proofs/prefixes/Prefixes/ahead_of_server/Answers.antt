use Rattle.std.proofs.Common.{ap, arith, length}
use Rattle.tq_shape.specs.declared.part.Part.TheVariants as parts
use Rattle.tq_mirror.specs.declared.entries.Entries.TheVariants as entries
use Rattle.tq_mirror.proofs.Standing.{ahead_with, enough}
use Rattle.tq_mirror.proofs.prefixes.Prefixes.ahead_of_server.Goals as goal

pub follow_server-requires : goal.follow_server-requires
follow_server-requires c =
    let known = ap length c.server-known.ensures in
    let few = c.requires.few in
    record { prefixes = c.args.self.now; kept = c.in_ok-spare.ensures.spare; there = c.requires.there; count = known; few = omega (arith, known, few) }

pub returns-clause-ahead : goal.returns-clause-ahead
returns-clause-ahead c =
    ahead_with c.in_ok-found.found c.args.self.now (parts.Server c.args.number) (entries.Server c.args.entries.now) c.args.least (enough _ _ _ _ _ c.server-known.ensures c.are_few.ensures c.if-are_few.false)
    (c.in_ok-found.ensures c.args.self.now c.in_ok-spare.ensures.spare c.requires.there (ap length c.server-known.ensures))
