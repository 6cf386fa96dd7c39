use Rattle.tq_shape.specs.declared.part.Part.TheVariants as parts
use Rattle.tq_mirror.specs.declared.entries.Entries.TheVariants as entries
use Rattle.tq_mirror.proofs.Standing.{ahead_with, enough}
use Rattle.tq_mirror.proofs.prefixes.Prefixes.ahead_of_desk.Goals as goal

pub follow_desk-requires : goal.follow_desk-requires
follow_desk-requires c = record { prefixes = c.args.self.now; kept = c.in_ok-spare.ensures.spare; few = c.requires }

pub returns-clause-ahead : goal.returns-clause-ahead
returns-clause-ahead c =
    ahead_with c.in_ok-found.found c.args.self.now parts.Desk (entries.Desk c.args.entries.now) c.args.least (enough _ _ _ _ _ c.desk.ensures c.are_few.ensures c.if-are_few.false)
    (c.in_ok-found.ensures c.args.self.now c.in_ok-spare.ensures.spare)
