use Rattle.tq_shape.specs.declared.part.Part.TheVariants as parts
use Rattle.tq_mirror.specs.declared.entries.Entries.TheVariants as entries
use Rattle.tq_mirror.proofs.Standing.{ahead_with, enough}
use Rattle.tq_mirror.proofs.prefixes.Prefixes.ahead_of_view.Goals as goal

pub returns-clause-ahead : goal.returns-clause-ahead
returns-clause-ahead c =
    ahead_with c.in_ok-found.found c.args.self.now parts.View (entries.View c.args.entries.now) c.args.least (enough _ _ _ _ _ c.view.ensures c.are_few.ensures c.if-are_few.false)
    (c.in_ok-found.ensures c.args.self.now c.in_ok-spare.ensures.spare)
