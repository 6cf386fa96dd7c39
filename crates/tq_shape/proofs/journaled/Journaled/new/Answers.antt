use Rattle.tq_shape.specs.Agrees.{standing_part}
use Rattle.tq_shape.proofs.journaled.Journaled.new.Goals as goal

pub returns : goal.returns
returns g c = λ i. standing_part c.args.part (c.new.ensures.items i) c.args.limit
