use Rattle.tq_shape.specs.Tree.{height_of}
use Rattle.tq_coterie.proofs.holding.+holds_member_under.Given as goal

abbrev pub decreases-holds_member_under : goal.decreases-holds_member_under
decreases-holds_member_under l = height_of l.top.levels l.top.number
