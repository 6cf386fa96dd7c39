use Rattle.tq_shape.proofs.server.ServerId.+side_towards.Given as goal

-- each step up leads to a smaller number
abbrev pub decreases-side_towards : goal.decreases-side_towards
decreases-side_towards l = l.below.number
