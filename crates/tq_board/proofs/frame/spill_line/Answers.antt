use Rattle.std.proofs.Common.{[], refl}
use Rattle.tq_board.proofs.frame.spill_line.Goals as goal

pub returns-clause-same_sink : goal.returns-clause-same_sink
returns-clause-same_sink g c = (c.in-Ok.ensures.adds.after c.args.out.now [] (refl, refl, c.requires.nothing)).0

pub returns-clause-same_room : goal.returns-clause-same_room
returns-clause-same_room g c = (c.in-Ok.ensures.adds.after c.args.out.now [] (refl, refl, c.requires.nothing)).1

pub returns-clause-spilled : goal.returns-clause-spilled
returns-clause-spilled g c = (c.in-Ok.ensures.adds.after c.args.out.now [] (refl, refl, c.requires.nothing)).2
