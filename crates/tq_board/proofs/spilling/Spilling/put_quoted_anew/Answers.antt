use Rattle.tq_board.{specs.Lines.in_quotes, proofs.Gathered.{behind-room, spill-then-settle, spill-then-spill}}
use Rattle.tq_board.proofs.spilling.Spilling.put_quoted_anew.Goals as goal

pub returns-clause-spills : goal.returns-clause-spills
returns-clause-spills g c =
    let mid = c.leave.new.self in
    let put = behind-room (g.W.Sink.taken mid.sink.now) (g.W.Sink.failed mid.sink.now) mid.has_failed mid.room.now c.put_quoted.new.self (in_quotes c.args.bytes.now) c.put_quoted.ensures in
    spill-then-spill _ _ _ _ _ (spill-then-settle _ _ _ _ c.put_anew.ensures.spills c.leave.ensures.settles) put
