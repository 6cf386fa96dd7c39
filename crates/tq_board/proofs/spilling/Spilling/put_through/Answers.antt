use Rattle.std.proofs.Common.{[], refl}
use Rattle.tq_board.proofs.Gathered.{behind-room, settle-then-spill, spill-then-settle}
use Rattle.tq_board.proofs.spilling.Spilling.put_through.Goals as goal

pub returns-clause-spills : goal.returns-clause-spills
returns-clause-spills g c =
    let taken = g.W.Sink.taken c.flush.new.self.sink.now in
    let failures = g.W.Sink.failed c.flush.new.self.sink.now in
    let kept = behind-room taken failures c.flush.new.self.has_failed [] c.args.bytes.now c.args.bytes.now refl in
    rw c.flush.ensures.empty (settle-then-spill _ _ _ _ c.flush.ensures.settles (spill-then-settle _ _ _ _ kept c.pass_on-self.ensures))
