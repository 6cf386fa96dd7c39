use Rattle.tq_board.proofs.Gathered.{passed}
use Rattle.tq_board.proofs.spilling.pass_on.Goals as goal

pub returns : goal.returns
returns g c =
    let taken = g.W.Sink.taken in
    let failed = g.W.Sink.failed in
    rw (c.if-has_failed.false, c.is_err.ensures.value) (passed c.write_out.result (taken c.args.sink.now) (taken c.write_out.new.writer) (failed c.args.sink.now) (failed c.write_out.new.writer) c.args.bytes.now c.write_out.ensures)
