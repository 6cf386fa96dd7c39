use Rattle.std.proofs.Common.{◌∙◌}
use Rattle.tq_devices.proofs.Written.{written_on}
use Rattle.tq_devices.proofs.writing.write_out.Goals as goal

pub loop-rest-preserved : goal.loop-rest-preserved
loop-rest-preserved g c =
    let taken = g.W.Sink.taken in
    let front = c.loop-rest.invariant.front in
    record {
      front = written_on c.args.bytes.now c.loop-rest.rest.now (taken c.args.writer.now) (taken c.loop-rest.writer) (taken c.write.new.self) front.0 c.in-Ok.count front.1 c.in-Ok.ensures.within front.2 c.in-Ok.ensures.bytes;
      same = c.in-Ok.ensures.counts ∙ c.loop-rest.invariant.same;
    }
