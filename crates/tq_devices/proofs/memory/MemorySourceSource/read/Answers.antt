use Rattle.std.proofs.Common.{◌-◌, length, take, drop, arith}
use Rattle.tq_devices.proofs.Written.{given_more, left_less, rest_is}
use Rattle.tq_devices.proofs.memory.MemorySourceSource.read.Goals as goal

pub returns-clause-bytes : goal.returns-clause-bytes
returns-clause-bytes c =
    let bytes = c.self.inside.bytes.now in
    let place = c.self.inside.place in
    rw (← c.self.view_is) (given_more bytes c.args.buffer.now (take (length bytes - place) (drop place bytes)) c.copy_from_slice.new.self place c.min-count.result
    (rest_is bytes place c.self.invariant.1) c.copy_from_slice.ensures.after (omega (arith, c.min.ensures, c.min-count.ensures)))

pub returns-clause-left : goal.returns-clause-left
returns-clause-left c =
    let bytes = c.self.inside.bytes.now in
    let place = c.self.inside.place in
    rw (← c.self.view_is) (left_less bytes c.args.buffer.now (take (length bytes - place) (drop place bytes)) c.copy_from_slice.new.self place c.min-count.result
    (rest_is bytes place c.self.invariant.1) c.copy_from_slice.ensures.after (omega (arith, c.min.ensures, c.min-count.ensures)))
