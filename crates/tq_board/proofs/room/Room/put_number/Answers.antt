use Rattle.std.proofs.{Common.{length, arith, length-take, length-drop, ap}, lemmas.Fmt.length-decimal-le}
use Rattle.tq_board.proofs.room.Room.put_number.Goals as goal

pub write_number-requires : goal.write_number-requires
write_number-requires c =
    let few = length-decimal-le 20 c.args.number (omega arith) (omega (arith, c.ranges.number.fits)) c.ranges.number.fits in
    let there = simp length-take at (ap length c.self.view_is) in
    simp (length-take, length-drop, c.deref_mut.ensures.value) (omega (arith, few, there, c.requires, c.self.invariant.0, c.self.invariant.1))
