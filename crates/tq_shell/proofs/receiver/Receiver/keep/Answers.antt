use Rattle.std.proofs.Common.{arith}
use Rattle.tq_shell.{specs.Stream.Received, proofs.Pieces.with_piece-room}
use Rattle.tq_shell.proofs.receiver.Receiver.keep.Goals as goal

pub returns : goal.returns
returns c =
    let received : Received = record { world = c.self.inside.shell; line = c.self.inside.line.items } in
    let room = c.self.inside.line.ok.0 in
    rw (← c.self.view_is) (rw c.in_ok-extend_from_slice.ensures.items (with_piece-room received c.args.bytes.now c.min.result
    (omega (arith, c.min.ensures, c.len-room.ensures, room, c.self.invariant)) (λ less. omega (arith, c.min.ensures, c.len-room.ensures, room, c.self.invariant, less))))
