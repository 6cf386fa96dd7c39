use Rattle.std.proofs.lemmas.Result.{on_ok_weaker}
use Rattle.tq_locks.proofs.Blocks.{room_told}
use Rattle.tq_locks.proofs.keys.Keys.make_room.Goals as goal

pub returns-in-Some-clause-room : goal.returns-in-Some-clause-room
returns-in-Some-clause-room c = on_ok_weaker c.make_room.result (room_told c.make_room.new.starts.items c.make_room.new.places) c.make_room.ensures.room
