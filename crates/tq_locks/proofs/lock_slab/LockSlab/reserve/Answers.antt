use Rattle.tq_locks.proofs.{Placed.OnOk-to, Listed.listed_room}
use Rattle.tq_locks.proofs.lock_slab.LockSlab.reserve.Goals as goal

pub returns-then-is_in_place-clause-room : goal.returns-then-is_in_place-clause-room
returns-then-is_in_place-clause-room c = listed_room c.reserve.new.self c.self.inside.loose.items c.vacant_key-key.result c.vacant_key-key.ensures.value c.if-is_in_place.ensures c.in_ok-reserve.ensures.room

pub returns-clause-room : goal.returns-clause-room
returns-clause-room c =
    OnOk-to _ _ c.list_key.result c.list_key.ensures.listed (λ has. listed_room c.reserve.new.self c.list_key.new.loose.items c.vacant_key-key.result c.vacant_key-key.ensures.value has c.in_ok-reserve.ensures.room)
