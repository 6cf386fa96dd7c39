use Rattle.std.proofs.Common.{sym, ◌∙◌, subst}
use Rattle.indexmap.specs.IndexMap.{with_value_at}
use Rattle.tq_locks.{specs.Keys.HasRoomUnder, proofs.Placed.{entry_of, unwritten, room, room_for_list, OnOk-to}}
use Rattle.tq_locks.proofs.index.make_room_under.Goals as goal

pub returns-in-None-clause-room : goal.returns-in-None-clause-room
returns-in-None-clause-room g c =
    let eq = g.K.PartialEq.eq in
    let name = c.args.name.now in
    OnOk-to _ _ _ c.reserve.ensures.ok
    (λ more. subst (HasRoomUnder eq c.reserve.new.self name) (sym c.in-None.is) (room_for_list eq c.args.lists.now c.reserve.new.self name (sym c.in-None.is ∙ c.requires) c.reserve.ensures.entries more))

pub returns-in-Some-get_index_mut-clause-same : goal.returns-in-Some-get_index_mut-clause-same
returns-in-Some-get_index_mut-clause-same g c =
    let eq = g.K.PartialEq.eq in
    let m = c.args.lists.now in
    let v = c.in-Some-get_index_mut.keys.now in
    let e = entry_of eq m c.args.name.now c.in-Some.index v (sym c.requires ∙ c.in-Some.is) (sym c.in-Some-get_index_mut.ensures.value) in
    unwritten eq g.met.K.Eq.laws m c.args.name.now e.0 c.in-Some.index c.get_index_mut.ensures.unique v c.make_room.new.self e.1 e.2 e.3 c.make_room.ensures.same

pub returns-in-Some-get_index_mut-clause-room : goal.returns-in-Some-get_index_mut-clause-room
returns-in-Some-get_index_mut-clause-room g c =
    let eq = g.K.PartialEq.eq in
    let m = c.args.lists.now in
    let name = c.args.name.now in
    let v = c.in-Some-get_index_mut.keys.now in
    let e = entry_of eq m name c.in-Some.index v (sym c.requires ∙ c.in-Some.is) (sym c.in-Some-get_index_mut.ensures.value) in
    OnOk-to _ _ _ c.make_room.ensures.room (λ r. subst (HasRoomUnder eq (with_value_at m c.in-Some.index c.make_room.new.self) name) (sym c.in-Some.is) (room eq g.met.K.Eq.laws m name e.0 c.in-Some.index c.get_index_mut.ensures.unique v c.make_room.new.self e.1 e.2 r))
