use Rattle.std.{proofs.Common.{cond, subst, ap, sym, ◌∙◌}, specs.List.insert}
use Rattle.tq_locks.{specs.Keys.{keys_under, HasRoomUnder}, proofs.Placed.{begun, roomy, list_there, written}}
use Rattle.tq_locks.proofs.index.put_under.Goals as goal

pub returns-in-Some-get_index_mut : goal.returns-in-Some-get_index_mut
returns-in-Some-get_index_mut g c t =
    let eq = g.K.PartialEq.eq in
    let m = c.args.lists.now in
    let n = c.args.name.now in
    let v = c.in-Some-get_index_mut.keys.now in
    let r = roomy eq m n c.in-Some.index v (subst (HasRoomUnder eq m n) c.in-Some.is c.requires.room) (sym c.in-Some-get_index_mut.ensures.value) in
    written eq g.met.K.Eq.laws m n r.0 c.in-Some.index c.get_index_mut.ensures.unique v c.put.new.self r.1 r.2 t ∙ ap (λ ks. cond (eq n t) ks (keys_under eq m t)) (c.put.ensures ∙ ap (λ ks. insert ks c.args.spot.place c.args.key) (sym r.3))

pub returns-in_default : goal.returns-in_default
returns-in_default g c t = absurd (list_there g.K.PartialEq.eq c.args.lists.now c.args.name.now c.in-Some.index (subst (HasRoomUnder g.K.PartialEq.eq c.args.lists.now c.args.name.now) c.in-Some.is c.requires.room) (sym c.in_default.ensures.value))

pub returns-in-None : goal.returns-in-None
returns-in-None g c t =
    let eq = g.K.PartialEq.eq in
    let m = c.args.lists.now in
    let n = c.args.name.now in
    let room = subst (HasRoomUnder eq m n) c.in-None.is c.requires.room in
    begun eq m c.begin_reserved.new.lists n c.args.spot.place c.args.key room.0 c.requires.within c.begin_reserved.ensures t

pub begin_reserved-requires : goal.begin_reserved-requires
begin_reserved-requires g c =
    let room = subst (HasRoomUnder g.K.PartialEq.eq c.args.lists.now c.args.name.now) c.in-None.is c.requires.room in
    record { room = room.1; absent = room.0 }
