use Rattle.std.{proofs.Common.{◌≡◌, length, ap, sym, subst, ◌∙◌, List, ℕ, arith}, specs.Global.Vec}
use Rattle.smallvec.specs.SmallVec.{SmallVec, HasRoomFor}
use Rattle.tq_locks.{specs.Keys.{starts_in, HasRoomBehind}, proofs.Blocks.{length-turned, room_behind}}
use Rattle.tq_locks.proofs.keys.Keys.put.Goals as goal

pub put-requires-clause-room : goal.put-requires-clause-room
put-requires-clause-room c =
    let k = c.self.inside in
    let same : starts_in k.starts ≡ c.deref_mut.result.now.items = ap starts_in c.in-Some.is ∙ sym (ap (λ (v : Vec ℕ). v.items) c.deref_mut.ensures.value) in
    subst (λ (starts : List ℕ). HasRoomBehind starts k.places) same (room_behind (starts_in k.starts) k.places (subst (λ v. HasRoomFor v 1) (sym c.self.view_is) c.requires.room))

pub put-requires-clause-within : goal.put-requires-clause-within
put-requires-clause-within c =
    let k = c.self.inside in
    omega (arith, c.requires.within, length-turned (starts_in k.starts) k.places.items, ap (λ (v : SmallVec ℕ). length v.items) c.self.view_is)
