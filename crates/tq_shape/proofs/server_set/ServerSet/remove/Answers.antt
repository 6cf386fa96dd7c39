use Rattle.std.proofs.Common.{◌<◌, ◌/◌, length, ap, sym, ◌∙◌}
use Rattle.tq_shape.proofs.SetWords.{AreWordsOf-without, has_place, set-has, set-without}
use Rattle.tq_shape.proofs.server_set.ServerSet.remove.Goals as goal

pub put-requires : goal.put-requires
put-requires c =
    let own = c.requires ∙ sym (ap (λ v. v.levels) c.self.view_is) in
    rw c.place_of-place.ensures.place (has_place c.self.inside.levels c.args.server.levels c.args.server.number c.self.inside.words c.self.invariant own c.place_of-place.ensures.within)

within : (c : goal.After-put) → c.args.server.number / 64 < length c.self.inside.words
within c =
    let own = c.requires ∙ sym (ap (λ v. v.levels) c.self.view_is) in
    has_place c.self.inside.levels c.args.server.levels c.args.server.number c.self.inside.words c.self.invariant own c.place_of-place.ensures.within

pub invariant_of-self : goal.invariant_of-self
invariant_of-self c =
    rw (c.put.ensures, c.get-word.ensures, c.bit_of-bit.ensures, c.place_of-place.ensures.place)
    (AreWordsOf-without c.self.inside.words c.args.server.number (within c) c.self.inside.levels c.self.invariant)

pub returns-clause-old : goal.returns-clause-old
returns-clause-old c =
    rw (← c.self.view_is, c.get-word.ensures, c.bit_of-bit.ensures, c.place_of-place.ensures.place) (set-has c.self.inside.words c.args.server.number (within c))

pub returns-clause-after : goal.returns-clause-after
returns-clause-after c =
    rw (← c.self.view_is, c.put.ensures, c.get-word.ensures, c.bit_of-bit.ensures, c.place_of-place.ensures.place)
    (ap (λ numbers. record { levels = c.self.inside.levels; numbers = numbers }) (set-without c.self.inside.words c.args.server.number (within c)))
