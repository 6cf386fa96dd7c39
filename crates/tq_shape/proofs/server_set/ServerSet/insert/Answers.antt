use Rattle.std.proofs.Common.{◌<◌, ◌/◌, ◌≡◌, length, ap, sym, ◌∙◌}
use Rattle.tq_shape.proofs.{SetBits.with_number-last, SetWords.{AreWordsOf-with, has_place, is_new, set-with}}
use Rattle.tq_shape.proofs.server_set.ServerSet.insert.Goals as goal

pub put-requires : goal.put-requires
put-requires c =
    let own = c.requires ∙ sym (ap (λ v. v.levels) c.self.view_is) in
    rw c.place_of-place.ensures.place (has_place c.self.inside.levels c.args.server.levels c.args.server.number c.self.inside.words c.self.invariant own c.place_of-place.ensures.within)

own : (c : goal.After-put) → c.args.server.levels ≡ c.self.inside.levels
own c = c.requires ∙ sym (ap (λ v. v.levels) c.self.view_is)

within : (c : goal.After-put) → c.args.server.number / 64 < length c.self.inside.words
within c = has_place c.self.inside.levels c.args.server.levels c.args.server.number c.self.inside.words c.self.invariant (own c) c.place_of-place.ensures.within

pub invariant_of-self : goal.invariant_of-self
invariant_of-self c =
    rw (c.put.ensures, c.get-word.ensures, c.bit_of-bit.ensures, c.place_of-place.ensures.place)
    (AreWordsOf-with c.self.inside.words c.args.server.number (within c) c.self.inside.levels c.self.invariant (rw (own c) at c.place_of-place.ensures.within))

pub returns-clause-new : goal.returns-clause-new
returns-clause-new c =
    rw (← c.self.view_is, c.get-word.ensures, c.bit_of-bit.ensures, c.place_of-place.ensures.place) (is_new c.self.inside.words c.args.server.number (within c))

pub returns-clause-after : goal.returns-clause-after
returns-clause-after c =
    rw (← c.self.view_is, c.put.ensures, c.get-word.ensures, c.bit_of-bit.ensures, c.place_of-place.ensures.place)
    (ap (λ numbers. record { levels = c.self.inside.levels; numbers = numbers }) (set-with c.self.inside.words c.args.server.number (within c)))

pub returns-clause-last : goal.returns-clause-last
returns-clause-last c =
    λ below.
    returns-clause-after c
    ∙ ap (λ numbers. record { levels = c.args.self.now.levels; numbers = numbers }) (with_number-last c.args.server.number c.args.self.now.numbers below)
