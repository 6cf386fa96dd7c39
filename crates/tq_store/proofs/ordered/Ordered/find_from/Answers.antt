use Rattle.std.proofs.Common.{◌≡◌, ◌≤◌, length, take, None, position, sym, ap, ◌∙◌, arith, get_or-take, length-take-le}
use Rattle.tq_store.proofs.Placed.{opened, none_passes, position_first, position_none}
use Rattle.tq_store.proofs.ordered.Ordered.find_from.Goals as goal

pub loop-place-init : goal.loop-place-init
loop-place-init g c =
    let o = opened c.self.inside.keys c.self.inside.values c.args.self.now c.self.view_is c.self.invariant.0 in
    let ks = c.self.inside.keys.items in
    let t = g.K.PartialEq.eq c.args.key.now in
    let first = c.args.first in
    let le : first ≤ length ks = omega (arith, c.requires.within, o.keys_length) in
    let absent : position t (take first ks) ≡ None = ap (λ l. position t (take first l)) o.keys ∙ c.requires.absent in
    (le, λ j d h. ap t (sym (get_or-take first ks j d h)) ∙ none_passes t (take first ks) absent j d (omega (arith, h, length-take-le first ks le)))

pub returns-then-eq : goal.returns-then-eq
returns-then-eq g c =
    let o = opened c.self.inside.keys c.self.inside.values c.args.self.now c.self.view_is c.self.invariant.0 in
    let ks = c.self.inside.keys in
    let t = g.K.PartialEq.eq c.args.key.now in
    let v = c.index.result.now in
    sym (ap (position t) (sym o.keys)
    ∙ position_first t ks.items c.loop-place.place v (omega (arith, c.loop-place-test.true, c.len.ensures, ks.ok.0)) (λ j h. c.loop-place.invariant.1 j v h) (ap t (sym c.index.ensures) ∙ sym c.eq.ensures ∙ c.if-eq.true))

pub returns : goal.returns
returns g c =
    let o = opened c.self.inside.keys c.self.inside.values c.args.self.now c.self.view_is c.self.invariant.0 in
    let ks = c.self.inside.keys in
    let t = g.K.PartialEq.eq c.args.key.now in
    sym (ap (position t) (sym o.keys) ∙ position_none t ks.items (λ j d h. c.loop-place.invariant.1 j d (omega (arith, h, c.loop-place-test.false, c.len.ensures, ks.ok.0))))
