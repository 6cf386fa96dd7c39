use Rattle.std.{proofs.Common.{take, is_some, position, sym, ap, subst, ◌∙◌, arith}, specs.List.IsDistinct}
use Rattle.tq_store.proofs.Placed.{opened, placed_found}
use Rattle.indexmap.proofs.MapLemmas.{some_index}
use Rattle.tq_store.proofs.ordered.Ordered.find.Goals as goal

pub find_from-requires-clause-within : goal.find_from-requires-clause-within
find_from-requires-clause-within g c = let o = opened c.self.inside.keys c.self.inside.values c.args.self.now c.self.view_is c.self.invariant.0 in omega (arith, c.self.invariant.2.0, o.keys_length)

pub find_from-requires-clause-absent : goal.find_from-requires-clause-absent
find_from-requires-clause-absent g c =
    let o = opened c.self.inside.keys c.self.inside.values c.args.self.now c.self.view_is c.self.invariant.0 in
    ap (λ l. position (g.K.PartialEq.eq c.args.key.now) (take c.self.inside.placed l)) (sym o.keys) ∙ sym (c.self.invariant.2.1 c.args.key.now) ∙ sym c.in-None.ensures.value

pub returns-in-Some : goal.returns-in-Some
returns-in-Some g c =
    let o = opened c.self.inside.keys c.self.inside.values c.args.self.now c.self.view_is c.self.invariant.0 in
    let t = g.K.PartialEq.eq c.args.key.now in
    let index = sym (ap (position t) (sym o.keys) ∙ placed_found t c.self.inside.placed c.self.inside.keys.items c.in-Some.place.now (sym (c.in-Some.ensures.value ∙ c.self.invariant.2.1 c.args.key.now))) in
    record { index = index; found = ap is_some index ∙ some_index t c.args.self.now.entries; unique = subst (IsDistinct g.K.PartialEq.eq) o.keys c.self.invariant.1 }

pub returns-in-None : goal.returns-in-None
returns-in-None g c =
    let o = opened c.self.inside.keys c.self.inside.values c.args.self.now c.self.view_is c.self.invariant.0 in
    let index = c.find_from.ensures in
    record { index = index; found = ap is_some index ∙ some_index (g.K.PartialEq.eq c.args.key.now) c.args.self.now.entries; unique = subst (IsDistinct g.K.PartialEq.eq) o.keys c.self.invariant.1 }
