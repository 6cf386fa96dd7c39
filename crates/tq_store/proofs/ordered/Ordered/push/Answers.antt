use Rattle.std.proofs.Common.{◌≡◌, ◌-◌, ◌++◌, ◌∷◌, [], length, position, None, min, sym, ap, subst, ◌∙◌, arith, zip, length-append}
use Rattle.std.specs.List.{IsDistinct}
use Rattle.tq_store.{proofs.Placed.{opened, distinct_push, placed_longer}, specs.Bounded.{ArePlaced, with_spare}}
use Rattle.std_collections.proofs.Zip.{zip-append}
use Rattle.indexmap.specs.IndexMap.{spare}
use Rattle.tq_store.proofs.ordered.Ordered.push.Goals as goal

pub invariant_of-self : goal.invariant_of-self
invariant_of-self g c =
    let o = opened c.self.inside.keys c.self.inside.values c.args.self.now c.self.view_is c.self.invariant.0 in
    let a = c.self.inside in
    let i = c.self.invariant in
    let keys = c.push_reserved.ensures.items in
    let values = c.push_reserved-2.ensures.items in
    let absent : position (g.K.PartialEq.eq c.args.key) a.keys.items ≡ None = ap (position (g.K.PartialEq.eq c.args.key)) o.keys ∙ c.requires.absent in (
      omega (arith, ap length keys, ap length values, length-append a.keys.items (c.args.key ∷ []), length-append a.values.items (c.args.value ∷ []), i.0),
      subst (IsDistinct g.K.PartialEq.eq) (sym keys) (distinct_push g.met.K.Eq.laws a.keys.items c.args.key i.1 absent),
      subst (ArePlaced g.K.Ord.cmp g.K.PartialEq.eq a.places a.placed) (sym keys) (placed_longer g.K.Ord.cmp g.K.PartialEq.eq a.places a.placed a.keys.items (c.args.key ∷ []) i.2),
    )

pub returns : goal.returns
returns g c =
    let o = opened c.self.inside.keys c.self.inside.values c.args.self.now c.self.view_is c.self.invariant.0 in
    let a = c.self.inside in
    let e : g.row.K.Denot × g.row.V.Denot = (c.args.key, c.args.value) in
    let keys = c.push_reserved.ensures.items in
    let entries : zip c.push_reserved.new.self.items c.push_reserved-2.new.self.items ≡ c.args.self.now.entries ++ e ∷ [] =
    (λ j. zip (keys j) (c.push_reserved-2.ensures.items j)) ∙ zip-append a.keys.items a.values.items (c.args.key ∷ []) (c.args.value ∷ []) c.self.invariant.0 ∙ ap (λ es. es ++ e ∷ []) o.entries in
    let room : min c.push_reserved.new.self.cap c.push_reserved-2.new.self.cap - length c.push_reserved.new.self.items ≡ spare c.args.self.now - 1 =
    omega (arith, c.push_reserved.ensures.capacity, c.push_reserved-2.ensures.capacity, o.spare, ap length keys, length-append a.keys.items (c.args.key ∷ [])) in
    c.place_next-placed.ensures ∙ (λ j. with_spare (entries j) (room j))
