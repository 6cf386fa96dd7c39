use Rattle.std.{proofs.Common.{◌≡◌, length, sym, ap, subst, arith, zip}, specs.List.{AllZip, IsDistinct}}
use Rattle.std.proofs.lemmas.List.Elements.{length_all_zip, same_from_all_zip}
use Rattle.tq_store.{proofs.Placed.{opened, placed_same}, specs.Bounded.ArePlaced}
use Rattle.std_collections.proofs.Zip.{all_zip-zip}
use Rattle.tq_store.proofs.ordered.OrderedClone.clone.Goals as goal

pub invariant_of-result : goal.invariant_of-result
invariant_of-result g c =
    let o = opened c.self.inside.keys c.self.inside.values c.args.self.now c.self.view_is c.self.invariant.0 in
    let a = c.self.inside in
    let keys = c.in_ok-clone.field-0.items in
    let values = c.in_ok-clone-2.field-0.items in
    let places = c.in_ok-clone-3.field-0 in
    let is_clone = g.K.Clone.is_clone in
    let exact : keys ≡ a.keys.items = same_from_all_zip is_clone a.keys.items keys c.in_ok-clone.ensures.cases.0 g.met.K.ExactClone.clones in
    let entries : places.entries ≡ a.places.entries =
    same_from_all_zip (λ p q. is_clone p.0 q.0 × (q.1 ≡ p.1)) a.places.entries places.entries c.in_ok-clone-3.ensures.cases (λ x y h. λ j. (g.met.K.ExactClone.clones x.0 y.0 h.0 j, h.1 j))
    in (
      omega (arith, length_all_zip g.V.Clone.is_clone a.values.items values c.in_ok-clone-2.ensures.cases.0, ap length exact, c.self.invariant.0),
      subst (IsDistinct g.K.PartialEq.eq) (sym exact) c.self.invariant.1,
      subst (ArePlaced g.K.Ord.cmp g.K.PartialEq.eq places a.placed) (sym exact) (placed_same g.K.Ord.cmp g.K.PartialEq.eq a.places places a.placed a.keys.items entries c.self.invariant.2),
    )

pub returns : goal.returns
returns g c =
    let o = opened c.self.inside.keys c.self.inside.values c.args.self.now c.self.view_is c.self.invariant.0 in
    let a = c.self.inside in
    let keys = c.in_ok-clone.field-0.items in
    let values = c.in_ok-clone-2.field-0.items in
    let places = c.in_ok-clone-3.field-0 in
    let is_clone = g.K.Clone.is_clone in
    record {
      cases = subst (λ es. AllZip (λ p q. is_clone p.0 q.0 × g.V.Clone.is_clone p.1 q.1) es (zip keys values)) o.entries
          (all_zip-zip is_clone g.V.Clone.is_clone a.keys.items keys a.values.items values c.in_ok-clone.ensures.cases.0 c.in_ok-clone-2.ensures.cases.0);
    }
