use Rattle.std.proofs.Common.{refl, sym, ap, ◌∙◌, arith, slice_get}
use Rattle.tq_store.{proofs.Placed.opened, specs.Bounded.with_spare}
use Rattle.std_collections.proofs.Zip.{slice_get_at, zip-set_value}
use Rattle.indexmap.specs.IndexMap.{set_value_at}
use Rattle.tq_store.proofs.ordered.Ordered.value_mut.Goals as goal

pub index_mut-requires : goal.index_mut-requires
index_mut-requires g c = let o = opened c.self.inside.keys c.self.inside.values c.args.self.now c.self.view_is c.self.invariant.0 in omega (arith, o.values_len, c.requires)

pub returns : goal.returns
returns g c =
    let o = opened c.self.inside.keys c.self.inside.values c.args.self.now c.self.view_is c.self.invariant.0 in
    let i = c.args.place in (
      (refl, λ w. λ j. with_spare ((zip-set_value c.self.inside.keys.items c.self.inside.values.items i w ∙ ap (λ es. set_value_at es i w) o.entries) j) (o.spare j)),
      record { writes_back = tt; value = ap (λ l. slice_get l i) (sym o.values) ∙ slice_get_at c.self.inside.values.items i _ (omega (arith, o.values_length, c.requires)) c.index_mut.ensures.value },
    )
