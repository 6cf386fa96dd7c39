use Rattle.std.proofs.Common.{Some, sym, ap, ◌∙◌, arith, slice_get}
use Rattle.tq_store.{proofs.Placed.opened, specs.Bounded.with_spare}
use Rattle.std_collections.proofs.Zip.{slice_get_at, zip-set_value}
use Rattle.indexmap.specs.IndexMap.{set_value_at}
use Rattle.tq_store.proofs.ordered.Ordered.replace.Goals as goal

pub index_mut-requires : goal.index_mut-requires
index_mut-requires g c = let o = opened c.self.inside.keys c.self.inside.values c.args.self.now c.self.view_is c.self.invariant.0 in omega (arith, o.values_len, c.requires)

pub returns : goal.returns
returns g c =
    let o = opened c.self.inside.keys c.self.inside.values c.args.self.now c.self.view_is c.self.invariant.0 in
    let i = c.args.place in
    let vs = c.self.inside.values.items in
    record {
      took = ap (λ l. slice_get l i) (sym o.values) ∙ slice_get_at vs i c.index_mut.result.now (omega (arith, o.values_length, c.requires)) c.index_mut.ensures.value
          ∙ ap Some (sym c.replace.ensures.value);
      after = λ j. with_spare ((zip-set_value c.self.inside.keys.items vs i _ ∙ (λ j'. set_value_at (o.entries j') i (c.replace.ensures.after j'))) j) (o.spare j);
    }
