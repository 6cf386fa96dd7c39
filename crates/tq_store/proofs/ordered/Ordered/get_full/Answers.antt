use Rattle.std.proofs.Common.{rules, sym, ap, ◌∙◌, arith, slice_get}
use Rattle.tq_store.proofs.Placed.{opened}
use Rattle.indexmap.proofs.MapLemmas.{Found-position}
use Rattle.std_collections.proofs.Zip.{slice_get_at, slice_get-zip}
use Rattle.tq_store.proofs.ordered.Ordered.get_full.Goals as goal

pub index-requires : goal.index-requires
index-requires g c =
    let o = opened c.self.inside.keys c.self.inside.values c.args.self.now c.self.view_is c.self.invariant.0 in
    let t = g.K.PartialEq.eq c.args.key.now in
    let f = Found-position t c.args.self.now.entries c.in-Some.place (sym c.in-Some.ensures.index) in
    omega (arith, f.within, o.keys_len)

pub index-requires-in-Some : goal.index-requires-in-Some
index-requires-in-Some g c =
    let o = opened c.self.inside.keys c.self.inside.values c.args.self.now c.self.view_is c.self.invariant.0 in
    let t = g.K.PartialEq.eq c.args.key.now in
    let f = Found-position t c.args.self.now.entries c.in-Some.place (sym c.in-Some.ensures.index) in
    omega (arith, f.within, o.values_len)

pub returns-in-Some : goal.returns-in-Some
returns-in-Some g c =
    let o = opened c.self.inside.keys c.self.inside.values c.args.self.now c.self.view_is c.self.invariant.0 in
    let t = g.K.PartialEq.eq c.args.key.now in
    let i = c.in-Some.place in
    let f = Found-position t c.args.self.now.entries i (sym c.in-Some.ensures.index) in
    let entry = slice_get-zip c.self.inside.keys.items c.self.inside.values.items i _ _ (omega (arith, f.within, o.keys_length)) (omega (arith, f.within, o.values_length)) c.index.ensures c.index-in-Some.ensures in
    record {
      index = search rules;
      value = sym (f.value ∙ ap (λ l. slice_get l i) (sym o.values) ∙ slice_get_at c.self.inside.values.items i c.index-in-Some.result.now (omega (arith, f.within, o.values_length)) c.index-in-Some.ensures);
      entry = ap (λ es. slice_get es i) (sym o.entries) ∙ entry;
    }
