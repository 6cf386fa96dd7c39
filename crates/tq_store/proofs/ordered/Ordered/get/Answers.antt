use Rattle.std.proofs.Common.{sym, ap, ◌∙◌, arith, slice_get}
use Rattle.tq_store.proofs.Placed.{opened}
use Rattle.indexmap.proofs.MapLemmas.{Found-position}
use Rattle.std_collections.proofs.Zip.{slice_get_at}
use Rattle.tq_store.proofs.ordered.Ordered.get.Goals as goal

pub index-requires : goal.index-requires
index-requires g c =
    let o = opened c.self.inside.keys c.self.inside.values c.args.self.now c.self.view_is c.self.invariant.0 in
    let t = g.K.PartialEq.eq c.args.key.now in
    let f = Found-position t c.args.self.now.entries c.in-Some.place (sym c.in-Some.ensures.index) in
    omega (arith, f.within, o.values_len)

pub returns-in-Some : goal.returns-in-Some
returns-in-Some g c =
    let o = opened c.self.inside.keys c.self.inside.values c.args.self.now c.self.view_is c.self.invariant.0 in
    let t = g.K.PartialEq.eq c.args.key.now in
    let f = Found-position t c.args.self.now.entries c.in-Some.place (sym c.in-Some.ensures.index) in
    let i = c.in-Some.place in
    record { value = sym (f.value ∙ ap (λ l. slice_get l i) (sym o.values) ∙ slice_get_at c.self.inside.values.items i c.index.result.now (omega (arith, f.within, o.values_length)) c.index.ensures) }
