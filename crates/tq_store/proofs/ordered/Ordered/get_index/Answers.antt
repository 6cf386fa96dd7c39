use Rattle.std.proofs.{Common.{◌<◌, length, sym, ap, subst, ◌∙◌, arith, slice_get}, lemmas.Option.slice_get_past}
use Rattle.std.specs.List.{IsDistinct}
use Rattle.tq_store.proofs.Placed.{opened}
use Rattle.std_collections.proofs.{Zip.slice_get-zip, HashMapEq.own_value}
use Rattle.tq_store.proofs.ordered.Ordered.get_index.Goals as goal

pub returns-then-place-len : goal.returns-then-place-len
returns-then-place-len g c =
    let o = opened c.self.inside.keys c.self.inside.values c.args.self.now c.self.view_is c.self.invariant.0 in
    let i = c.args.place in
    let es = c.args.self.now.entries in
    let k = c.index.result.now in
    let v = c.index-then-place-len.result.now in
    let within : i < length es = omega (arith, c.if-place-len.true, c.len.ensures, o.keys_len) in
    let entry = ap (λ l. slice_get l i) (sym o.entries)
    ∙ slice_get-zip c.self.inside.keys.items c.self.inside.values.items i k v (omega (arith, within, o.keys_length)) (omega (arith, within, o.values_length)) c.index.ensures c.index-then-place-len.ensures in
    record { entry = sym entry; value = own_value g.K.PartialEq.eq g.met.K.Eq.laws es i k v entry (subst (IsDistinct g.K.PartialEq.eq) o.keys c.self.invariant.1) within }

pub returns-clause-entry : goal.returns-clause-entry
returns-clause-entry g c =
    let o = opened c.self.inside.keys c.self.inside.values c.args.self.now c.self.view_is c.self.invariant.0 in
    sym (slice_get_past c.args.self.now.entries c.args.place (omega (arith, c.if-place-len.false, c.len.ensures, o.keys_len)))
