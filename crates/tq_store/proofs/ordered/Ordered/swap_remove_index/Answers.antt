use Rattle.std.proofs.Common.{◌≡◌, ◌<◌, length, sym, ap, subst, ◌∙◌, arith, rules, slice_get, zip, swap_remove}
use Rattle.std.specs.List.{IsDistinct}
use Rattle.tq_store.{proofs.Placed.{distinct_removed, opened}, specs.Bounded.ArePlaced}
use Rattle.std_collections.proofs.Zip.{slice_get-zip, zip-swap_remove}
use Rattle.tq_store.proofs.ordered.Ordered.swap_remove_index.Goals as goal

pub move_last-self-inside-requires-clause-within : goal.move_last-self-inside-requires-clause-within
move_last-self-inside-requires-clause-within g c = let o = opened c.self.inside.keys c.self.inside.values c.args.self.now c.self.view_is c.self.invariant.0 in omega (arith, c.requires, o.keys_length)

pub swap_remove-key-requires : goal.swap_remove-key-requires
swap_remove-key-requires g c = let o = opened c.self.inside.keys c.self.inside.values c.args.self.now c.self.view_is c.self.invariant.0 in omega (arith, c.requires, o.keys_len)

pub swap_remove-value-requires : goal.swap_remove-value-requires
swap_remove-value-requires g c = let o = opened c.self.inside.keys c.self.inside.values c.args.self.now c.self.view_is c.self.invariant.0 in omega (arith, c.requires, o.values_len)

pub invariant_of-self : goal.invariant_of-self
invariant_of-self g c =
    let o = opened c.self.inside.keys c.self.inside.values c.args.self.now c.self.view_is c.self.invariant.0 in
    let a = c.self.inside in
    let k = c.swap_remove-key.result in
    let ls = c.swap_remove-key.new.self in
    let items = sym c.swap_remove-key.ensures.items in
    let in_keys : c.args.place < length a.keys.items = omega (arith, c.requires, o.keys_length) in
    let even : length c.swap_remove-value.new.self.items ≡ length ls.items =
    omega (arith, c.swap_remove-value.ensures.len, c.swap_remove-value.new.self.ok.0, a.values.ok.0, c.self.invariant.0, c.swap_remove-key.ensures.len, ls.ok.0, a.keys.ok.0) in (
      even,
      subst (IsDistinct g.K.PartialEq.eq) items (distinct_removed g.met.K.Eq.laws a.keys.items a.values.items c.args.place k c.swap_remove-value.result c.self.invariant.0 in_keys c.self.invariant.1),
      subst (ArePlaced g.K.Ord.cmp g.K.PartialEq.eq c.move_last-self-inside.new.places c.move_last-self-inside.result) (ap (λ l. swap_remove l c.args.place k) c.as_slice.ensures.value ∙ items) (c.move_last-self-inside.ensures k),
    )

pub returns : goal.returns
returns g c =
    let o = opened c.self.inside.keys c.self.inside.values c.args.self.now c.self.view_is c.self.invariant.0 in
    let ks = c.self.inside.keys.items in
    let vs = c.self.inside.values.items in
    let p = c.args.place in
    let k = c.swap_remove-key.result in
    let v = c.swap_remove-value.result in
    record {
      took = ap (λ es. slice_get es p) (sym o.entries)
          ∙ slice_get-zip ks vs p k v (omega (arith, c.requires, o.keys_length)) (omega (arith, c.requires, o.values_length)) c.swap_remove-key.ensures.value c.swap_remove-value.ensures.value;
      entries = (λ j. zip (c.swap_remove-key.ensures.items j) (c.swap_remove-value.ensures.items j)) ∙ zip-swap_remove ks vs p k v c.self.invariant.0 ∙ ap (λ es. swap_remove es p (k, v)) o.entries;
      room = search rules;
    }
