use Rattle.std.proofs.{Common.{Some, nat_eq, length, ltb-true, refl, ap, sym, subst, ◌∙◌}, lemmas.Option.slice_get_read}
use Rattle.tq_shape.specs.Journal.{Has}
use Rattle.tq_locks.proofs.{Applied.Has-at, Placed.OnTrue-to, Listed.equal}
use Rattle.tq_locks.proofs.lock_slab.is_in_place.Goals as goal

pub returns-in-Some-get : goal.returns-in-Some-get
returns-in-Some-get c =
    let keys = c.deref-2.result.now in
    let place = c.in-Some.place.now in
    let listed = c.in-Some-get.listed.now in
    OnTrue-to _ (nat_eq listed c.args.key) (λ same.
    subst (λ ks. Has ks c.args.key) c.deref-2.ensures.value
    (Has-at keys place c.args.key (slice_get_read keys (length keys) place listed refl (ltb-true place (length keys) (sym c.in-Some-get.ensures.lookup.0)) c.in-Some-get.ensures.lookup.1 ∙ ap Some (equal listed c.args.key same))))
