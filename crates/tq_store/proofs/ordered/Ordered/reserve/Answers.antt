use Rattle.std.{proofs.Common.{sym, ap, subst, ◌∙◌, zip}, specs.{List.IsDistinct, Map.keys_of}}
use Rattle.tq_store.proofs.Placed.{opened}
use Rattle.tq_store.proofs.ordered.Ordered.reserve.Goals as goal

pub returns-in_err-reserve-clause-unique : goal.returns-in_err-reserve-clause-unique
returns-in_err-reserve-clause-unique g c =
    let o = opened c.self.inside.keys c.self.inside.values c.args.self.now c.self.view_is c.self.invariant.0 in
    subst (λ es. IsDistinct g.K.PartialEq.eq (keys_of es)) (sym (ap (λ l. zip l c.self.inside.values.items) c.reserve.ensures.items ∙ o.entries))
    (subst (IsDistinct g.K.PartialEq.eq) o.keys c.self.invariant.1)

pub returns-clause-unique : goal.returns-clause-unique
returns-clause-unique g c =
    let o = opened c.self.inside.keys c.self.inside.values c.args.self.now c.self.view_is c.self.invariant.0 in
    subst (λ es. IsDistinct g.K.PartialEq.eq (keys_of es)) (sym ((λ j. zip (c.reserve.ensures.items j) (c.reserve-2.ensures.items j)) ∙ o.entries))
    (subst (IsDistinct g.K.PartialEq.eq) o.keys c.self.invariant.1)
