use Rattle.std.{proofs.Common.{sym, subst, ◌∙◌}, specs.List.IsDistinct}
use Rattle.tq_store.proofs.Placed.{opened}
use Rattle.indexmap.specs.IndexMap.{IsUnique}
use Rattle.tq_store.proofs.ordered.Ordered.place_rest.Goals as goal

pub returns-in_err-place_next-clause-unique : goal.returns-in_err-place_next-clause-unique
returns-in_err-place_next-clause-unique g c =
    let o = opened c.self.inside.keys c.self.inside.values c.args.self.now c.self.view_is c.self.invariant.0 in
    subst (IsUnique g.K.PartialEq.eq) (sym (c.place_next.ensures ∙ c.loop.invariant)) (subst (IsDistinct g.K.PartialEq.eq) o.keys c.self.invariant.1)

pub returns-clause-unique : goal.returns-clause-unique
returns-clause-unique g c =
    let o = opened c.self.inside.keys c.self.inside.values c.args.self.now c.self.view_is c.self.invariant.0 in
    subst (IsUnique g.K.PartialEq.eq) (sym c.loop.invariant) (subst (IsDistinct g.K.PartialEq.eq) o.keys c.self.invariant.1)
