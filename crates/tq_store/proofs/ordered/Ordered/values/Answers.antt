use Rattle.std.{proofs.Common.{subst, ◌∙◌}, specs.List.IsDistinct}
use Rattle.tq_store.proofs.Placed.{opened}
use Rattle.tq_store.proofs.ordered.Ordered.values.Goals as goal

pub returns-clause-value : goal.returns-clause-value
returns-clause-value g c = let o = opened c.self.inside.keys c.self.inside.values c.args.self.now c.self.view_is c.self.invariant.0 in c.as_slice.ensures.value ∙ o.values

pub returns-clause-unique : goal.returns-clause-unique
returns-clause-unique g c = let o = opened c.self.inside.keys c.self.inside.values c.args.self.now c.self.view_is c.self.invariant.0 in subst (IsDistinct g.K.PartialEq.eq) o.keys c.self.invariant.1
