use Rattle.std.proofs.Common.{[], subst}
use Rattle.tq_shape.specs.declared.part.Part.TheVariants as parts
use Rattle.tq_merge.{specs.{Order.{IsNext, ArePlaced}, Placing.PlacingView}, proofs.Placed.view_last}
use Rattle.tq_merge.proofs.placing.Placing.show_view_placed.Goals as goal

pub returns-clause-view : goal.returns-clause-view
returns-clause-view c = subst (λ (v : PlacingView). IsNext v.journals v.order parts.View → ⊥) c.self.view_is (view_last _ _ _ _ _ _ _ c.self.invariant)

pub returns-clause-founded : goal.returns-clause-founded
returns-clause-founded c = subst (λ (v : PlacingView). ArePlaced v.journals [] v.order) c.self.view_is c.self.invariant.founded
