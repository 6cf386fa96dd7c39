use Rattle.std.proofs.Common.{sym, subst, ◌∙◌}
use Rattle.tq_tables.specs.{Reserved.{IsReserve, with_ready}, Tables.TablesView}
use Rattle.tq_tables.proofs.tables.Tables.copy.Goals as goal

pub invariant_of-result : goal.invariant_of-result
invariant_of-result c = (
  c.in_ok-followed.ensures.1 c.self.invariant.0,
  c.in_ok-ready.ensures.after _ (subst (λ (t : TablesView). IsReserve t c.self.inside.ready) (sym c.in_ok-followed.ensures.0) c.self.invariant.1),
)

pub returns : goal.returns
returns c = (λ i. with_ready (c.in_ok-followed.ensures.0 i) (c.in_ok-ready.ensures.entry i)) ∙ c.self.view_is
