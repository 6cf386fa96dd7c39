use Rattle.std.proofs.Common.{ap}
use Rattle.tq_live.specs.Live.{Live}
use Rattle.tq_tables.proofs.RowLaws.{of_tree-at}
use Rattle.tq_tables.proofs.parts.Parts.new.Goals as goal

pub invariant_of-result : goal.invariant_of-result
invariant_of-result c =
    of_tree-at c.args.levels _ c.in_ok-nodes.nodes.items c.in_ok-view.view.levels c.in_ok-nodes.ensures (ap (λ (l : Live). l.levels) c.in_ok-view.ensures.new)
