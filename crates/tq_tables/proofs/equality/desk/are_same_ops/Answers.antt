use Rattle.std.proofs.Common.{◌∙◌}
use Rattle.tq_tables.{specs.Same.same_op, proofs.Equal.{pointwise-same, op-same}}
use Rattle.tq_tables.proofs.equality.desk.are_same_ops.Goals as goal

pub returns : goal.returns
returns c = c.eq.ensures ∙ pointwise-same _ same_op op-same c.args.one.now c.args.other.now
