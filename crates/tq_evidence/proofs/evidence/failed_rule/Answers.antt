use Rattle.std.proofs.Common.{sym, ◌∙◌}
use Rattle.tq_evidence.proofs.Merging.{quorums-in_order}
use Rattle.tq_evidence.proofs.evidence.failed_rule.Goals as goal

pub are_covered-requires : goal.are_covered-requires
are_covered-requires c = quorums-in_order c.args.levels c.args.ops.now (sym c.in_ok-are_quorums.ensures ∙ c.if-not-branch.false)

pub have_writes-requires : goal.have_writes-requires
have_writes-requires c = quorums-in_order c.args.levels c.args.ops.now (sym c.in_ok-are_quorums.ensures ∙ c.if-not-branch.false)
