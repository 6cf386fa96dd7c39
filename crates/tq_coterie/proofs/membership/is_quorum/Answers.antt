use Rattle.tq_coterie.proofs.Marked.{tested}
use Rattle.tq_coterie.proofs.membership.is_quorum.Goals as goal

pub returns : goal.returns
returns c = tested c.args.levels c.args.numbers.now c.is_member.result c.is_member.ensures.member
