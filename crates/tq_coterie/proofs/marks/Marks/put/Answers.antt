use Rattle.std.proofs.Common.{arith}
use Rattle.tq_coterie.proofs.Marked.{one_more}
use Rattle.tq_coterie.proofs.marks.Marks.put.Goals as goal

pub returns : goal.returns
returns c = λ other. one_more c.args.self.now.words c.args.server other (omega arith)
