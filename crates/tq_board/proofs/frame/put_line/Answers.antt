use Rattle.tq_board.proofs.Gathered.{added}
use Rattle.tq_board.proofs.frame.put_line.Goals as goal

pub returns-clause-adds : goal.returns-clause-adds
returns-clause-adds g c = added c.in_ok-put_journals.ensures.adds c.in_ok-push.ensures
