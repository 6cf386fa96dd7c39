use Rattle.tq_board.proofs.Gathered.{written-out}
use Rattle.tq_shell.proofs.line.write_line.Goals as goal

pub returns : goal.returns
returns g c = written-out _ _ _ _ _ _ c.write_out.ensures
