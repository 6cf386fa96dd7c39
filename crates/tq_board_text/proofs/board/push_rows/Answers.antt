use Rattle.std.proofs.{lemmas.Grind.common_steps, Common.arith}
use Rattle.tq_board_text.proofs.board.push_rows.Goals as goal

pub loop-row-preserved : goal.loop-row-preserved
loop-row-preserved c = grind (arith, common_steps)
