use Rattle.std.proofs.{lemmas.Grind.common_steps, Common.arith}
use Rattle.tq_board_text.proofs.line.push_file.Goals as goal

pub returns : goal.returns
returns c = grind (arith, common_steps)
