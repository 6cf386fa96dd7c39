use Rattle.std.proofs.{lemmas.Grind.common_steps, Common.arith}
use Rattle.tq_text.proofs.print.say_writing.Goals as goal

pub returns-clause-text : goal.returns-clause-text
returns-clause-text c = grind (arith, common_steps)
