use Rattle.std.proofs.{lemmas.Grind.common_steps, Common.arith}
use Rattle.tq_text.proofs.print.say_verdict.Goals as goal

pub returns-in-Commit-clause-text : goal.returns-in-Commit-clause-text
returns-in-Commit-clause-text c = grind (arith, common_steps)
