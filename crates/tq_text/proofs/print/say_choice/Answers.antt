use Rattle.std.proofs.{lemmas.Grind.common_steps, Common.arith}
use Rattle.tq_text.proofs.print.say_choice.Goals as goal

pub returns-in_ok-push_servers-in-Chosen-clause-text : goal.returns-in_ok-push_servers-in-Chosen-clause-text
returns-in_ok-push_servers-in-Chosen-clause-text c = grind (arith, common_steps)
