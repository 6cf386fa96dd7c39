use Rattle.std.proofs.{lemmas.Grind.common_steps, Common.{rules, arith}}
use Rattle.tq_text.proofs.refusals.say_fault.Goals as goal

pub returns-clause-memory : goal.returns-clause-memory
returns-clause-memory c = search rules

pub returns-clause-text : goal.returns-clause-text
returns-clause-text c = grind (arith, common_steps)
