use Rattle.std.proofs.Common.{rules}
use Rattle.tq_core.proofs.service.Service.step.Goals as goal

pub returns-in-Ok-ask_desk-clause-told : goal.returns-in-Ok-ask_desk-clause-told
returns-in-Ok-ask_desk-clause-told c = search rules

pub returns-in-Err-ask_desk-clause-told : goal.returns-in-Err-ask_desk-clause-told
returns-in-Err-ask_desk-clause-told c = search rules

pub returns-in-Ok-ask_desk-clause-after : goal.returns-in-Ok-ask_desk-clause-after
returns-in-Ok-ask_desk-clause-after c = search rules
