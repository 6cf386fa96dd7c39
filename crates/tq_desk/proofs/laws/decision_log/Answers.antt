use Rattle.tq_desk.proofs.DeskFinal as final
use Rattle.tq_desk.proofs.DecisionLog as log
use Rattle.tq_desk.proofs.NewFiles as names
use Rattle.tq_desk.proofs.laws.decision_log.Goals as goal

pub returns : goal.returns
returns c = record { log = log.legal-log; legal = log.log-legal; keeps = log.desk_keeps; files = names.written-is; ends_stay = log.ends_stay; ends_are_told = final.ends_told }
