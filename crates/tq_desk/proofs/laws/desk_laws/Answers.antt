use Rattle.tq_desk.proofs.DeskFinal as final
use Rattle.tq_desk.proofs.laws.desk_laws.Goals as goal

pub returns : goal.returns
returns c = final.desk_laws
