use Rattle.tq_json_read.proofs.Planned.{planned-are-journals}
use Rattle.tq_json_read.proofs.file.journals_from.Goals as goal

pub new-requires : goal.new-requires
new-requires c = rw (c.in_ok-servers.ensures, c.into_vec-desk.ensures, c.into_vec-view.ensures) (planned-are-journals c.args.levels c.args.fields _ _ _ _ c.requires c.in-Some.is c.in-Some-servers.is c.in-Some-desk.is c.in-Some-view.is)
