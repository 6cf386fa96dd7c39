use Rattle.std.proofs.Common.{rules}
use Rattle.tq_cluster.proofs.asking.Asking.new.Goals as goal

pub returns : goal.returns
returns g c = search rules
