use Rattle.std.proofs.Common.{rules}
use Rattle.tq_cluster.proofs.asking.AskingAsker.view.Goals as goal

pub returns-clause-exchanges : goal.returns-clause-exchanges
returns-clause-exchanges g c = search rules
