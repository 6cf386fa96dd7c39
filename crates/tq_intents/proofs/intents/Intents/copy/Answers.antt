use Rattle.std.proofs.Common.{rules}
use Rattle.tq_intents.proofs.intents.Intents.copy.Goals as goal

pub returns : goal.returns
returns c = search rules
