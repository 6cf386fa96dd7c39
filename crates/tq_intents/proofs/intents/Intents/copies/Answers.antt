use Rattle.tq_intents.proofs.CopiesPush.{KeepsNewest-all}
use Rattle.tq_intents.proofs.intents.Intents.copies.Goals as goal

pub returns-clause-newest : goal.returns-clause-newest
returns-clause-newest c = KeepsNewest-all c.args.self.now.records
