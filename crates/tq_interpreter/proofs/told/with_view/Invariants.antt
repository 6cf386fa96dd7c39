use Rattle.std.proofs.Common.{◌++◌}
use Rattle.tq_txn.specs.declared.asker.Exchange.TheVariants as exchanges
use Rattle.tq_interpreter.specs.Recorded.{told_exchanges}
use Rattle.tq_interpreter.proofs.told.with_view.Given as goal

abbrev pub ghost-of : goal.ghost-of
ghost-of a = a.facts.now.before.now.items ++ told_exchanges a.facts.now.answer.now (exchanges.View a.facts.now.ask.now a.facts.now.answer.now)
