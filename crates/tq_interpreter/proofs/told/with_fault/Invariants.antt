use Rattle.std.proofs.Common.{◌++◌, Err}
use Rattle.tq_txn.specs.declared.asker.Exchange.TheVariants as exchanges
use Rattle.tq_txn.specs.Dialogue.{unless_memory}
use Rattle.tq_interpreter.proofs.told.with_fault.Given as goal

abbrev pub ghost-of : goal.ghost-of
ghost-of a = a.facts.now.before.now.items ++ unless_memory a.facts.now.fault.now (exchanges.Node a.facts.now.server a.facts.now.ask.now (Err a.facts.now.fault.now))
