use Rattle.std.{proofs.Common.◌++◌, specs.List.flat_map}
use Rattle.tq_txn.specs.declared.asker.Exchange.TheVariants as exchanges
use Rattle.tq_interpreter.specs.Recorded.{told_exchanges}
use Rattle.tq_interpreter.proofs.told.with_handed.Given as goal

abbrev pub ghost-of : goal.ghost-of
ghost-of a =
    a.facts.now.before.now.items
    ++ flat_map (λ ask. told_exchanges a.facts.now.answer.now (exchanges.Node a.facts.now.server ask a.facts.now.answer.now)) a.facts.now.ask.now.items
