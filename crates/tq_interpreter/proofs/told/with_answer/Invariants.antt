use Rattle.std.proofs.Common.{◌++◌, ◌∷◌, [], Ok}
use Rattle.tq_txn.specs.declared.asker.Exchange.TheVariants as exchanges
use Rattle.tq_interpreter.proofs.told.with_answer.Given as goal

abbrev pub ghost-of : goal.ghost-of
ghost-of a = a.facts.now.before.now.items ++ exchanges.Node a.facts.now.server a.facts.now.ask.now (Ok (record { number = a.facts.now.number; reply = a.facts.now.reply.now })) ∷ []
