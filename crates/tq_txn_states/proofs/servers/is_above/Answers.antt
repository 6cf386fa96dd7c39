use Rattle.std.{proofs.Common.{◌∙◌, sym, ap}, specs.Option.option_copied}
use Rattle.tq_shape.specs.Tree.{Server}
use Rattle.tq_txn_states.proofs.Searched.{below_last}
use Rattle.tq_txn_states.proofs.servers.is_above.Goals as goal

pub returns-in-Some : goal.returns-in-Some
returns-in-Some c = λ less.
    below_last (λ (id : Server). id.number) c.args.ids.now c.in-Some.last.now c.args.number c.requires (sym c.last.ensures.value ∙ ap option_copied c.in-Some.is) (rw (← c.number.ensures.value) less)
