use Rattle.std.proofs.Common.{◌∙◌, refl, sym, ap}
use Rattle.tq_txn.specs.Told.{answers_in}
use Rattle.tq_txn_states.specs.Voting.{VotingView}
use Rattle.tq_interpreter.specs.TxnAsked.{closing}
use Rattle.tq_interpreter.proofs.states.close.Goals as goal

pub returns-in-Ok-clause-closed : goal.returns-in-Ok-clause-closed
returns-in-Ok-clause-closed c =
    let is = c.in-Ok.ensures.succeeds in (
      refl,
      λ now kept. record { levels = ap (λ (v : VotingView). v.txn.levels) is.1 ∙ kept.levels; knows = c.in-Ok.ensures.cited (answers_in now.told) kept.knows },
      λ kept next. ap (λ fault. closing kept c.args.still_open fault next) is.0 ∙ ap next (sym is.1),
    )
