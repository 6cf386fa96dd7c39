use Rattle.std.proofs.{Common.{Option, None, Some}, lemmas.Result.err_from_is_err_and}
use Rattle.tq_txn_states.specs.Open.{OpenView}
use Rattle.tq_txn.specs.{Dialogue.Ends, Commits.abort_line}
use Rattle.tq_txn.proofs.{LineLaws.follows_end, Following.{follows_went, follows_went_out}}
use Rattle.tq_txn.proofs.transacting.give_up.Goals as goal

pub returns-in_err-_done-clause-asks : goal.returns-in_err-_done-clause-asks
returns-in_err-_done-clause-asks g c =
    let p = err_from_is_err_and c.from_residual.result c.from_residual.ensures.1 in
    rw p.1 (follows_went_out {B = Option OpenView} (abort_line c.args.txn) (λ answered left. Ends None) c.abort-answer.result.answer c.abort-answer.result.txn (g.A.Asker.told c.args.asker.now) (g.A.Asker.told c.abort-answer.new.asker) c.in_err-_done.ensures c.abort-answer.ensures.asks)

pub returns-clause-asks : goal.returns-clause-asks
returns-clause-asks g c =
    let new = g.A.Asker.told c.abort-answer.new.asker in
    follows_went {B = Option OpenView} (abort_line c.args.txn) (λ answered left. Ends None) c.abort-answer.result.answer c.abort-answer.result.txn c.in_ok-_done._done (g.A.Asker.told c.args.asker.now) new new (Some None) c.in_ok-_done.ensures c.abort-answer.ensures.asks (follows_end None new)
