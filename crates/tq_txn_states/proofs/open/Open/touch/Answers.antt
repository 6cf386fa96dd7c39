use Rattle.std.proofs.Common.{sym, subst}
use Rattle.tq_txn_states.specs.Voting.{KeepsOnly}
use Rattle.tq_txn_states.proofs.open.Open.touch.Goals as goal

pub returns-clause-cited : goal.returns-clause-cited
returns-clause-cited c = λ told is. subst (KeepsOnly told) (sym c.in_ok-touch_near.ensures.ok) is

pub returns-in_err-touch_near-clause-cited : goal.returns-in_err-touch_near-clause-cited
returns-in_err-touch_near-clause-cited c = λ told is. subst (KeepsOnly told) (sym c.in_err-touch_near.ensures.err) is
