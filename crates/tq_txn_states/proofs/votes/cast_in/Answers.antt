use Rattle.std.proofs.Common.{◌∙◌, sym, ap}
use Rattle.tq_txn_states.{specs.Voting.voted_by, proofs.GoodVotes.{cast_none, cast_some}}
use Rattle.tq_txn_states.proofs.votes.cast_in.Goals as goal

pub returns-then-not-is_prepare_of-clause-value : goal.returns-then-not-is_prepare_of-clause-value
returns-then-not-is_prepare_of-clause-value c =
    let told = c.args.told in
    sym (cast_none c.args.txn told.server told.number told.ask told.reply (sym c.is_prepare_of.ensures ∙ c.if-not-is_prepare_of.true))

pub returns-in-Yes-clause-value : goal.returns-in-Yes-clause-value
returns-in-Yes-clause-value c =
    let told = c.args.told in
    let some = cast_some c.args.txn told.server told.number told.ask c.in-Yes.held c.in-Yes.writes (sym c.is_prepare_of.ensures ∙ c.if-not-is_prepare_of.false) in
    sym (ap (voted_by c.args.txn told.server told.number told.ask) c.in-Yes.is ∙ some)
