use Rattle.std.proofs.Common.{◌∙◌, ap}
use Rattle.tq_txn_states.{specs.Voting.voting_of, proofs.CitedLaws.close_cited}
use Rattle.tq_txn_states.proofs.open.Open.close.Goals as goal

pub returns-clause-cited : goal.returns-clause-cited
returns-clause-cited c = close_cited c.args.self c.new.result (c.new.ensures ∙ ap voting_of c.into_closed.ensures)
