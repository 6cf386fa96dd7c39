use Rattle.std.proofs.Common.{◌∙◌, ap}
use Rattle.tq_coterie.specs.Coterie.{is_quorum}
use Rattle.tq_evidence.specs.Evidence.{granters}
use Rattle.tq_txn_states.proofs.GoodGrants.{rise_too}
use Rattle.tq_txn_states.proofs.open.is_member.Goals as goal

pub returns : goal.returns
returns c = c.is_quorum.ensures ∙ ap (is_quorum c.args.levels) (c.as_slice.ensures ∙ c.in_ok-numbers.ensures) ∙ rise_too c.args.levels (granters c.args.grants.now)
