use Rattle.tq_evidence.specs.Evidence.{granters}
use Rattle.tq_txn_states.proofs.Searched.{all_after}
use Rattle.tq_txn_states.proofs.servers.+has_all.Goals as goal

pub returns-else-number-grant : goal.returns-else-number-grant
returns-else-number-grant t c = λ is. all_after c.args.ids.now (granters c.args.grants.now) (c.has_all-in-len1-up-ids.ensures is)
