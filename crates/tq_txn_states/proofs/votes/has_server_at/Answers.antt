use Rattle.std.{proofs.Common.{◌==◌, ◌∙◌, ap}, specs.List.list_any}
use Rattle.tq_evidence.specs.declared.grant.Grant.{Grant}
use Rattle.tq_txn_states.proofs.votes.has_server_at.Goals as goal

pub returns : goal.returns
returns c = c.is_granter_at.ensures.value ∙ c.place_of_grant-place.ensures ∙ ap (list_any (λ (grant : Grant). grant.server == c.args.server)) c.as_slice-grants.ensures
