use Rattle.std.proofs.{Common.{◌∙◌, nat_lt, sym, rules}, lemmas.List.Sorted.IsPartitionPoint-from_clause}
use Rattle.tq_evidence.specs.declared.grant.Grant.{Grant}
use Rattle.tq_txn_states.proofs.Searched.{granter_at, parted, stands_there}
use Rattle.tq_txn_states.proofs.votes.place_of_grant.Goals as goal

pub returns-then-is_granter_at : goal.returns-then-is_granter_at
returns-then-is_granter_at c =
    let is = sym c.is_granter_at.ensures.value ∙ c.if-is_granter_at.true in
    is ∙ sym (stands_there (λ (grant : Grant). grant.server) c.args.server c.args.grants.now c.args.likely is)

pub returns : goal.returns
returns c =
    let server = λ (grant : Grant). grant.server in
    let point = IsPartitionPoint-from_clause (λ (grant : Grant). nat_lt grant.server c.args.server) _ _ c.partition_point.ensures.partitioned (parted server c.args.server c.args.grants.now c.requires) (λ a r q k. search rules) in
    granter_at c.args.server c.args.grants.now _ c.requires point
