use Rattle.std.proofs.{Common.{◌∙◌, nat_lt, sym, rules}, lemmas.List.Sorted.IsPartitionPoint-from_clause}
use Rattle.tq_evidence.specs.declared.vote.Vote.{Vote}
use Rattle.tq_txn_states.proofs.{GoodVotes.votes_rise-map, Searched.parted}
use Rattle.tq_txn_states.proofs.votes.place_of_vote.Goals as goal

pub returns-clause-place : goal.returns-clause-place
returns-clause-place c =
    let server = λ (vote : Vote). vote.server in
    let up = sym (votes_rise-map c.args.votes.now) ∙ c.requires in
    IsPartitionPoint-from_clause (λ (vote : Vote). nat_lt vote.server c.args.server) _ _ c.partition_point.ensures.partitioned (parted server c.args.server c.args.votes.now up) (λ a r q k. search rules)
