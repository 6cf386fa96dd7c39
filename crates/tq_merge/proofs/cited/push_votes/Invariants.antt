use Rattle.std.proofs.Common.{◌≡◌, ◌++◌, map, take}
use Rattle.tq_merge.specs.Placing as spec
use Rattle.tq_core.specs.Founded.{cited_vote}
use Rattle.tq_merge.proofs.cited.push_votes.Given as goal

-- those so far are entered
abbrev pub invariant-loop-vote : goal.invariant-loop-vote
invariant-loop-vote l = map spec.entry_cited l.wanted.items ≡ map spec.entry_cited l.initial.wanted.items ++ map cited_vote (take l.vote-index l.votes)
