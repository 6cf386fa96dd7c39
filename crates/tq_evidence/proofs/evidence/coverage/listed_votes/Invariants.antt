use Rattle.std.proofs.Common.{◌≡◌, ◌++◌, drop}
use Rattle.tq_evidence.proofs.evidence.coverage.listed_votes.Given as goal

abbrev pub invariant-loop-vote : goal.invariant-loop-vote
invariant-loop-vote l = l.lists.items ++ drop l.vote-index l.votes ≡ l.votes
