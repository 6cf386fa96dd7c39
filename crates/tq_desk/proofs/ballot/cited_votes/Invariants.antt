use Rattle.std.proofs.Common.{◌≡◌, ◌≤◌, ◌++◌, drop, length, vec_capacity, vec_len}
use Rattle.tq_desk.specs.Ballots.{cited_votes}
use Rattle.tq_desk.proofs.ballot.cited_votes.Given as goal

abbrev pub invariant-loop-vote : goal.invariant-loop-vote
invariant-loop-vote l = record {
  so_far : l.cited.items ++ cited_votes (drop l.vote-index l.votes) ≡ cited_votes l.votes;
  len : vec_len l.cited ≡ l.vote-index;
  room : length l.votes ≤ vec_capacity l.cited;
}
