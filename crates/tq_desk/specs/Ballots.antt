-- The votes of a commit, as its record cites them.
use Rattle.std.specs.Prelude.{List, map}
use Rattle.tq_asks.specs.declared.ask.CitedVote.{CitedVote}
use Rattle.tq_evidence.specs.declared.vote.Vote.{Vote}

-- a vote by its server and number
abbrev pub citation : Vote → CitedVote
citation vote = record { server = vote.server; number = vote.number }

abbrev pub cited_votes : List Vote → List CitedVote
cited_votes votes = map citation votes
