-- Which votes a verdict cites. Whether two verdicts are the same, as a test.
use Rattle.std.specs.{Prelude.{◌≡◌, ℕ, Bool, false, ◌&&◌, ◌==◌, List, true}, List.list_any, Cmp.Lexicographic.pointwise}
use Rattle.tq_asks.specs.declared.ask.{CitedVote.CitedVote, Verdict.Verdict, Verdict.TheVariants.{Abort, Commit}}

-- the votes cited have this one
abbrev pub are_citing : List CitedVote → ℕ → ℕ → Bool
are_citing votes server number = list_any (λ vote. vote.server == server && vote.number == number) votes

-- the verdict is Commit, and cites this vote
abbrev pub cites_vote : Verdict → ℕ → ℕ → Bool
cites_vote Abort server number = false
cites_vote (Commit votes) server number = are_citing votes server number

abbrev pub IsCited : Verdict → ℕ → ℕ → Type 0
IsCited verdict server number = cites_vote verdict server number ≡ true

-- ---- same

-- whether two cited votes are the same
abbrev pub same_cited : CitedVote → CitedVote → Bool
same_cited a b = a.server == b.server && a.number == b.number

-- both are aborts, or commits of the same votes in the same order
abbrev pub same_verdict : Verdict → Verdict → Bool
same_verdict Abort Abort = true
same_verdict (Commit votes) (Commit others) = pointwise same_cited votes others
same_verdict a b = false
