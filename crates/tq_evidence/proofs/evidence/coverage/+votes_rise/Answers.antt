use Rattle.std.proofs.Common.{◌≡◌, ◌<◌, true, List, [], ◌∷◌, length, refl, arith}
use Rattle.tq_evidence.specs.{declared.vote.Vote.Vote, Evidence.votes_rise}
use Rattle.tq_evidence.proofs.evidence.coverage.+votes_rise.Goals as goal

one : (votes : List Vote) → length votes < 2 → true ≡ votes_rise votes
one [] h = refl
one (x ∷ []) h = refl
one (x ∷ y ∷ rest) h = absurd (omega arith)

pub returns-in-len1 : goal.returns-in-len1
returns-in-len1 t c = one c.args.votes.now c.in-len1.len_below
