use Rattle.std.proofs.Common.{◌≡◌, ◌<◌, ℕ, true, List, [], ◌∷◌, length, refl, arith}
use Rattle.tq_evidence.specs.Evidence.{rises}
use Rattle.tq_evidence.proofs.grants.+rises.Goals as goal

one : (numbers : List ℕ) → length numbers < 2 → true ≡ rises numbers
one [] h = refl
one (x ∷ []) h = refl
one (x ∷ y ∷ rest) h = absurd (omega arith)

pub returns-in-len1 : goal.returns-in-len1
returns-in-len1 t c = one c.args.numbers.now c.in-len1.len_below
