-- Texts that go on from one another.
use Rattle.std.proofs.Common.{◌∙◌, ◌++◌, ℕ, List, ap, append_assoc}
use Rattle.tq_text.specs.Print.{Extends}

-- a text that goes on from another goes on from what that goes on from
pub extends_more : (old before new : List ℕ) → Extends old before → Extends before new → Extends old new
extends_more old before new begun more =
    (begun.0 ++ more.0, more.1 ∙ ap (λ text. text ++ more.0) begun.1 ∙ append_assoc old begun.0 more.0)
