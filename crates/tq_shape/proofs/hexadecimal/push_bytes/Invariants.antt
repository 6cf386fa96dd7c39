use Rattle.std.proofs.Common.{◌≡◌, ◌++◌, ℕ, List, length}
use Rattle.hex.specs.Hex.{encode_lower}
use Rattle.tq_shape.proofs.hexadecimal.push_bytes.Given as goal

-- the digits of the bytes before those that are left stand behind the text
abbrev pub invariant-loop-rest : goal.invariant-loop-rest
invariant-loop-rest l = (front : List ℕ) × (front ++ l.rest ≡ l.bytes) × (l.text.items ≡ l.initial.text.items ++ encode_lower front)

abbrev pub decreases-loop-rest : goal.decreases-loop-rest
decreases-loop-rest l = length l.rest
