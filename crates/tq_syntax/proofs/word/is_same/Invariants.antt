use Rattle.std.{proofs.Common.{◌≡◌, drop, nat_eq, length}, specs.{Cmp.Lexicographic.pointwise, Str.bytes_eq}}
use Rattle.tq_syntax.proofs.word.is_same.Given as goal

-- what is left of the two is the same where they are
abbrev pub invariant-loop-place : goal.invariant-loop-place
invariant-loop-place l = (length l.word ≡ length l.text) × (pointwise nat_eq (drop l.place l.word) (drop l.place l.text) ≡ bytes_eq l.word l.text)
