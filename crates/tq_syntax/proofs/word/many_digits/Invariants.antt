use Rattle.std.proofs.Common.{◌≡◌, Some, drop}
use Rattle.tq_syntax.specs.Word.{digits_then}
use Rattle.tq_syntax.proofs.word.many_digits.Given as goal

-- the digits that are left, after the number so far, give the number
abbrev pub invariant-loop-digit : goal.invariant-loop-digit
invariant-loop-digit l = digits_then (drop l.digit-index l.word) (Some l.value) ≡ digits_then l.word (Some 0)
