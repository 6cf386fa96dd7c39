use Rattle.std.proofs.Common.{◌≡◌, ◌+◌, Some, drop, length}
use Rattle.tq_syntax.specs.Word.{digits_then, rest_of, word_of}
use Rattle.tq_syntax.proofs.word.digits_to_space.Given as goal

-- the digits that are left before the space, after the number so far, give the number, and so many were read
abbrev pub invariant-loop-place : goal.invariant-loop-place
invariant-loop-place l = record {
  value : digits_then (word_of (drop l.place l.bytes)) (Some l.value) ≡ digits_then (word_of l.bytes) (Some 0);
  count : l.place + length (word_of (drop l.place l.bytes)) ≡ length (word_of l.bytes);
  rest : rest_of (drop l.place l.bytes) ≡ rest_of l.bytes;
}
