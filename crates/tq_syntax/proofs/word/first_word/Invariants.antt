use Rattle.std.proofs.Common.{◌≡◌, ◌++◌, take, drop}
use Rattle.tq_syntax.specs.Word.{word_of, rest_of}
use Rattle.tq_syntax.proofs.word.first_word.Given as goal

-- the bytes so far have no space, so the word and the rest are those of all bytes
abbrev pub invariant-loop-place : goal.invariant-loop-place
invariant-loop-place l = record {
  word : take l.place l.bytes ++ word_of (drop l.place l.bytes) ≡ word_of l.bytes;
  rest : rest_of (drop l.place l.bytes) ≡ rest_of l.bytes;
}
