use Rattle.tq_syntax.proofs.WordLaws.{number_of-decimal, decimal-number_of}
use Rattle.tq_syntax.proofs.word.numbers_are_read_again.Goals as goal

pub returns : goal.returns
returns c = record { read = number_of-decimal; only = decimal-number_of }
