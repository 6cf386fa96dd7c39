use Rattle.std.proofs.Common.{◌≡◌, ◌++◌, drop}
use Rattle.tq_text.specs.Print.{Extends, numbers_text}
use Rattle.tq_text.proofs.print.push_numbers.Given as goal

-- the text so far and the numbers that are left are the whole text
abbrev pub invariant-loop-number : goal.invariant-loop-number
invariant-loop-number l = (l.text.items ++ numbers_text (drop l.number-index l.numbers) ≡ l.initial.text.items ++ numbers_text l.numbers) × Extends l.initial.text.items l.text.items
