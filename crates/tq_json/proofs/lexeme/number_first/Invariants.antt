use Rattle.std.{proofs.Common.{◌≡◌, ◌-◌, ◌≤◌, take, length}, specs.Str.Parse.{AllDigits, digits_value}}
use Rattle.tq_json.proofs.lexeme.number_first.Given as goal

-- what was passed is digits alone, and the number that they write
abbrev pub invariant-digits : goal.invariant-digits
invariant-digits l =
    (l.count ≤ length l.text) × (l.count ≤ 19) × AllDigits 10 (take l.count l.text) × (l.number ≡ digits_value 10 (take l.count l.text))

abbrev pub decreases-digits : goal.decreases-digits
decreases-digits l = 19 - l.count
