use Rattle.std.{proofs.Common.{◌≡◌, ◌-◌, ◌≤◌, take, length}, specs.Str.Parse.{AllDigits, digits_value}}
use Rattle.tq_json.proofs.number.few_digits.Given as goal

-- what was passed is digits alone, and the number that they write
abbrev pub invariant-digits : goal.invariant-digits
invariant-digits l = (l.place ≤ length l.bytes) × AllDigits 10 (take l.place l.bytes) × (l.number ≡ digits_value 10 (take l.place l.bytes))

abbrev pub decreases-digits : goal.decreases-digits
decreases-digits l = length l.bytes - l.place
