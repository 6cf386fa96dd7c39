-- Words and numbers of a line. The decimal text of a number is read as that number.
use Rattle.std.proofs.Common.{◌≡◌, ℕ, suc, ◌-◌, ◌<◌, ◌≤◌, ◌==◌, false, List, [], ◌∷◌, Some, None, Option, length, get_or, drop, take, refl, ap, ◌∙◌, arith, drop-cons, zero, ◌+◌, ◌*◌, ◌/◌, ◌%◌, ◌^◌, Bool, true, nat_lt, nat_le, ◌++◌, cond, ◌&&◌, append_assoc, sym}
use Rattle.std.{proofs.lemmas.{Bool.{ne_eqb, eqb-false}, List.append-nil}, specs.{Option.unwrap_or, Fmt.decimal}}
use Rattle.std.proofs.lemmas.Fmt.{decimal_by_steps, decimal_digit, decimal_step, decimal_nonempty, first_decimal}
use Rattle.tq_syntax.specs.Word.{digits_then, digit_after, without_return, number_of, word_of}

digits_then-none : (digits : List ℕ) → digits_then digits None ≡ None
digits_then-none [] = refl
digits_then-none (digit ∷ digits) = refl

none_stops : (digits : List ℕ) (found : Option ℕ) → found ≡ None → digits_then digits found ≡ None
none_stops digits found none = ap (digits_then digits) none ∙ digits_then-none digits

-- where a digit is refused there is no number
pub digits_stop : (digits : List ℕ) (place value : ℕ) → place < length digits → digit_after value (get_or digits place 0) ≡ None → digits_then (drop place digits) (Some value) ≡ None
digits_stop digits place value within none =
    rw (drop-cons digits place 0) (none_stops (drop (suc place) digits) (digit_after value (get_or digits place 0)) none)

pub word_stops : (bytes : List ℕ) (place value : ℕ) → place < length bytes → (get_or bytes place 0 == 32) ≡ false → digit_after value (get_or bytes place 0) ≡ None → digits_then (word_of (drop place bytes)) (Some value) ≡ None
word_stops bytes place value within isnt none =
    rw (drop-cons bytes place 0, isnt) (none_stops (word_of (drop (suc place) bytes)) (digit_after value (get_or bytes place 0)) none)

-- the bytes without a carriage return at their end
pub return_dropped : (first : ℕ) (bytes : List ℕ) → get_or (first ∷ bytes) (length bytes) 0 ≡ 13 → take (length bytes) (first ∷ bytes) ≡ without_return (first ∷ bytes)
return_dropped first [] is = rw is refl
return_dropped first (second ∷ bytes) is = ap (λ rest. first ∷ rest) (return_dropped second bytes is)

pub no_return : (first : ℕ) (bytes : List ℕ) → (get_or (first ∷ bytes) (length bytes) 0 == 13) ≡ false → first ∷ bytes ≡ without_return (first ∷ bytes)
no_return first [] isnt = rw isnt refl
no_return first (second ∷ bytes) isnt = ap (λ rest. first ∷ rest) (no_return second bytes isnt)

-- the same of a list by its length
pub return_dropped_at : (bytes : List ℕ) → 1 ≤ length bytes → get_or bytes (length bytes - 1) 0 ≡ 13 → take (length bytes - 1) bytes ≡ without_return bytes
return_dropped_at [] some is = refl
return_dropped_at (first ∷ bytes) some is =
    let one : suc (length bytes) - 1 ≡ length bytes = omega arith in
    let last = rw one at is in
    rw one (return_dropped first bytes last)

pub no_return_at : (bytes : List ℕ) → (get_or bytes (length bytes - 1) 0 == 13) ≡ false → bytes ≡ without_return bytes
no_return_at [] isnt = refl
no_return_at (first ∷ bytes) isnt =
    let one : suc (length bytes) - 1 ≡ length bytes = omega arith in
    let last = rw one at isnt in
    no_return first bytes last

-- ---- number laws

digits_then-more : (digits : List ℕ) (digit : ℕ) (value : Option ℕ) (found : ℕ) → digits_then digits value ≡ Some found → digits_then (digits ++ digit ∷ []) value ≡ digit_after found digit
digits_then-more [] digit value found is = rw is refl
digits_then-more (first ∷ digits) digit None found is = absurd cc
digits_then-more (first ∷ digits) digit (Some value) found is = digits_then-more digits digit (digit_after value first) found is

digit_step : (found digit number : ℕ) → digit < 10 → 10 * found + digit ≡ number → number < 2 ^ 64 → digit_after found (48 + digit) ≡ Some number
digit_step found digit number few is fits =
    let low : nat_le 48 (48 + digit) ≡ true = grind arith in
    let high : nat_le (48 + digit) 57 ≡ true = grind arith in
    let same : 48 + digit - 48 ≡ digit = omega arith in
    let within : nat_lt number (2 ^ 64) ≡ true = grind arith in
    rw (low, high, same, is, within) refl

decimal_digits : (number : ℕ) → number < 2 ^ 64 → digits_then (decimal number) (Some 0) ≡ Some number
decimal_digits number fits =
    decimal_by_steps (λ n digits. n < 2 ^ 64 → digits_then digits (Some 0) ≡ Some n)
    (λ n few h. digit_step 0 n n few (omega arith) h)
    (λ n digits ten before h. digits_then-more digits (48 + n % 10) (Some 0) (n / 10) (before (omega arith)) ∙ digit_step (n / 10) (n % 10) n (omega arith) (omega arith) h)
    number fits fits

number_of-digits : (digits : List ℕ) → 0 < length digits → (get_or digits 0 0 ≡ 48 → length digits ≡ 1) → number_of digits ≡ digits_then digits (Some 0)
number_of-digits [] some zero_alone = absurd (omega (arith, some))
number_of-digits (first ∷ []) some zero_alone = refl
number_of-digits (first ∷ second ∷ digits) some zero_alone =
    rw (ne_eqb first 48 (λ is. let one = zero_alone is in omega (arith, one))) refl

zero_is_alone : (number : ℕ) → number < 2 ^ 64 → get_or (decimal number) 0 0 ≡ 48 → length (decimal number) ≡ 1
zero_is_alone zero fits is = ap length (decimal_digit 0 (omega arith))
zero_is_alone (suc number) fits is = let first = first_decimal (suc number) (omega arith) fits in absurd (omega (arith, first, is))

pub number_of-decimal : (number : ℕ) → number < 2 ^ 64 → number_of (decimal number) ≡ Some number
number_of-decimal number fits = number_of-digits (decimal number) (decimal_nonempty number fits) (zero_is_alone number fits) ∙ decimal_digits number fits

some_same : (a b : ℕ) → Some a ≡ Some b → a ≡ b
some_same a b is = ap (λ (found : Option ℕ). unwrap_or found 0) is

-- a digit goes behind the number, if the number still fits
abbrev IsDigit : ℕ → ℕ → ℕ → Type 0
IsDigit value digit after = (48 ≤ digit) × (digit ≤ 57) × (after ≡ 10 * value + (digit - 48)) × (after < 2 ^ 64)

digit_cases : (low high within : Bool) (value digit after : ℕ) → (low ≡ true → 48 ≤ digit) → (high ≡ true → digit ≤ 57) → (within ≡ true → 10 * value + (digit - 48) < 2 ^ 64) → cond (low && high) (cond within (Some (10 * value + (digit - 48))) None) None ≡ Some after → IsDigit value digit after
digit_cases false high within value digit after l h w is = absurd cc
digit_cases true false within value digit after l h w is = absurd cc
digit_cases true true false value digit after l h w is = absurd cc
digit_cases true true true value digit after l h w is =
    let same : 10 * value + (digit - 48) ≡ after = some_same (10 * value + (digit - 48)) after is in
    let fits = w refl in
    (l refl, h refl, sym same, omega (arith, same, fits))

digit_is : (value digit after : ℕ) → digit_after value digit ≡ Some after → IsDigit value digit after
digit_is value digit after is =
    digit_cases (nat_le 48 digit) (nat_le digit 57) (nat_lt (10 * value + (digit - 48)) (2 ^ 64)) value digit after
    (λ e. grind (arith, e)) (λ e. grind (arith, e)) (λ e. grind (arith, e)) is

decimal_more : (value digit after : ℕ) → 0 < value → IsDigit value digit after → decimal after ≡ decimal value ++ digit ∷ []
decimal_more value digit after some is =
    let tenth : after / 10 ≡ value = omega (arith, is.0, is.1, is.2) in
    let last : 48 + after % 10 ≡ digit = omega (arith, is.0, is.1, is.2) in
    let step = decimal_step after (omega (arith, is.2, some)) is.3 in
    step ∙ ap (λ n. decimal n ++ (48 + after % 10) ∷ []) tenth ∙ ap (λ d. decimal value ++ d ∷ []) last

digits_then-nothing : (digits : List ℕ) → digits_then digits None ≡ None
digits_then-nothing [] = refl
digits_then-nothing (digit ∷ digits) = refl

decimal_from_found : (digits : List ℕ) (value digit number : ℕ) (found : Option ℕ) → 0 < value → digit_after value digit ≡ found → digits_then digits found ≡ Some number → ((next : ℕ) → 0 < next → digits_then digits (Some next) ≡ Some number → decimal number ≡ decimal next ++ digits) → decimal number ≡ decimal value ++ digit ∷ digits
decimal_from_found digits value digit number None some found is later =
    let none : None ≡ Some number = sym (digits_then-nothing digits) ∙ is in absurd cc
decimal_from_found digits value digit number (Some after) some found is later =
    let one = digit_is value digit after found in
    later after (omega (arith, some, one.2)) is ∙ ap (λ text. text ++ digits) (decimal_more value digit after some one) ∙ append_assoc (decimal value) (digit ∷ []) digits

decimal_from : (digits : List ℕ) (value number : ℕ) → 0 < value → digits_then digits (Some value) ≡ Some number → decimal number ≡ decimal value ++ digits
decimal_from [] value number some is = ap decimal (sym (some_same value number is)) ∙ sym (append-nil (decimal value))
decimal_from (digit ∷ digits) value number some is =
    decimal_from_found digits value digit number (digit_after value digit) some refl is (λ next more h. decimal_from digits next number more h)

decimal_of_digit : (digit number : ℕ) → IsDigit 0 digit number → decimal number ≡ digit ∷ []
decimal_of_digit digit number is =
    let same : 48 + number ≡ digit = omega (arith, is.0, is.2) in
    decimal_digit number (omega (arith, is.0, is.1, is.2)) ∙ ap (λ d. d ∷ []) same

decimal_of_first : (digits : List ℕ) (first number : ℕ) (found : Option ℕ) → (first ≡ 48 → ⊥) → digit_after 0 first ≡ found → digits_then digits found ≡ Some number → decimal number ≡ first ∷ digits
decimal_of_first digits first number None some found is =
    let none : None ≡ Some number = sym (digits_then-nothing digits) ∙ is in absurd cc
decimal_of_first digits first number (Some value) some found is =
    let one = digit_is 0 first value found in
    decimal_from digits value number (omega (arith, some, one.0, one.2)) is ∙ ap (λ text. text ++ digits) (decimal_of_digit first value one)

decimal_of_zero : (digits : List ℕ) (first number : ℕ) (zero_first : Bool) → (first == 48) ≡ zero_first → cond zero_first None (digits_then digits (digit_after 0 first)) ≡ Some number → decimal number ≡ first ∷ digits
decimal_of_zero digits first number true which is = absurd cc
decimal_of_zero digits first number false which is = decimal_of_first digits first number (digit_after 0 first) (eqb-false first 48 which) refl is

pub decimal-number_of : (word : List ℕ) (number : ℕ) → number_of word ≡ Some number → word ≡ decimal number
decimal-number_of [] number is = absurd cc
decimal-number_of (first ∷ []) number is = sym (decimal_of_digit first number (digit_is 0 first number is))
decimal-number_of (first ∷ second ∷ digits) number is = sym (decimal_of_zero (second ∷ digits) first number (first == 48) refl is)
