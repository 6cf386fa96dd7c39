-- Few digits alone are the number that they write. A content of a format: a text of more digits than it has is none,
-- and one of no more gives what its bytes are. A number with a minus sign is no number of 64 bits without a sign. A
-- number that is less than the greatest float is finite.
use Rattle.std.proofs.Common.{◌≡◌, ◌+◌, ◌-◌, ◌*◌, ◌^◌, ◌<◌, ◌≤◌, ◌∷◌, ◌++◌, ℕ, zero, suc, List, [], length, take, get_or, false, Some, refl, sym, ap, ◌∙◌, arith, append-nil, cond, Option, None, Result, Ok, Err, ◌&&◌, ℤ, Float, Bool, true, if◌then◌else◌, nat_lt, nat_le, ◌==◌, true≢false, T, length-append}
use Rattle.std.proofs.lemmas.{Bool.{lt-ltb, lt-leb, le-leb, ne_eqb, false≢true}, List.length-take-le}
use Rattle.std.proofs.lemmas.{Int.Digits.{digits_value-lt, digits_value_more}, Str.digit_value_digit}
use Rattle.std.proofs.lemmas.{Str.Parse.digit_from_value, Float.Parse.scan_numeral-text_of}
use Rattle.std.proofs.Math.Nat.{pow-le-pow_right, mul-le-mul_right, le_trans}
use Rattle.std.specs.{Char.digit_value, Option.{option_and_then, is_some}, Str.Parse.{AllDigits, digits_value}}
use Rattle.std.specs.{Prelude.{◌↔◌, IfOk, IfSome, IsSome}, Float.{binary64, float_is_finite}}
use Rattle.fast_float.specs.Text.{Parts, scan, digits_of, nearest, with_sign, tens_up, tens_down}
use Rattle.serde_json.specs.{Find.as_u64, Read.{number_of, number_from, is_integer, float_of}}
use Rattle.serde_json.specs.Data.{Num, negative, float}
use Rattle.hex.specs.{Hex.{decode_of, decode_pairs}, declared.error.FromHexError.FromHexError}
use Rattle.hex.proofs.HexLemmas.{decode_of-ok}
use Rattle.tq_json.specs.declared.format.{Format.Format, Format.TheVariants.{One, Two}}
use Rattle.tq_json.specs.Member.{most_content, content_of, content_read, short_enough, ◌>>=◌}
use lib.Ieee.{fin, inf, nan, round, units, odd, neg, le, lt, eq}
use lib.Ieee.Order.{round_mono}
use lib.Pow.{pow-add}
use Rattle.fast_float.proofs.{ExactLemmas.ten_to_pos, Patterns.neg-round, Rows.AllDigits-append}

pub one_more : (bs : List ℕ) (i : ℕ) → i < length bs → AllDigits 10 (take i bs) → digit_value (get_or bs i 0) < 10 → AllDigits 10 (take (i + 1) bs)
one_more [] i h all digit = absurd (omega (arith, h))
one_more (b ∷ bs) zero h all digit = (digit, tt)
one_more (b ∷ bs) (suc i) h all digit = let e : suc i + 1 ≡ suc (i + 1) = omega arith in rw e (all.0, one_more bs i (omega (arith, h)) all.1 digit)

-- the number with one digit more
pub next_number : (bs : List ℕ) (i n : ℕ) → i < length bs → n ≡ digits_value 10 (take i bs) → digit_value (get_or bs i 0) < 10 → n * 10 + (get_or bs i 0 - 48) ≡ digits_value 10 (take (i + 1) bs)
next_number bs i n h is digit =
    let c = get_or bs i 0 in
    let value : digit_value c + 48 ≡ c = digit_value_digit c (digit_from_value c digit) in
    omega (arith, is, value, digits_value_more 10 bs i h)

below_tens : (k : ℕ) (bs : List ℕ) → AllDigits 10 bs → length bs ≤ k → digits_value 10 bs < 10 ^ k
below_tens k bs all short =
    let tens : 10 ^ length bs ≤ 10 ^ k = pow-le-pow_right (omega arith) short in
    omega (arith, digits_value-lt 10 bs all, tens)

pub below_18 : (bs : List ℕ) (i n : ℕ) → i ≤ length bs → i ≤ 18 → AllDigits 10 (take i bs) → n ≡ digits_value 10 (take i bs) → n < 1000000000000000000
below_18 bs i n within few all is =
    let short : length (take i bs) ≤ 18 = omega (arith, length-take-le i bs within, few) in
    let below : digits_value 10 (take i bs) < 1000000000000000000 = below_tens 18 (take i bs) all short in
    omega (arith, is, below)

abbrev parts : List ℕ → Parts
parts bs = record { whole = bs; point = false; fraction = []; exponent_negative = false; exponent = []; len = length (bs ++ []) }

scanned : (bs : List ℕ) → AllDigits 10 bs → scan bs ≡ parts bs
scanned bs all =
    ap scan (sym (append-nil bs)) ∙ scan_numeral-text_of (parts bs)
    (record { whole_digits = all; fraction_digits = tt; exponent_digits = tt; no_point = λ e. refl; no_exponent = λ e. refl; len_is = refl })

pub few : (bs : List ℕ) → 0 < length bs → length bs ≤ 19 → AllDigits 10 bs → Some (digits_value 10 bs) ≡ option_and_then as_u64 (number_from false (scan bs))
few bs some short all =
    let tens : digits_value 10 bs < 10000000000000000000 = below_tens 19 bs all short in
    let below : digits_value 10 bs < 18446744073709551616 = omega (arith, tens) in
    rw (scanned bs all, append-nil bs, lt-ltb 0 (length bs) some, lt-ltb (digits_value 10 bs) (2 ^ 64) below) refl

-- ---- contents

by_decoding : (format : Format) (text : List ℕ) (r : Result (List ℕ) FromHexError) → 2 * most_content format < length text → decode_of text ≡ r → None ≡ (content_read r >>= short_enough format)
by_decoding format text (Ok bytes) long e =
    let twice : length text ≡ 2 * length bytes = (decode_of-ok text bytes e).2 in
    let over : most_content format < length bytes = omega (arith, long, twice) in
    ap (λ b. cond b (Some bytes) None) (sym (lt-leb (length bytes) (most_content format) over))
by_decoding format text (Err fault) long e = refl

pub too_long : (format : Format) (text : List ℕ) → 2 * most_content format < length text → None ≡ content_of format text
too_long format text long = by_decoding format text (decode_of text) long refl

-- the bytes that a text of no more digits spells are no more than the format has
fits : (format : Format) (text bytes : List ℕ) → length text ≤ 2 * most_content format → decode_of text ≡ Ok bytes → length bytes ≤ most_content format
fits format text bytes short e =
    let twice : length text ≡ 2 * length bytes = (decode_of-ok text bytes e).2 in
    omega (arith, short, twice)

is_content : (format : Format) (text bytes : List ℕ) → length text ≤ 2 * most_content format → decode_of text ≡ Ok bytes → Some bytes ≡ content_of format text
is_content format text bytes short e =
    let small = le-leb (length bytes) (most_content format) (fits format text bytes short e) in
    rw (e, small) refl

within : (format : Format) → most_content format ≤ 4000
within One = omega arith
within Two = omega arith

-- what is made of the bytes that such a text spells is the content that it is
pub by_new : {E : Type 0} (format : Format) (text bytes : List ℕ) (made : Result (Option (List ℕ)) E) → length text ≤ 2 * most_content format → decode_of text ≡ Ok bytes
    → IfOk made (λ content. IsSome content ↔ (length bytes ≤ 4000)) → IfOk made (λ content. IfSome content (λ content. content ≡ bytes))
    → IfOk made (λ content. content ≡ content_of format text)
by_new format text bytes (Err fault) short e exact value = tt
by_new format text bytes (Ok None) short e exact value = absurd (false≢true (exact.1 (omega (arith, within format, fits format text bytes short e))))
by_new format text bytes (Ok (Some content)) short e exact value = ap Some value ∙ is_content format text bytes short e

nothing : decode_of [] ≡ Ok []
unfolding decode_pairs
nothing = refl

-- the empty text is the empty content, in each format
pub no_digits : (format : Format) (text : List ℕ) → length text ≡ 0 → Some [] ≡ content_of format text
no_digits One [] e = ap (λ r. content_read r >>= short_enough One) (sym nothing)
no_digits Two [] e = ap (λ r. content_read r >>= short_enough Two) (sym nothing)
no_digits format (t ∷ ts) e = absurd (omega (arith, e))

-- ---- finite

none_whole : (a b : Bool) (z : ℤ) (x : Float) → None ≡ option_and_then as_u64 (if a then Some (negative z) else (if b then Some (float x) else None))
none_whole true b z x = refl
none_whole false true z x = refl
none_whole false false z x = refl

pub none-negative : (p : Parts) → None ≡ option_and_then as_u64 (number_from true p)
none-negative p = none_whole (is_integer p && nat_lt 0 (digits_of p) && nat_le (digits_of p) (2 ^ 63)) (float_is_finite (nearest binary64 true p)) (with_sign true (digits_of p)) (nearest binary64 true p)

-- ---- finite

finite-neg : (x : Float) → float_is_finite (neg x) ≡ float_is_finite x
unfolding float_is_finite neg
finite-neg nan = refl
finite-neg (inf s) = refl
finite-neg (fin s m e) = refl

-- what lies between two finite numbers is finite
between : (low x high : Float) → float_is_finite low ≡ true → float_is_finite high ≡ true → T (le low x) → T (le x high) → float_is_finite x ≡ true
unfolding float_is_finite le lt eq
between low nan high a b over under = absurd under
between low (fin s m e) high a b over under = refl
between nan (inf s) high a b over under = absurd over
between (inf t) (inf s) high a b over under = absurd (true≢false (sym a))
between (fin t n d) (inf true) high a b over under = absurd over
between (fin t n d) (inf false) nan a b over under = absurd (true≢false (sym b))
between (fin t n d) (inf false) (inf u) a b over under = absurd (true≢false (sym b))
between (fin t n d) (inf false) (fin u k l) a b over under = absurd under

least : float_is_finite (round binary64 false 0 1) ≡ true
unfolding float_is_finite round units odd
least = refl

great : float_is_finite (round binary64 false (10 ^ 308) 1) ≡ true
unfolding float_is_finite round units odd
great = refl

below-great : (num den : ℕ) → 0 < den → num ≤ 10 ^ 308 * den → float_is_finite (round binary64 false num den) ≡ true
below-great num den some small =
    between (round binary64 false 0 1) (round binary64 false num den) (round binary64 false (10 ^ 308) 1) least great
    (round_mono binary64 0 1 num den (omega arith) some (omega arith))
    (round_mono binary64 num den (10 ^ 308) 1 some (omega arith) (omega (arith, small)))

finite-signed : (is_negative : Bool) (num den : ℕ) → 0 < den → num ≤ 10 ^ 308 * den → float_is_finite (round binary64 is_negative num den) ≡ true
finite-signed false num den some small = below-great num den some small
finite-signed true num den some small =
    ap float_is_finite (sym (neg-round binary64 num den)) ∙ (finite-neg (round binary64 false num den) ∙ below-great num den some small)

pub small_finite : (is_negative : Bool) (p : Parts) → digits_of p * 10 ^ tens_up p ≤ 10 ^ 308 * 10 ^ tens_down p → true ≡ is_some (float_of is_negative p)
small_finite is_negative p small = rw (finite-signed is_negative (digits_of p * 10 ^ tens_up p) (10 ^ tens_down p) (ten_to_pos (tens_down p)) small) refl

-- so many digits, moved up and down by tens
moved : (digits count up down most : ℕ) → digits < 10 ^ count → count + up ≤ most + down → digits * 10 ^ up ≤ 10 ^ most * 10 ^ down
moved digits count up down most below places =
    let within : digits ≤ 10 ^ count = omega (arith, below) in
    le_trans (mul-le-mul_right (10 ^ up) within) (rw (← pow-add 10 count up, ← pow-add 10 most down) (pow-le-pow_right (omega arith) places))

digits-below : (p : Parts) → AllDigits 10 p.whole → AllDigits 10 p.fraction → digits_of p < 10 ^ (length p.whole + length p.fraction)
digits-below p whole fraction =
    rw (← length-append p.whole p.fraction) (digits_value-lt 10 (p.whole ++ p.fraction) (AllDigits-append p.whole p.fraction whole fraction))

-- a number with so few digits before its point, which the exponent moves down
pub few-down : (p : Parts) → AllDigits 10 p.whole → AllDigits 10 p.fraction → length p.whole ≤ 308 → p.exponent_negative ≡ true → digits_of p * 10 ^ tens_up p ≤ 10 ^ 308 * 10 ^ tens_down p
few-down p whole fraction few is_negative =
    let below = digits-below p whole fraction in
    let up : tens_up p ≡ 0 = rw is_negative refl in
    moved (digits_of p) (length p.whole + length p.fraction) (tens_up p) (tens_down p) 308 below (omega (arith, few, up))

-- or up, by so many
pub few-up : (p : Parts) (tens : ℕ) → AllDigits 10 p.whole → AllDigits 10 p.fraction → length p.whole + tens ≤ 308 → p.exponent_negative ≡ false → digits_value 10 p.exponent ≡ tens → digits_of p * 10 ^ tens_up p ≤ 10 ^ 308 * 10 ^ tens_down p
few-up p tens whole fraction few positive is =
    let below = digits-below p whole fraction in
    let up : tens_up p ≡ tens = rw positive is in
    moved (digits_of p) (length p.whole + length p.fraction) (tens_up p) (tens_down p) 308 below (omega (arith, few, up))

not-zero : (n : ℕ) → 0 < n → (n == 0) ≡ false
not-zero n some = grind (arith, some)

pub no-digits : (ds : List ℕ) → (length ds == 0) ≡ true → digits_value 10 ds ≡ 0
no-digits [] e = refl
no-digits (d ∷ ds) e = absurd (true≢false (sym e ∙ not-zero (length (d ∷ ds)) (omega arith)))

-- ---- few digits are a number

by_number : (s : List ℕ) (o : Option Num) (v : ℕ) → number_of s ≡ o → Some v ≡ option_and_then as_u64 o → (n : Num) × (number_of s ≡ Some n) × (Some v ≡ as_u64 n)
by_number s None v read e = absurd (cc)
by_number s (Some n) v read e = (n, read, e)

first_digit : (s : List ℕ) → 0 < length s → AllDigits 10 s → 48 ≤ get_or s 0 0
first_digit [] some all = absurd (omega (arith, some))
first_digit (x ∷ xs) some all = omega (arith, digit_from_value x all.0)

pub few_found : (s : List ℕ) → 0 < length s → length s ≤ 19 → AllDigits 10 s → (n : Num) × (number_of s ≡ Some n) × (Some (digits_value 10 s) ≡ as_u64 n)
unfolding number_of
few_found s some short all =
    let digit = first_digit s some all in
    let unsigned : (get_or s 0 0 == 45) ≡ false = ne_eqb (get_or s 0 0) 45 (λ z. omega arith) in
    let read : number_from false (scan s) ≡ number_of s = rw unsigned in
    by_number s (number_of s) (digits_value 10 s) refl (few s some short all ∙ ap (option_and_then as_u64) read)
