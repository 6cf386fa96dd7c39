-- Lexemes one at a time: what a text begins with, and what is left behind it.
-- A run of bytes that pass a test, seen 16 at a time through the mask of those that fail it. A mask that is computed lane
-- by lane is held to the test at each of the 256 bytes.
use Rattle.std.proofs.Common.{◌≡◌, ℕ, zero, suc, ◌+◌, ◌-◌, ◌<◌, ◌≤◌, Bool, true, false, cond, ◌==◌, ◌||◌, ◌&&◌, List, [], ◌∷◌, length, take, drop, get_or, length-drop, Some, None, option_and_then, ◌⊎◌, inl, inr, refl, sym, ap, ◌∙◌, subst, arith, ◌*◌, ◌%◌, ◌^◌, ltb, not, eqb, T, map, ap₂, w8, Fits, not-suc-le-zero}
use Rattle.std.proofs.lemmas.List.{drop-drop, drop_more, get_or-drop, get_or_default, length-drop, length-map}
use Rattle.std.proofs.lemmas.Bool.{false≢true, true≢false, eqb-true, or_cases, or_parts, and_parts, not-true, ne_eqb, le-leb, eq-eqb, cases_order}
use Rattle.std.proofs.lemmas.{Str.Parse.digit_from_value, List.Folds.prefix_len-append, List.Sums.prefix_len-le-length}
use Rattle.std.proofs.lemmas.Simd.{chunk-drop, length-chunk, leading_from_mask_l, trailing_mask_l, mask_l-mod}
use Rattle.std.specs.{List.{prefix_len, list_all}, Char.{is_ascii_digit, digit_value}}
use Rattle.std.specs.Str.Parse.{AllDigits, digits_value}
use Rattle.json.specs.{Token.{Token, bad}, Text.{content, plain, after_backslash, prepend}, Align.is_blank, Scan.xor}
use Rattle.json.specs.Word.{head, word, is_operator, is_space, after_minus, after_sign, after_digits, after_whole, after_fraction, after_exponent, after_number, number_before}
use Rattle.json.specs.Lex.{Lexeme, token, Class, quote, backslash, operator, space, other, class, operator_lexeme, string_token, Mode, between, in_word, in_string, lex_byte, lex}
use Rattle.json.specs.Run.{is_plain}
use Rattle.tq_json.specs.Plain.{IsAtLexeme, IsCounted, IsQuoted, IsKeyFirst}
use lib.Bits.{bit_or}
use lib.Lanes.{chunk, mask_l, zip2, top, Each1}
use lib.Count.{count_trailing_zeros}

abbrev pub first_lexeme : Class → List ℕ → Lexeme
first_lexeme quote t = token (string_token (content plain (drop 1 t)))
first_lexeme backslash t = token bad
first_lexeme operator t = operator_lexeme (head t)
first_lexeme space t = token bad
first_lexeme other t = token (word t)

first_is : (c : Class) (x : ℕ) (xs : List ℕ) (k : Mode → List Lexeme) → is_blank c ≡ false → lex_byte between c x xs k ≡ first_lexeme c (x ∷ xs) ∷ drop 1 (lex_byte between c x xs k)
first_is quote x xs k h = refl
first_is backslash x xs k h = refl
first_is operator x xs k h = refl
first_is space x xs k h = absurd (true≢false h)
first_is other x xs k h = refl

pub lex_first : (c : Class) (t : List ℕ) → class (head t) ≡ c → is_blank c ≡ false → lex between t ≡ first_lexeme c t ∷ drop 1 (lex between t)
unfolding lex
lex_first c [] e h = absurd (true≢false (ap is_blank e ∙ h))
lex_first c (x ∷ xs) e h = first_is (class x) x xs (λ n. lex n xs) (ap is_blank e ∙ h) ∙ ap (λ k. first_lexeme k (x ∷ xs) ∷ drop 1 (lex between (x ∷ xs))) e

pub lex-nil : lex between [] ≡ []
unfolding lex
lex-nil = refl

pub head-drop : (d : List ℕ) (i : ℕ) → head (drop i d) ≡ get_or d i 32
head-drop d i = get_or-drop i d 0 32 ∙ ap (λ j. get_or d j 32) (let e : i + 0 ≡ i = omega arith in e)

-- ---- spaces

no_space : (q b o s : Bool) → s ≡ false → is_blank (cond q quote (cond b backslash (cond o operator (cond s space other)))) ≡ false
no_space true b o s h = refl
no_space false true o s h = refl
no_space false false true s h = refl
no_space false false false true h = h
no_space false false false false h = refl

-- a byte above the space is none
pub solid : (x : ℕ) → 32 < x → is_blank (class x) ≡ false
solid x h =
    no_space (x == 34) (x == 92) (is_operator x) (is_space x)
    (λ i. ne_eqb x 32 (λ z. omega arith) i || ne_eqb x 9 (λ z. omega arith) i || ne_eqb x 10 (λ z. omega arith) i || ne_eqb x 13 (λ z. omega arith) i)

or_last : (P : ℕ → Type 0) (x c : ℕ) (b : Bool) → P c → (b ≡ true → P x) → (b ≡ true) ⊎ ((x == c) ≡ true) → P x
or_last P x c b p f (inl e) = f e
or_last P x c b p f (inr e) = subst P (sym (eqb-true x c e)) p

pub four : (P : ℕ → Type 0) → P 32 → P 9 → P 10 → P 13 → (x : ℕ) → is_space x ≡ true → P x
four P a b c d x h =
    or_last P x 13 _ d (λ i. or_last P x 10 _ c (λ j. or_last P x 9 _ b (λ k. subst P (sym (eqb-true x 32 k)) a) (or_cases _ _ j)) (or_cases _ _ i)) (or_cases _ _ h)

space_byte : (x : ℕ) (xs : List ℕ) → is_space x ≡ true → lex between (x ∷ xs) ≡ lex between xs
unfolding lex
space_byte x xs h = four (λ y. lex_byte between (class y) y xs (λ n. lex n xs) ≡ lex between xs) refl refl refl refl x h

pub space_over : (d : List ℕ) (i : ℕ) → i < length d → is_space (get_or d i 0) ≡ true → lex between (drop i d) ≡ lex between (drop (i + 1) d)
space_over d i h e = ap (lex between) (drop_more d i 0 h) ∙ space_byte (get_or d i 0) (drop (i + 1) d) e

pub space_ascii : (x : ℕ) → is_space x ≡ true → x < 128
space_ascii x h = four (λ y. y < 128) (omega arith) (omega arith) (omega arith) (omega arith) x h

-- ---- marks

abbrev is_operator_class : Class → Bool
is_operator_class quote = false
is_operator_class backslash = false
is_operator_class operator = true
is_operator_class space = false
is_operator_class other = false

tested : (q b o s : Bool) → is_operator_class (cond q quote (cond b backslash (cond o operator (cond s space other)))) ≡ true → o ≡ true
tested true b o s h = absurd (false≢true h)
tested false true o s h = absurd (false≢true h)
tested false false true s h = refl
tested false false false true h = h
tested false false false false h = h

pub six : (P : ℕ → Type 0) → P 123 → P 125 → P 91 → P 93 → P 58 → P 44 → (x : ℕ) → class x ≡ operator → P x
six P a b c d e f x k =
    or_last P x 44 _ f (λ h. or_last P x 58 _ e (λ i. or_last P x 93 _ d (λ j. or_last P x 91 _ c (λ l. or_last P x 125 _ b (λ m. subst P (sym (eqb-true x 123 m)) a)
    (or_cases _ _ l)) (or_cases _ _ j)) (or_cases _ _ i)) (or_cases _ _ h)) (or_cases _ _ (tested (x == 34) (x == 92) (is_operator x) (is_space x) (ap is_operator_class k)))

pub mark_over : (t : List ℕ) → class (head t) ≡ operator → lex between (drop 1 t) ≡ drop 1 (lex between t)
unfolding lex
mark_over [] e = absurd (false≢true (ap is_operator_class e))
mark_over (x ∷ xs) e = sym (ap (λ c. drop 1 (lex_byte between c x xs (λ n. lex n xs))) e)

pub mark_some : (t : List ℕ) → class (head t) ≡ operator → 0 < length t
mark_some [] e = absurd (false≢true (ap is_operator_class e))
mark_some (x ∷ xs) e = omega arith

pub mark_ascii : (t : List ℕ) → class (head t) ≡ operator → get_or t 0 0 < 128
mark_ascii [] e = omega arith
mark_ascii (x ∷ xs) e = six (λ y. y < 128) (omega arith) (omega arith) (omega arith) (omega arith) (omega arith) (omega arith) x e

-- ---- strings without an escape

pub quote_over : (t : List ℕ) → head t ≡ 34 → drop 1 (lex between t) ≡ lex in_string (drop 1 t)
unfolding lex
quote_over [] e = absurd (omega (arith, e))
quote_over (x ∷ xs) e = ap (λ y. drop 1 (lex_byte between (class y) x xs (λ n. lex n xs))) e

in_plain : (o s : Bool) (x : ℕ) (xs : List ℕ) (k : Mode → List Lexeme) → lex_byte in_string (cond o operator (cond s space other)) x xs k ≡ k in_string
in_plain true s x xs k = refl
in_plain false true x xs k = refl
in_plain false false x xs k = refl

abbrev Closes : List ℕ → ℕ → Type 0
Closes xs n = (content plain xs ≡ Some (take n xs)) × (lex in_string xs ≡ lex between (drop (n + 1) xs))

closes_byte : (p : Bool) (x n : ℕ) (xs : List ℕ) → p ≡ is_plain x → (get_or xs n 32 ≡ 34 → Closes xs n) → get_or (x ∷ xs) (cond p (1 + n) 0) 32 ≡ 34 → Closes (x ∷ xs) (cond p (1 + n) 0)
unfolding lex content
closes_byte false x n xs e ih h = (ap (λ y. content plain (y ∷ xs)) h, ap (λ y. lex_byte in_string (class y) y xs (λ m. lex m xs)) h)
closes_byte true x n xs e ih h =
    let next : 1 + n ≡ suc n = omega arith in
    let none = or_parts ((x == 34) || (x == 92)) _ (not-true _ (sym e)) in
    let tests = or_parts (x == 34) _ none.0 in
    let later = ih (ap (λ k. get_or (x ∷ xs) k 32) (sym next) ∙ h) in
    let more : suc n + 1 ≡ suc (n + 1) = omega arith in (
      (λ i. cond (tests.0 i) (Some []) (cond (tests.1 i) (content after_backslash xs) (cond (none.1 i) None (prepend (x ∷ []) (later.0 i))))) ∙ ap (λ k. Some (take k (x ∷ xs))) (sym next),
      (λ i. lex_byte in_string (cond (tests.0 i) quote (cond (tests.1 i) backslash (cond (is_operator x) operator (cond (is_space x) space other)))) x xs (λ m. lex m xs))
          ∙ in_plain (is_operator x) (is_space x) x xs (λ m. lex m xs) ∙ later.1 ∙ ap (λ k. lex between (drop k (x ∷ xs))) (sym more ∙ ap (λ k. k + 1) (sym next)),
    )

-- plain bytes up to a quote are the content of a string, which ends there
pub closes : (xs : List ℕ) → get_or xs (prefix_len is_plain xs) 32 ≡ 34 → Closes xs (prefix_len is_plain xs)
closes [] h = absurd (omega (arith, h))
closes (x ∷ xs) h = closes_byte (is_plain x) x (prefix_len is_plain xs) xs refl (closes xs) h

pub quoted : (d : List ℕ) (stop : ℕ) → head d ≡ 34 → stop ≡ 1 + prefix_len is_plain (drop 1 d) → get_or d stop 32 ≡ 34
    → (content plain (drop 1 d) ≡ Some (take (stop - 1) (drop 1 d))) × (lex between (drop (stop + 1) d) ≡ drop 1 (lex between d))
quoted d stop first is closing =
    let n = prefix_len is_plain (drop 1 d) in
    let length_is : stop - 1 ≡ n = omega (arith, is) in
    let both = closes (drop 1 d) (get_or-drop 1 d n 32 ∙ ap (λ k. get_or d k 32) (sym is) ∙ closing) in
    let past : 1 + (n + 1) ≡ stop + 1 = omega (arith, is) in
    (both.0 ∙ ap (λ k. Some (take k (drop 1 d))) (sym length_is), sym (quote_over d first ∙ both.1 ∙ ap (lex between) (drop-drop (n + 1) 1 d ∙ ap (λ k. drop k d) past)))

-- ---- digits

pub digit_range : (x : ℕ) → digit_value x < 10 → (48 ≤ x) × (x ≤ 57)
digit_range x h = let r = digit_from_value x h in (omega (arith, r), omega (arith, r))

is_digit : (x : ℕ) → digit_value x < 10 → is_ascii_digit x ≡ true
is_digit x h = let r = digit_range x h in (λ i. le-leb 48 x r.0 i && le-leb x 57 r.1 i)

digit_class : (x : ℕ) → digit_value x < 10 → class x ≡ other
digit_class x h =
    let r = digit_range x h in
    let low = r.0 in
    let high = r.1 in
    (λ i. cond (ne_eqb x 34 (λ z. omega arith) i) quote (cond (ne_eqb x 92 (λ z. omega arith) i) backslash
    (cond (ne_eqb x 123 (λ z. omega arith) i || ne_eqb x 125 (λ z. omega arith) i || ne_eqb x 91 (λ z. omega arith) i || ne_eqb x 93 (λ z. omega arith) i || ne_eqb x 58 (λ z. omega arith) i || ne_eqb x 44 (λ z. omega arith) i) operator
    (cond (ne_eqb x 32 (λ z. omega arith) i || ne_eqb x 9 (λ z. omega arith) i || ne_eqb x 10 (λ z. omega arith) i || ne_eqb x 13 (λ z. omega arith) i) space other))))

pub digits_over : (k : ℕ) (t : List ℕ) → k ≤ length t → AllDigits 10 (take k t) → lex in_word t ≡ lex in_word (drop k t)
unfolding lex
digits_over zero t h all = refl
digits_over (suc k) [] h all = absurd (omega (arith, h))
digits_over (suc k) (x ∷ xs) h all = ap (λ c. lex_byte in_word c x xs (λ n. lex n xs)) (digit_class x all.0) ∙ digits_over k xs (omega arith) all.1

digits_run : (k : ℕ) (t : List ℕ) → k ≤ length t → AllDigits 10 (take k t) → is_ascii_digit (get_or t k 32) ≡ false → prefix_len is_ascii_digit t ≡ k
digits_run zero [] h all e = refl
digits_run zero (x ∷ xs) h all e = ap (λ b. cond b (1 + prefix_len is_ascii_digit xs) 0) e
digits_run (suc k) [] h all e = absurd (omega (arith, h))
digits_run (suc k) (x ∷ xs) h all e =
    let next : 1 + k ≡ suc k = omega arith in
    ap (λ b. cond b (1 + prefix_len is_ascii_digit xs) 0) (is_digit x all.0) ∙ ap (λ n. 1 + n) (digits_run k xs (omega arith) all.1 e) ∙ next

abbrev pub ends_value : ℕ → Bool
ends_value y = (y == 44) || (y == 125) || (y == 93)

three : (P : ℕ → Type 0) → P 44 → P 125 → P 93 → (y : ℕ) → ends_value y ≡ true → P y
three P a b c y h = or_last P y 93 _ c (λ i. or_last P y 125 _ b (λ j. subst P (sym (eqb-true y 44 j)) a) (or_cases _ _ i)) (or_cases _ _ h)

record Ending (y : ℕ) : Type 0 where
  pub digit : is_ascii_digit y ≡ false
  pub point : (y == 46) ≡ false
  pub power : ((y == 101) || (y == 69)) ≡ false
  pub ends : (is_operator y || is_space y) ≡ true
  pub mark : class y ≡ operator

ending_44 : Ending 44
ending_44 = record { digit = refl; point = refl; power = refl; ends = refl; mark = refl }

ending_125 : Ending 125
ending_125 = record { digit = refl; point = refl; power = refl; ends = refl; mark = refl }

ending_93 : Ending 93
ending_93 = record { digit = refl; point = refl; power = refl; ends = refl; mark = refl }

ending : (y : ℕ) → ends_value y ≡ true → Ending y
ending y h = three Ending ending_44 ending_125 ending_93 y h

third : {A : Type 0} (a b c : Bool) (x y z w : A) → a ≡ false → b ≡ false → c ≡ false → cond a x (cond b y (cond c z w)) ≡ w
third a b c x y z w e f g = λ i. cond (e i) x (cond (f i) y (cond (g i) z w))

no_word : (t : List ℕ) → 48 ≤ head t → head t ≤ 57 → word t ≡ number_before t (after_number t)
unfolding word
no_word t low high = third (head t == 116) (head t == 102) (head t == 110) _ _ _ _ (ne_eqb (head t) 116 (λ z. omega arith)) (ne_eqb (head t) 102 (λ z. omega arith)) (ne_eqb (head t) 110 (λ z. omega arith))

whole_by : (z : Bool) (k : ℕ) (t : List ℕ) → (z ≡ true → k ≡ 1) → after_digits t ≡ Some (drop k t) → cond z (Some (drop 1 t)) (after_digits t) ≡ Some (drop k t)
whole_by true k t one e = ap (λ n. Some (drop n t)) (sym (one refl))
whole_by false k t one e = e

digits_taken : (k n : ℕ) (t : List ℕ) → 0 < k → n ≡ k → cond (n == 0) None (Some (drop n t)) ≡ Some (drop k t)
digits_taken k n t some e = ap (λ m. cond (m == 0) None (Some (drop m t))) e ∙ ap (λ b. cond b None (Some (drop k t))) (ne_eqb k 0 (λ z. omega arith))

number_is : (t : List ℕ) (k : ℕ) → 0 < k → 48 ≤ head t → prefix_len is_ascii_digit t ≡ k → (head t ≡ 48 → k ≡ 1) → Ending (head (drop k t)) → after_number t ≡ Some (drop k t)
unfolding after_number
number_is t k some low run one end =
    let minus : after_minus t ≡ t = ap (λ b. cond b (drop 1 t) t) (ne_eqb (head t) 45 (λ z. omega arith)) in
    let whole : after_whole t ≡ Some (drop k t) = whole_by (head t == 48) k t (λ e. one (eqb-true (head t) 48 e)) (digits_taken k (prefix_len is_ascii_digit t) t some run) in
    let r = drop k t in
    let fraction : after_fraction r ≡ Some r = ap (λ b. cond b (after_digits (drop 1 r)) (Some r)) end.point in
    let power : after_exponent r ≡ Some r = ap (λ b. cond b (after_digits (after_sign (drop 1 r))) (Some r)) end.power in
    ap (λ u. option_and_then after_exponent (option_and_then after_fraction (after_whole u))) minus
    ∙ ap (λ o. option_and_then after_exponent (option_and_then after_fraction o)) whole ∙ ap (option_and_then after_exponent) fraction ∙ power

counted_word : (t : List ℕ) (k : ℕ) → 0 < k → k ≤ length t → AllDigits 10 (take k t) → (48 ≤ head t) × (head t ≤ 57) → (head t ≡ 48 → k ≡ 1) → Ending (head (drop k t)) → is_ascii_digit (get_or t k 32) ≡ false → word t ≡ Token.number (take k t)
counted_word t k some within all range one end stop =
    let r = drop k t in
    let run = digits_run k t within all stop in
    let long : length t - length r ≡ k = omega (arith, length-drop k t, within) in
    no_word t range.0 range.1 ∙ ap (number_before t) (number_is t k some range.0 run one end)
    ∙ ap (λ b. cond b (Token.number (take (length t - length r) t)) bad) end.ends ∙ ap (λ n. Token.number (take n t)) long

word_to_mark : (t : List ℕ) → class (head t) ≡ operator → lex in_word t ≡ lex between t
unfolding lex
word_to_mark [] e = refl
word_to_mark (x ∷ xs) e = ap (λ c. lex_byte in_word c x xs (λ n. lex n xs)) e ∙ sym (ap (λ c. lex_byte between c x xs (λ n. lex n xs)) e)

word_first : (t : List ℕ) → class (head t) ≡ other → lex between t ≡ token (word t) ∷ lex in_word t
unfolding lex
word_first [] e = absurd (let f : is_blank space ≡ is_blank other = ap is_blank e in true≢false f)
word_first (x ∷ xs) e = ap (λ c. lex_byte between c x xs (λ n. lex n xs)) e ∙ ap (λ ls. token (word (x ∷ xs)) ∷ ls) (sym (ap (λ c. lex_byte in_word c x xs (λ n. lex n xs)) e))

head_digit : (t : List ℕ) (k : ℕ) → 0 < k → k ≤ length t → AllDigits 10 (take k t) → digit_value (head t) < 10
head_digit [] k some within all = absurd (omega (arith, some, within))
head_digit (x ∷ xs) zero some within all = absurd (omega (arith, some))
head_digit (x ∷ xs) (suc k) some within all = all.0

last_digit : (k : ℕ) (t : List ℕ) → k < length t → AllDigits 10 (take (suc k) t) → get_or t k 0 < 128
last_digit k [] h all = omega arith
last_digit zero (x ∷ xs) h all = omega (arith, (digit_range x all.0).1)
last_digit (suc k) (x ∷ xs) h all = last_digit k xs (omega (arith, h)) all.1

pub counted : (t : List ℕ) (n k : ℕ) → 0 < k → k < 19 → k ≤ length t → AllDigits 10 (take k t) → n ≡ digits_value 10 (take k t) → (head t ≡ 48 → k ≡ 1) → ends_value (get_or t k 32) ≡ true → IsCounted t n k
counted t n k some few within all value one e =
    let end = ending (get_or t k 32) e in
    let behind : Ending (head (drop k t)) = subst Ending (sym (head-drop t k)) end in
    let digit = head_digit t k some within all in
    let before : suc (k - 1) ≡ k = omega (arith, some) in
    record {
      some = some;
      few = few;
      within = within;
      digits = all;
      value = value;
      same = word_first t (digit_class (head t) digit) ∙ ap (λ w. token w ∷ lex in_word t) (counted_word t k some within all (digit_range (head t) digit) one behind end.digit)
          ∙ ap (λ ls. token (Token.number (take k t)) ∷ ls) (digits_over k t within all ∙ word_to_mark (drop k t) behind.mark);
      passed = λ blank. absurd (false≢true (ap is_blank (sym behind.mark) ∙ blank));
      last = last_digit (k - 1) t (omega (arith, some, within)) (subst (λ j. AllDigits 10 (take j t)) (sym before) all);
    }

-- ---- keys of a name

plain_run : (name xs : List ℕ) → length name ≤ length xs → take (length name) xs ≡ name → list_all is_plain name ≡ true → is_plain (get_or xs (length name) 32) ≡ false → prefix_len is_plain xs ≡ length name
plain_run [] [] within e all stop = refl
plain_run [] (x ∷ xs) within e all stop = ap (λ b. cond b (1 + prefix_len is_plain xs) 0) stop
plain_run (n ∷ ns) [] within e all stop = absurd (omega (arith, within))
plain_run (n ∷ ns) (x ∷ xs) within e all stop =
    let parts = and_parts _ _ all in
    let here : x ≡ n = ap (λ l. get_or l 0 0) e in
    let next : 1 + length ns ≡ suc (length ns) = omega arith in
    ap (λ b. cond b (1 + prefix_len is_plain xs) 0) (ap is_plain here ∙ parts.0)
    ∙ ap (λ n. 1 + n) (plain_run ns xs (omega (arith, within)) (ap (drop 1) e) parts.1 stop) ∙ next

pub key_quoted : (name t : List ℕ) → IsKeyFirst name t → list_all is_plain name ≡ true → IsQuoted t name (drop (length name + 2) t)
key_quoted name t it plain_name =
    let count = length name in
    let first : head t ≡ 34 = get_or_default t 0 32 0 (omega (arith, it.0)) ∙ it.1 in
    let closing : get_or t (count + 1) 32 ≡ 34 = get_or_default t (count + 1) 32 0 (omega (arith, it.0)) ∙ it.3 in
    let one : 1 + count ≡ count + 1 = omega arith in
    let stop : get_or (drop 1 t) count 32 ≡ 34 = get_or-drop 1 t count 32 ∙ ap (λ k. get_or t k 32) one ∙ closing in
    let run : prefix_len is_plain (drop 1 t) ≡ count = plain_run name (drop 1 t) (omega (arith, length-drop 1 t, it.0)) it.2 plain_name (ap is_plain stop) in
    let is : count + 1 ≡ 1 + prefix_len is_plain (drop 1 t) = omega (arith, run) in
    let q = quoted t (count + 1) first is closing in
    let less : count + 1 - 1 ≡ count = omega arith in
    let past : count + 1 + 1 ≡ count + 2 = omega arith in
    let colon : get_or t (count + 2) 32 ≡ 58 = get_or_default t (count + 2) 32 0 (omega (arith, it.0)) ∙ it.4 in
    let mark : head (drop (count + 2) t) ≡ 58 = head-drop t (count + 2) ∙ colon in
    record {
      begins = first;
      content = q.0 ∙ ap (λ k. Some (take k (drop 1 t))) less ∙ ap Some it.2;
      same = ap (λ k. lex between (drop k t)) (sym past) ∙ q.1;
      passed = λ blank. absurd (false≢true (sym (ap (λ x. is_blank (class x)) mark) ∙ blank));
    }

pub colon_behind : (name t : List ℕ) → IsKeyFirst name t → head (drop (length name + 2) t) ≡ 58
colon_behind name t it = head-drop t (length name + 2) ∙ get_or_default t (length name + 2) 32 0 (omega (arith, it.0)) ∙ it.4

pub behind_key : (name t : List ℕ) → IsKeyFirst name t → lex between (drop (length name + 3) t) ≡ drop 1 (lex between (drop (length name + 2) t))
behind_key name t it =
    let e : length name + 2 + 1 ≡ length name + 3 = omega arith in
    ap (lex between) (ap (λ k. drop k t) (sym e) ∙ sym (drop-drop 1 (length name + 2) t)) ∙ mark_over (drop (length name + 2) t) (ap class (colon_behind name t it))

-- ---- runs

pub run_bound : (q : ℕ → Bool) (d : List ℕ) (i : ℕ) → i ≤ length d → i + prefix_len q (drop i d) ≤ length d
run_bound q d i h = omega (arith, prefix_len-le-length q (drop i d), length-drop i d)

none_fails : (b : Bool) (n l m : ℕ) → n ≤ l → cond (not b) (1 + n) 0 ≡ 1 + l → (n ≡ l → m ≡ 0) → cond b 1 0 + 2 * m ≡ 0
none_fails true n l m le e ih = let no : ⊥ = omega arith in absurd no
none_fails false n l m le e ih = let z = ih (omega arith) in omega arith

module _ (p q : ℕ → Bool) (opposite : (x : ℕ) → q x ≡ not (p x)) where
  same_run : (xs : List ℕ) → prefix_len q xs ≡ prefix_len (λ x. not (p x)) xs
  same_run [] = refl
  same_run (x ∷ xs) = ap₂ (λ b n. cond b (1 + n) 0) (opposite x) (same_run xs)

  all_pass : (xs : List ℕ) → prefix_len (λ x. not (p x)) xs ≡ length xs → mask_l (map p xs) ≡ 0
  all_pass [] e = refl
  all_pass (x ∷ xs) e = none_fails (p x) _ (length xs) _ (prefix_len-le-length (λ y. not (p y)) xs) (omega arith) (all_pass xs)

  split : (d : List ℕ) (i n : ℕ) → prefix_len q (drop i d) ≡ cond (eqb (prefix_len q (chunk i n d)) (length (chunk i n d))) (length (chunk i n d) + prefix_len q (drop (i + n) d)) (prefix_len q (chunk i n d))
  split d i n = ap (prefix_len q) (chunk-drop i n d) ∙ prefix_len-append q (chunk i n d) (drop (i + n) d)

  pub run_through : (d : List ℕ) (i n : ℕ) → i + n ≤ length d → mask_l (map p (chunk i n d)) ≡ 0 → prefix_len q (drop i d) ≡ n + prefix_len q (drop (i + n) d)
  run_through d i n room none =
      let c = chunk i n d in
      split d i n ∙ ap (λ b. cond b (length c + prefix_len q (drop (i + n) d)) (prefix_len q c)) (eq-eqb _ _ (same_run c ∙ leading_from_mask_l p c none))
      ∙ ap (λ k. k + prefix_len q (drop (i + n) d)) (length-chunk i n d room)

  pub run_stops : (d : List ℕ) (i n : ℕ) → i + n ≤ length d → n ≤ 64 → 0 < mask_l (map p (chunk i n d)) → prefix_len q (drop i d) ≡ count_trailing_zeros 64 (mask_l (map p (chunk i n d)))
  run_stops d i n room short some =
      let c = chunk i n d in
      split d i n ∙ ap (λ b. cond b (length c + prefix_len q (drop (i + n) d)) (prefix_len q c)) (ne_eqb _ _ (λ (e : prefix_len q c ≡ length c). omega (arith, all_pass c (sym (same_run c) ∙ e))))
      ∙ same_run c ∙ sym (trailing_mask_l p 64 c (omega (arith, length-chunk i n d room)) some)

-- ---- lanes

abbrev pub upto : (ℕ → Bool) → ℕ → Bool
upto p zero = true
upto p (suc n) = p n && upto p n

both : (a b : Bool) → T (a && b) → T a × T b
both true b h = (tt, h)
both false b h = absurd h

upto_sound : (p : ℕ → Bool) (n : ℕ) → T (upto p n) → (i : ℕ) → i < n → T (p i)
upto_sound p zero h i lt = absurd (not-suc-le-zero lt)
upto_sound p (suc n) h i lt = go (upto_sound p n (both (p n) (upto p n) h).1 i) (cases_order i n)
  where
    go : (i < n → T (p i)) → (i ≡ n) ⊎ ((i < n) ⊎ (n < i)) → T (p i)
    go below (inl e) = subst (λ x. T (p x)) (sym e) (both (p n) (upto p n) h).0
    go below (inr (inl l)) = below l
    go below (inr (inr g)) = let no : ⊥ = omega arith in absurd no

abbrev pub same : Bool → Bool → Bool
same a b = not (xor a b)

same_is : (a b : Bool) → T (same a b) → a ≡ b
same_is true true h = refl
same_is false false h = refl
same_is true false h = absurd h
same_is false true h = absurd h

abbrev pub hit : ℕ → ℕ → ℕ
hit a b = cond (eqb a b) 255 0

abbrev pub below : ℕ → ℕ → ℕ
below a b = cond (ltb a b) 255 0

zip2-map : (f g : ℕ → ℕ) (xs : List ℕ) → zip2 bit_or (map f xs) (map g xs) ≡ map (λ x. bit_or (f x) (g x)) xs
zip2-map f g [] = refl
zip2-map f g (x ∷ xs) = ap (λ r. bit_or (f x) (g x) ∷ r) (zip2-map f g xs)

pub either : (f g : ℕ → ℕ) (v : List ℕ) {a b : List ℕ} → a ≡ map f v → b ≡ map g v → zip2 bit_or a b ≡ map (λ x. bit_or (f x) (g x)) v
either f g v p q = ap₂ (zip2 bit_or) p q ∙ zip2-map f g v

each_byte : (f : ℕ → ℕ) (p : ℕ → Bool) → T (upto (λ x. same (top 7 (f x)) (p x)) 256) → (v : List ℕ) → Each1 (Fits w8) v → map (top 7) (map f v) ≡ map p v
each_byte f p all [] fits = refl
each_byte f p all (x ∷ xs) fits = ap₂ (λ a b. a ∷ b) (same_is _ _ (upto_sound (λ y. same (top 7 (f y)) (p y)) 256 all x fits.0.fits)) (each_byte f p all xs fits.1)

pub masked : (f : ℕ → ℕ) (p : ℕ → Bool) (v z : List ℕ) → length v ≤ 64 → Each1 (Fits w8) v → z ≡ map f v → T (upto (λ x. same (top 7 (f x)) (p x)) 256)
    → mask_l (map (top 7) z) % 2 ^ 64 ≡ mask_l (map p v)
masked f p v z short fits e all =
    ap (λ l. mask_l l % 2 ^ 64) (ap (map (top 7)) e ∙ each_byte f p all v fits) ∙ mask_l-mod (map p v) 64 (omega (arith, length-map v p))
