-- The numbers that are marked, as one mark changes. The marks of a word: its bits.
use Rattle.std.proofs.Common.{◌≡◌, ℕ, ◌+◌, ◌<◌, zero, suc, Bool, true, false, List, [], ◌∷◌, ◌++◌, length, refl, sym, ap, ◌∙◌, arith, ◌≢◌, ◌-◌, ◌*◌, ◌/◌, ◌%◌, ◌^◌, min, inl, inr}
use Rattle.std.proofs.lemmas.{Bool.{lt-ltb, le-ltb, eq-eqb, ne_eqb, cases_lt}, Nat.pow_below}
use Rattle.std.proofs.lemmas.List.Elements.{All-cons, All-head, All-tail}
use Rattle.std.proofs.lemmas.Nat.Bits.{bit_at_lowest, bit_at-suc, bit_at-lt, bit_at_or, bit_at_and, bit_at_not, bit_at-pow_same, bit_at-pow_other, bit_at-trailing_zeros, and_pow}
use Rattle.std.specs.{Prelude.{slice_set, slice_index_or, cond, nat_lt, ◌==◌, not, bit_and, bit_or}, List.All}
use Rattle.std.specs.{Int.{bit_at, bit_not, w64}, Int.Count.count_trailing_zeros}
use Rattle.tq_shape.specs.ServerSet.{Ascends, has_number, with_number, without_number, marked_numbers, marks_of, marks_of_word}

-- none is marked twice
not-marked : (low first : ℕ) (marks : List Bool) → low < first → has_number (marked_numbers first marks) low ≡ false
not-marked low first [] less = refl
not-marked low first (true ∷ marks) less =
    rw (ne_eqb first low (λ same. absurd (omega (arith, less, same)))) (not-marked low (first + 1) marks (omega (arith, less)))
not-marked low first (false ∷ marks) less = not-marked low (first + 1) marks (omega (arith, less))

-- a mark says whether its number is there
pub has_number-marked : (first : ℕ) (marks : List Bool) (place : ℕ) → has_number (marked_numbers first marks) (first + place) ≡ slice_index_or marks place false
has_number-marked first [] place = refl
has_number-marked first (true ∷ marks) zero = rw (eq-eqb first (first + zero) (omega arith)) refl
has_number-marked first (false ∷ marks) zero = not-marked (first + zero) (first + 1) marks (omega arith)
has_number-marked first (true ∷ marks) (suc place) =
    rw (ne_eqb first (first + suc place) (λ same. absurd (omega (arith, same))))
    (ap (has_number (marked_numbers (first + 1) marks)) (omega arith) ∙ has_number-marked (first + 1) marks place)
has_number-marked first (false ∷ marks) (suc place) =
    ap (has_number (marked_numbers (first + 1) marks)) (omega arith) ∙ has_number-marked (first + 1) marks place

with_number-first : (number first : ℕ) (marks : List Bool) → number < first → with_number number (marked_numbers first marks) ≡ number ∷ marked_numbers first marks
with_number-first number first [] less = refl
with_number-first number first (true ∷ marks) less = rw (lt-ltb number first less) refl
with_number-first number first (false ∷ marks) less = with_number-first number (first + 1) marks (omega (arith, less))

with_number-later : (number first : ℕ) (rest : List ℕ) → first < number → with_number number (first ∷ rest) ≡ first ∷ with_number number rest
with_number-later number first rest less = rw (le-ltb number first (omega (arith, less)), ne_eqb number first (λ same. absurd (omega (arith, less, same)))) refl

with_number-there : (number first : ℕ) (rest : List ℕ) → number ≡ first → with_number number (first ∷ rest) ≡ first ∷ rest
with_number-there number first rest same = rw (le-ltb number first (omega (arith, same)), eq-eqb number first same) refl

-- one more mark is one more number
pub marked-with : (first : ℕ) (marks : List Bool) (place : ℕ) → place < length marks → marked_numbers first (slice_set marks place true) ≡ with_number (first + place) (marked_numbers first marks)
marked-with first [] place less = absurd (omega (arith, less))
marked-with first (true ∷ marks) zero less = sym (with_number-there (first + zero) first (marked_numbers (first + 1) marks) (omega arith))
marked-with first (false ∷ marks) zero less = sym (ap (λ number. with_number number (marked_numbers (first + 1) marks)) (omega arith) ∙ with_number-first first (first + 1) marks (omega arith))
marked-with first (true ∷ marks) (suc place) less =
    ap (λ numbers. first ∷ numbers) (marked-with (first + 1) marks place (omega (arith, less)) ∙ ap (λ number. with_number number (marked_numbers (first + 1) marks)) (omega arith))
    ∙ sym (with_number-later (first + suc place) first (marked_numbers (first + 1) marks) (omega arith))
marked-with first (false ∷ marks) (suc place) less =
    marked-with (first + 1) marks place (omega (arith, less)) ∙ ap (λ number. with_number number (marked_numbers (first + 1) marks)) (omega arith)

without_number-first : (number first : ℕ) (marks : List Bool) → number < first → without_number number (marked_numbers first marks) ≡ marked_numbers first marks
without_number-first number first [] less = refl
without_number-first number first (true ∷ marks) less =
    rw (ne_eqb first number (λ same. absurd (omega (arith, less, same)))) (ap (λ numbers. first ∷ numbers) (without_number-first number (first + 1) marks (omega (arith, less))))
without_number-first number first (false ∷ marks) less = without_number-first number (first + 1) marks (omega (arith, less))

-- one mark less is one number less
pub marked-without : (first : ℕ) (marks : List Bool) (place : ℕ) → place < length marks → marked_numbers first (slice_set marks place false) ≡ without_number (first + place) (marked_numbers first marks)
marked-without first [] place less = absurd (omega (arith, less))
marked-without first (true ∷ marks) zero less =
    rw (eq-eqb first (first + zero) (omega arith)) (sym (without_number-first (first + zero) (first + 1) marks (omega arith)))
marked-without first (false ∷ marks) zero less = sym (without_number-first (first + zero) (first + 1) marks (omega arith))
marked-without first (true ∷ marks) (suc place) less =
    rw (ne_eqb first (first + suc place) (λ same. absurd (omega (arith, same))))
    (ap (λ numbers. first ∷ numbers) (marked-without (first + 1) marks place (omega (arith, less)) ∙ ap (λ number. without_number number (marked_numbers (first + 1) marks)) (omega arith)))
marked-without first (false ∷ marks) (suc place) less =
    marked-without (first + 1) marks place (omega (arith, less)) ∙ ap (λ number. without_number number (marked_numbers (first + 1) marks)) (omega arith)

-- a number above all others stands last
pub with_number-last : (number : ℕ) (numbers : List ℕ) → All (λ other. other < number) numbers → with_number number numbers ≡ numbers ++ number ∷ []
with_number-last number [] all = refl
with_number-last number (first ∷ rest) all =
    with_number-later number first rest (All-head (λ other. other < number) first rest all)
    ∙ ap (λ numbers. first ∷ numbers) (with_number-last number rest (All-tail (λ other. other < number) first rest all))

-- they ascend
pub marked-ascends : (low first : ℕ) (marks : List Bool) → low < first → Ascends low (marked_numbers first marks)
marked-ascends low first [] less = tt
marked-ascends low first (true ∷ marks) less = (less, marked-ascends first (first + 1) marks (omega arith))
marked-ascends low first (false ∷ marks) less = marked-ascends low (first + 1) marks (omega (arith, less))

-- what holds of the numbers and of one more holds of all of them then
by_place : (P : ℕ → Type 0) (number first : ℕ) (rest : List ℕ) (below same : Bool) → P number → P first → All P rest → All P (with_number number rest)
    → All P (cond below (number ∷ first ∷ rest) (cond same (first ∷ rest) (first ∷ with_number number rest)))
by_place P number first rest true same here head tail later = All-cons P number (first ∷ rest) here (All-cons P first rest head tail)
by_place P number first rest false true here head tail later = All-cons P first rest head tail
by_place P number first rest false false here head tail later = All-cons P first (with_number number rest) head later

pub All-with_number : (P : ℕ → Type 0) (number : ℕ) (numbers : List ℕ) → P number → All P numbers → All P (with_number number numbers)
All-with_number P number [] here all = All-cons P number [] here all
All-with_number P number (first ∷ rest) here all =
    let tail = All-tail P first rest all in
    by_place P number first rest (nat_lt number first) (number == first) here (All-head P first rest all) tail (All-with_number P number rest here tail)

-- the numbers of two lists of marks, one behind the other
pub marked-append : (first : ℕ) (marks more : List Bool) → marked_numbers first (marks ++ more) ≡ marked_numbers first marks ++ marked_numbers (first + length marks) more
marked-append first [] more = ap (λ n. marked_numbers n more) (omega arith)
marked-append first (true ∷ marks) more =
    ap (λ numbers. first ∷ numbers) (marked-append (first + 1) marks more ∙ ap (λ n. marked_numbers (first + 1) marks ++ marked_numbers n more) (omega arith))
marked-append first (false ∷ marks) more = marked-append (first + 1) marks more ∙ ap (λ n. marked_numbers (first + 1) marks ++ marked_numbers n more) (omega arith)

-- ---- set bits

-- ---- the marks of a number's bits

marks_of-length : (count bits : ℕ) → length (marks_of count bits) ≡ count
marks_of-length zero bits = refl
marks_of-length (suc count) bits = ap suc (marks_of-length count (bits / 2))

marks_of-read : (count bits place : ℕ) → place < count → slice_index_or (marks_of count bits) place false ≡ (bit_at bits place == 1)
marks_of-read zero bits place less = absurd (omega (arith, less))
marks_of-read (suc count) bits zero less = ap (λ bit. bit == 1) (sym (bit_at_lowest bits))
marks_of-read (suc count) bits (suc place) less = marks_of-read count (bits / 2) place (omega (arith, less)) ∙ ap (λ bit. bit == 1) (sym (bit_at-suc bits place))

marks_of-same : (count after bits : ℕ) → ((i : ℕ) → i < count → bit_at after i ≡ bit_at bits i) → marks_of count after ≡ marks_of count bits
marks_of-same zero after bits same = refl
marks_of-same (suc count) after bits same =
    let first : (after % 2 == 1) ≡ (bits % 2 == 1) = ap (λ bit. bit == 1) (sym (bit_at_lowest after) ∙ (same 0 (omega arith) ∙ bit_at_lowest bits)) in
    let rest : marks_of count (after / 2) ≡ marks_of count (bits / 2) = marks_of-same count (after / 2) (bits / 2) (λ i less. sym (bit_at-suc after i) ∙ (same (suc i) (omega (arith, less)) ∙ bit_at-suc bits i)) in
    rw (first, rest) refl

-- one bit may be another, and the others are the same
marks_of-set : (count bits after place : ℕ) (mark : Bool) → place < count → (bit_at after place == 1) ≡ mark → ((i : ℕ) → i < count → i ≢ place → bit_at after i ≡ bit_at bits i) → marks_of count after ≡ slice_set (marks_of count bits) place mark
marks_of-set zero bits after place mark less here others = absurd (omega (arith, less))
marks_of-set (suc count) bits after zero mark less here others =
    let first : (after % 2 == 1) ≡ mark = ap (λ bit. bit == 1) (sym (bit_at_lowest after)) ∙ here in
    let rest : marks_of count (after / 2) ≡ marks_of count (bits / 2) =
    marks_of-same count (after / 2) (bits / 2) (λ i below. sym (bit_at-suc after i) ∙ (others (suc i) (omega (arith, below)) (λ e. absurd (omega (arith, e))) ∙ bit_at-suc bits i)) in
    rw (first, rest) refl
marks_of-set (suc count) bits after (suc place) mark less here others =
    let first : (after % 2 == 1) ≡ (bits % 2 == 1) = ap (λ bit. bit == 1) (sym (bit_at_lowest after) ∙ (others 0 (omega arith) (λ e. absurd (omega (arith, e))) ∙ bit_at_lowest bits)) in
    let rest : marks_of count (after / 2) ≡ slice_set (marks_of count (bits / 2)) place mark =
    marks_of-set count (bits / 2) (after / 2) place mark (omega (arith, less)) (ap (λ bit. bit == 1) (sym (bit_at-suc after place)) ∙ here)
    (λ i below apart. sym (bit_at-suc after i) ∙ (others (suc i) (omega (arith, below)) (λ e. apart (omega (arith, e))) ∙ bit_at-suc bits i)) in
    rw (first, rest) refl

-- ---- the marks of a word

pub word-length : (word : ℕ) → length (marks_of_word word) ≡ 64
unfolding marks_of_word
word-length word = marks_of-length 64 word

no_bits : (count first : ℕ) → marked_numbers first (marks_of count 0) ≡ []
no_bits zero first = refl
no_bits (suc count) first = no_bits count (first + 1)

pub word-none : (first : ℕ) → marked_numbers first (marks_of_word 0) ≡ []
unfolding marks_of_word
word-none first = no_bits 64 first

module _ (word bit : ℕ) (less : bit < 64) where
  bit-tested : (is : ℕ) → bit_at word bit ≡ is → not (bit_and word (2 ^ bit) == 0) ≡ (bit_at word bit == 1)
  bit-tested zero none =
      let no : bit_and word (2 ^ bit) ≡ 0 = and_pow word bit ∙ (ap (λ b. b * 2 ^ bit) none ∙ omega arith) in
      rw (no, none) refl
  bit-tested (suc is) some =
      let one : bit_at word bit ≡ 1 = omega (arith, some, bit_at-lt word bit) in
      let there : bit_and word (2 ^ bit) ≡ 2 ^ bit = and_pow word bit ∙ (ap (λ b. b * 2 ^ bit) one ∙ omega arith) in
      rw (there, one) (ap not (ne_eqb (2 ^ bit) 0 (λ e. absurd (omega (arith, e)))))

  pub word-has : not (bit_and word (2 ^ bit) == 0) ≡ slice_index_or (marks_of_word word) bit false
  unfolding marks_of_word
  word-has = bit-tested (bit_at word bit) refl ∙ sym (marks_of-read 64 word bit less)

  pub word-with : marks_of_word (bit_or word (2 ^ bit)) ≡ slice_set (marks_of_word word) bit true
  unfolding marks_of_word
  word-with =
      let after = bit_or word (2 ^ bit) in
      let here : bit_at after bit ≡ 1 = omega (arith, bit_at_or word (2 ^ bit) bit, bit_at-pow_same bit, bit_at-lt word bit) in
      marks_of-set 64 word after bit true less (ap (λ b. b == 1) here) (λ i below apart. omega (arith, bit_at_or word (2 ^ bit) i, bit_at-pow_other bit i apart))

  bit-cleared : (i : ℕ) → i < 64 → bit_at (bit_and word (bit_not w64 (2 ^ bit))) i ≡ min (bit_at word i) (1 - bit_at (2 ^ bit) i)
  bit-cleared i below = bit_at_and word (bit_not w64 (2 ^ bit)) i ∙ ap (min (bit_at word i)) (bit_at_not w64 (2 ^ bit) i (pow_below bit 64 less) below)

  pub word-without : marks_of_word (bit_and word (bit_not w64 (2 ^ bit))) ≡ slice_set (marks_of_word word) bit false
  unfolding marks_of_word
  word-without =
      let after = bit_and word (bit_not w64 (2 ^ bit)) in
      let here : bit_at after bit ≡ 0 = omega (arith, bit-cleared bit less, bit_at-pow_same bit) in
      marks_of-set 64 word after bit false less (ap (λ b. b == 1) here)
      (λ i below apart. omega (arith, bit-cleared i below, bit_at-pow_other bit i apart, bit_at-lt word i))

-- ---- the lowest bit is the first number

-- none below is set
abbrev IsLowest : ℕ → ℕ → Type 0
IsLowest bits place = (bit_at bits place ≡ 1) × ((i : ℕ) → i < place → bit_at bits i ≡ 0)

-- the lowest bit goes, and the others stay
abbrev IsWithout : ℕ → ℕ → ℕ → Type 0
IsWithout bits place after = (bit_at after place ≡ 0) × ((i : ℕ) → i ≢ place → bit_at after i ≡ bit_at bits i)

half-lowest : (bits place : ℕ) → IsLowest bits (suc place) → IsLowest (bits / 2) place
half-lowest bits place lowest = (sym (bit_at-suc bits place) ∙ lowest.0, λ i less. sym (bit_at-suc bits i) ∙ lowest.1 (suc i) (omega (arith, less)))

-- one less clears the lowest bit, sets those below it, and leaves those above it
one_less : (bits place : ℕ) → IsLowest bits place → (bit_at (bits - 1) place ≡ 0) × ((i : ℕ) → place < i → bit_at (bits - 1) i ≡ bit_at bits i)
one_less bits zero lowest = (omega (arith, bit_at_lowest (bits - 1), odd), above)
  where
    odd : bits % 2 ≡ 1
    odd = sym (bit_at_lowest bits) ∙ lowest.0

    above : (i : ℕ) → 0 < i → bit_at (bits - 1) i ≡ bit_at bits i
    above zero less = absurd (omega (arith, less))
    above (suc i) less = let half : (bits - 1) / 2 ≡ bits / 2 = omega (arith, odd) in bit_at-suc (bits - 1) i ∙ (ap (λ n. bit_at n i) half ∙ sym (bit_at-suc bits i))
one_less bits (suc place) lowest = by_half (one_less (bits / 2) place (half-lowest bits place lowest))
  where
    half : (bits - 1) / 2 ≡ bits / 2 - 1
    half = omega (arith, bit_at_lowest bits, lowest.1 0 (omega arith))

    above : ((i : ℕ) → place < i → bit_at (bits / 2 - 1) i ≡ bit_at (bits / 2) i) → (i : ℕ) → suc place < i → bit_at (bits - 1) i ≡ bit_at bits i
    above rest zero less = absurd (omega (arith, less))
    above rest (suc i) less = bit_at-suc (bits - 1) i ∙ (ap (λ n. bit_at n i) half ∙ (rest i (omega (arith, less)) ∙ sym (bit_at-suc bits i)))

    by_half : (bit_at (bits / 2 - 1) place ≡ 0) × ((i : ℕ) → place < i → bit_at (bits / 2 - 1) i ≡ bit_at (bits / 2) i) → (bit_at (bits - 1) (suc place) ≡ 0) × ((i : ℕ) → suc place < i → bit_at (bits - 1) i ≡ bit_at bits i)
    by_half rest = (bit_at-suc (bits - 1) place ∙ (ap (λ n. bit_at n place) half ∙ rest.0), above rest.1)

without_lowest : (bits place : ℕ) → IsLowest bits place → IsWithout bits place (bit_and bits (bits - 1))
without_lowest bits place lowest = (omega (arith, bit_at_and bits (bits - 1) place, (one_less bits place lowest).0), others)
  where
    others : (i : ℕ) → i ≢ place → bit_at (bit_and bits (bits - 1)) i ≡ bit_at bits i
    others i apart =
        elim (cases_lt i place) [
          | inl less ↦ omega (arith, bit_at_and bits (bits - 1) i, lowest.1 i less)
          | inr most ↦
              let above : place < i = elim (cases_lt place i) [ inl less ↦ less | inr least ↦ absurd (apart (omega (arith, most, least))) ] in
              omega (arith, bit_at_and bits (bits - 1) i, (one_less bits place lowest).1 i above)
        ]

first_bit : (count first bits place after : ℕ) → place < count → IsLowest bits place → IsWithout bits place after → marked_numbers first (marks_of count bits) ≡ (first + place) ∷ marked_numbers first (marks_of count after)
first_bit zero first bits place after less lowest without = absurd (omega (arith, less))
first_bit (suc count) first bits zero after less lowest without =
    let odd : bits % 2 ≡ 1 = sym (bit_at_lowest bits) ∙ lowest.0 in
    let even : after % 2 ≡ 0 = sym (bit_at_lowest after) ∙ without.0 in
    let rest : marks_of count (after / 2) ≡ marks_of count (bits / 2) =
    marks_of-same count (after / 2) (bits / 2) (λ i below. sym (bit_at-suc after i) ∙ (without.1 (suc i) (λ e. absurd (omega (arith, e))) ∙ bit_at-suc bits i)) in
    rw (odd, even, rest) (ap (λ number. number ∷ marked_numbers (first + 1) (marks_of count (bits / 2))) (omega arith))
first_bit (suc count) first bits (suc place) after less lowest without =
    let even : bits % 2 ≡ 0 = sym (bit_at_lowest bits) ∙ lowest.1 0 (omega arith) in
    let even_after : after % 2 ≡ 0 = sym (bit_at_lowest after) ∙ (without.1 0 (λ e. absurd (omega (arith, e))) ∙ lowest.1 0 (omega arith)) in
    let next : first + 1 + place ≡ first + suc place = omega arith in
    let half : IsWithout (bits / 2) place (after / 2) = (sym (bit_at-suc after place) ∙ without.0, λ i apart. sym (bit_at-suc after i) ∙ (without.1 (suc i) (λ e. apart (omega (arith, e))) ∙ bit_at-suc bits i)) in
    rw (even, even_after, ← next) (first_bit count (first + 1) (bits / 2) place (after / 2) (omega (arith, less)) (half-lowest bits place lowest) half)

-- the lowest bit's place is the first number, and the others are those of the rest
pub word-first : (first word place : ℕ) → 0 < word → word < 2 ^ 64 → place ≡ count_trailing_zeros 64 word → marked_numbers first (marks_of_word word) ≡ (first + place) ∷ marked_numbers first (marks_of_word (bit_and word (word - 1)))
unfolding marks_of_word
word-first first word place some fits is =
    let after = bit_and word (word - 1) in
    let found = bit_at-trailing_zeros w64 word some fits in
    let set : bit_at word place ≡ 1 = ap (bit_at word) is ∙ found.1 in
    let lowest : IsLowest word place = (set, λ i less. found.2 i (omega (arith, less, is))) in
    first_bit 64 first word place after (omega (arith, is, found.0)) lowest (without_lowest word place lowest)
