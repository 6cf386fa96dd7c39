-- A set's numbers as the places of the bits that are set in a list of words.
use Rattle.std.proofs.Common.{◌≡◌, ℕ, ◌+◌, ◌-◌, ◌*◌, ◌/◌, ◌%◌, ◌^◌, ◌<◌, ◌≤◌, zero, suc, Bool, true, false, List, [], ◌∷◌, ◌++◌, length, replicate, refl, sym, ap, subst, ◌∙◌, arith}
use Rattle.std.proofs.{Math.Nat.zero-add, lemmas.List.Elements.{All-nil, All-head, All-tail, All-filter}}
use Rattle.std.proofs.lemmas.List.{length-append, length-set, length-replicate, get_or_append_left, get_or-append-add, nil_from_length, set-append_left, set-append_right}
use mathlib.Core.Bool.{not-not}
use Rattle.std.specs.{Prelude.{slice_set, slice_index_or, not, ◌==◌, bit_and, bit_or}, List.All, Int.{bit_not, w64}}
use Rattle.std.specs.Int.Count.{count_trailing_zeros}
use Rattle.tq_shape.specs.ServerSet.{Ascends, AreLeft, AreWordsOf, has_number, marked_numbers, marks_in, marks_of_word, servers_of_numbers, numbers_left, numbers_of, with_number, without_number}
use Rattle.tq_shape.specs.Tree.{IsServer, Server}
use Rattle.tq_shape.proofs.SetBits.{has_number-marked, marked-with, marked-without, marked-append, marked-ascends, All-with_number, word-length, word-none, word-has, word-with, word-without, word-first}

-- ---- the marks of words

marks_in-length : (words : List ℕ) → length (marks_in words) ≡ 64 * length words
marks_in-length [] = refl
marks_in-length (word ∷ words) = omega (arith, length-append (marks_of_word word) (marks_in words), word-length word, marks_in-length words)

-- a mark is one of the marks of its word
marks_in-read : (words : List ℕ) (place bit : ℕ) → bit < 64 → place < length words
    → slice_index_or (marks_in words) (64 * place + bit) false ≡ slice_index_or (marks_of_word (slice_index_or words place 0)) bit false
marks_in-read [] place bit less within = absurd (omega (arith, within))
marks_in-read (word ∷ words) zero bit less within =
    ap (λ n. slice_index_or (marks_of_word word ++ marks_in words) n false) (omega arith)
    ∙ get_or_append_left (marks_of_word word) (marks_in words) false bit (omega (arith, less, word-length word))
marks_in-read (word ∷ words) (suc place) bit less within =
    let at : 64 * suc place + bit ≡ length (marks_of_word word) + (64 * place + bit) = omega (arith, word-length word) in
    ap (λ n. slice_index_or (marks_of_word word ++ marks_in words) n false) at
    ∙ (get_or-append-add (marks_of_word word) (marks_in words) (64 * place + bit) false ∙ marks_in-read words place bit less (omega (arith, within)))

-- and changes with it
marks_in-set : (words : List ℕ) (place bit after : ℕ) (mark : Bool) → bit < 64 → place < length words
    → marks_of_word after ≡ slice_set (marks_of_word (slice_index_or words place 0)) bit mark
    → marks_in (slice_set words place after) ≡ slice_set (marks_in words) (64 * place + bit) mark
marks_in-set [] place bit after mark less within is = absurd (omega (arith, within))
marks_in-set (word ∷ words) zero bit after mark less within is =
    ap (λ marks. marks ++ marks_in words) is
    ∙ (sym (set-append_left (marks_of_word word) (marks_in words) bit mark (omega (arith, less, word-length word)))
    ∙ ap (λ n. slice_set (marks_of_word word ++ marks_in words) n mark) (omega arith))
marks_in-set (word ∷ words) (suc place) bit after mark less within is =
    let at : 64 * suc place + bit - 64 ≡ 64 * place + bit = omega arith in
    ap (λ marks. marks_of_word word ++ marks) (marks_in-set words place bit after mark less (omega (arith, within)) is ∙ ap (λ n. slice_set (marks_in words) n mark) (sym at))
    ∙ sym (set-append_right (marks_of_word word) (marks_in words) 64 (64 * suc place + bit) mark (word-length word) (omega arith))

-- ---- one number of a set

module _ (words : List ℕ) (number : ℕ) (within : number / 64 < length words) where
  set-says : has_number (numbers_of words) number ≡ slice_index_or (marks_in words) number false
  unfolding numbers_of
  set-says = ap (has_number (marked_numbers 0 (marks_in words))) (sym (zero-add number)) ∙ has_number-marked 0 (marks_in words) number

  pub set-has : not (bit_and (slice_index_or words (number / 64) 0) (2 ^ (number % 64)) == 0) ≡ has_number (numbers_of words) number
  set-has =
      let at : 64 * (number / 64) + number % 64 ≡ number = omega arith in
      word-has (slice_index_or words (number / 64) 0) (number % 64) (omega arith)
      ∙ (sym (marks_in-read words (number / 64) (number % 64) (omega arith) within)
      ∙ (ap (λ n. slice_index_or (marks_in words) n false) at ∙ sym set-says))

  pub is_new : (bit_and (slice_index_or words (number / 64) 0) (2 ^ (number % 64)) == 0) ≡ not (has_number (numbers_of words) number)
  is_new = sym (not-not (bit_and (slice_index_or words (number / 64) 0) (2 ^ (number % 64)) == 0)) ∙ ap not set-has

  set-marked : (after : ℕ) (mark : Bool) → marks_of_word after ≡ slice_set (marks_of_word (slice_index_or words (number / 64) 0)) (number % 64) mark
      → marks_in (slice_set words (number / 64) after) ≡ slice_set (marks_in words) number mark
  set-marked after mark is =
      let at : 64 * (number / 64) + number % 64 ≡ number = omega arith in
      marks_in-set words (number / 64) (number % 64) after mark (omega arith) within is ∙ ap (λ n. slice_set (marks_in words) n mark) at

  long : number < length (marks_in words)
  long = omega (arith, within, marks_in-length words)

  pub set-with : numbers_of (slice_set words (number / 64) (bit_or (slice_index_or words (number / 64) 0) (2 ^ (number % 64)))) ≡ with_number number (numbers_of words)
  unfolding numbers_of
  set-with =
      let before = slice_index_or words (number / 64) 0 in
      ap (marked_numbers 0) (set-marked (bit_or before (2 ^ (number % 64))) true (word-with before (number % 64) (omega arith)))
      ∙ (marked-with 0 (marks_in words) number long ∙ ap (λ n. with_number n (marked_numbers 0 (marks_in words))) (zero-add number))

  pub set-without : numbers_of (slice_set words (number / 64) (bit_and (slice_index_or words (number / 64) 0) (bit_not w64 (2 ^ (number % 64))))) ≡ without_number number (numbers_of words)
  unfolding numbers_of
  set-without =
      let before = slice_index_or words (number / 64) 0 in
      ap (marked_numbers 0) (set-marked (bit_and before (bit_not w64 (2 ^ (number % 64)))) false (word-without before (number % 64) (omega arith)))
      ∙ (marked-without 0 (marks_in words) number long ∙ ap (λ n. without_number n (marked_numbers 0 (marks_in words))) (zero-add number))

  -- another word at the number's place makes words of a set, if their numbers are servers
  are_words : (levels after : ℕ) → AreWordsOf levels words → All (IsServer levels) (numbers_of (slice_set words (number / 64) after)) → AreWordsOf levels (slice_set words (number / 64) after)
  are_words levels after are all =
      let same : length (slice_set words (number / 64) after) ≡ length words = length-set words (number / 64) after in
      record { room = omega (arith, same, are.room); short = omega (arith, same, are.short); servers = all }

  pub AreWordsOf-with : (levels : ℕ) → AreWordsOf levels words → IsServer levels number
      → AreWordsOf levels (slice_set words (number / 64) (bit_or (slice_index_or words (number / 64) 0) (2 ^ (number % 64))))
  AreWordsOf-with levels are server =
      are_words levels (bit_or (slice_index_or words (number / 64) 0) (2 ^ (number % 64))) are
      (rw set-with (All-with_number (IsServer levels) number (numbers_of words) server are.servers))

  pub AreWordsOf-without : (levels : ℕ) → AreWordsOf levels words
      → AreWordsOf levels (slice_set words (number / 64) (bit_and (slice_index_or words (number / 64) 0) (bit_not w64 (2 ^ (number % 64)))))
  AreWordsOf-without levels are =
      are_words levels (bit_and (slice_index_or words (number / 64) 0) (bit_not w64 (2 ^ (number % 64)))) are
      (rw set-without (All-filter (λ other. not (other == number)) (IsServer levels) (numbers_of words) are.servers))

-- there is a word for each server
pub has_place : (levels own number : ℕ) (words : List ℕ) → AreWordsOf levels words → own ≡ levels → IsServer own number → number / 64 < length words
has_place levels own number words are same server = omega (arith, are.room, server.1, ap (λ n. 2 ^ n) same)

-- ---- no number

none-marked : (count first : ℕ) → marked_numbers first (marks_in (replicate count 0)) ≡ []
none-marked zero first = refl
none-marked (suc count) first =
    marked-append first (marks_of_word 0) (marks_in (replicate count 0))
    ∙ (ap (λ numbers. numbers ++ marked_numbers (first + length (marks_of_word 0)) (marks_in (replicate count 0))) (word-none first)
    ∙ none-marked count (first + length (marks_of_word 0)))

pub numbers_of-none : (count : ℕ) → numbers_of (replicate count 0) ≡ []
unfolding numbers_of
numbers_of-none count = none-marked count 0

pub AreWordsOf-none : (levels count : ℕ) → 2 ^ levels ≤ 64 * count → 64 * count ≤ 1024 → AreWordsOf levels (replicate count 0)
AreWordsOf-none levels count room short =
    let long : length (replicate {A = ℕ} count 0) ≡ count = length-replicate count 0 in record {
      room = omega (arith, long, room);
      short = omega (arith, long, short);
      servers = rw (numbers_of-none count) (All-nil (IsServer levels));
    }

-- ---- the numbers ascend

ascends : (levels : ℕ) (marks : List Bool) → All (IsServer levels) (marked_numbers 0 marks) → Ascends 0 (marked_numbers 0 marks)
ascends levels [] all = tt
ascends levels (true ∷ marks) all = absurd (omega (arith, (All-head (IsServer levels) 0 (marked_numbers (0 + 1) marks) all).0))
ascends levels (false ∷ marks) all = marked-ascends 0 (0 + 1) marks (omega arith)

pub numbers_of-ascend : (levels : ℕ) (words : List ℕ) → AreWordsOf levels words → Ascends 0 (numbers_of words)
unfolding numbers_of
numbers_of-ascend levels words are = ascends levels (marks_in words) are.servers

-- ---- the numbers that are left to walk

numbers_left-all : (word : ℕ) (rest : List ℕ) → numbers_of (word ∷ rest) ≡ numbers_left 0 word rest
unfolding numbers_of numbers_left
numbers_left-all word rest = refl

-- all of them at first
pub left-all : (words : List ℕ) (word : ℕ) (rest : List ℕ) → words ≡ word ∷ rest → numbers_left 0 word rest ≡ numbers_of words
left-all words word rest is = sym (ap numbers_of is ∙ numbers_left-all word rest)

pub AreLeft-all : (levels : ℕ) (words : List ℕ) (word : ℕ) (rest : List ℕ) → words ≡ word ∷ rest → AreWordsOf levels words → AreLeft levels 0 word rest
AreLeft-all levels words word rest is are = record {
  short = omega (arith, are.short, ap (length {A = ℕ}) is);
  servers = rw (left-all words word rest is) are.servers;
}

left-over : (base next : ℕ) (behind : List ℕ) → numbers_left base 0 (next ∷ behind) ≡ numbers_left (base + 64) next behind
unfolding numbers_left
left-over base next behind =
    let at : base + length (marks_of_word 0) ≡ base + 64 = omega (arith, word-length 0) in
    marked-append base (marks_of_word 0) (marks_in (next ∷ behind))
    ∙ (ap (λ numbers. numbers ++ marked_numbers (base + length (marks_of_word 0)) (marks_in (next ∷ behind))) (word-none base)
    ∙ ap (λ n. marked_numbers n (marks_in (next ∷ behind))) at)

left-none : (base : ℕ) → numbers_left base 0 [] ≡ []
unfolding numbers_left
left-none base =
    marked-append base (marks_of_word 0) (marks_in [])
    ∙ ap (λ numbers. numbers ++ marked_numbers (base + length (marks_of_word 0)) (marks_in [])) (word-none base)

-- none of them stands in a word of no mark
pub left-skip : (base word next : ℕ) (rest behind : List ℕ) → word ≡ 0 → rest ≡ next ∷ behind → numbers_left base word rest ≡ numbers_left (base + 64) next behind
left-skip base word next rest behind empty is =
    ap (λ w. numbers_left base w rest) empty ∙ (ap (numbers_left base 0) is ∙ left-over base next behind)

pub AreLeft-skip : (levels base word next : ℕ) (rest behind : List ℕ) → word ≡ 0 → rest ≡ next ∷ behind → AreLeft levels base word rest → AreLeft levels (base + 64) next behind
AreLeft-skip levels base word next rest behind empty is are = record {
  short = omega (arith, are.short, ap (length {A = ℕ}) is);
  servers = rw (← left-skip base word next rest behind empty is) are.servers;
}

pub left-end : (base word : ℕ) (rest : List ℕ) → word ≡ 0 → length rest ≡ 0 → numbers_left base word rest ≡ []
left-end base word rest empty end =
    ap (λ w. numbers_left base w rest) empty ∙ (ap (numbers_left base 0) (nil_from_length rest end) ∙ left-none base)

-- the lowest mark of the word is the next
left-next : (base word place : ℕ) (rest : List ℕ) → 0 < word → word < 2 ^ 64 → place ≡ count_trailing_zeros 64 word
    → numbers_left base word rest ≡ (base + place) ∷ numbers_left base (bit_and word (word - 1)) rest
unfolding numbers_left
left-next base word place rest some fits is =
    let after = bit_and word (word - 1) in
    let long : length (marks_of_word word) ≡ length (marks_of_word after) = word-length word ∙ sym (word-length after) in
    marked-append base (marks_of_word word) (marks_in rest)
    ∙ (ap (λ numbers. numbers ++ marked_numbers (base + length (marks_of_word word)) (marks_in rest)) (word-first base word place some fits is)
    ∙ ap (λ numbers. (base + place) ∷ numbers)
    (ap (λ n. marked_numbers base (marks_of_word after) ++ marked_numbers (base + n) (marks_in rest)) long ∙ sym (marked-append base (marks_of_word after) (marks_in rest))))

-- it is that of a server, and the others are left
pub record IsNext (levels base word number after : ℕ) (rest : List ℕ) : Type 0 where
  pub is : numbers_left base word rest ≡ number ∷ numbers_left base after rest
  pub server : IsServer levels number
  pub left : AreLeft levels base after rest

pub next-left : (levels base word place : ℕ) (rest : List ℕ) → AreLeft levels base word rest → 0 < word → word < 2 ^ 64 → place ≡ count_trailing_zeros 64 word
    → IsNext levels base word (base + place) (bit_and word (word - 1)) rest
next-left levels base word place rest are some fits at =
    let number = base + place in
    let after = bit_and word (word - 1) in
    let is : numbers_left base word rest ≡ number ∷ numbers_left base after rest = left-next base word place rest some fits at in
    let P : List ℕ → Type 0 = λ numbers. All (IsServer levels) numbers in
    let all : All (IsServer levels) (number ∷ numbers_left base after rest) = subst P is are.servers in record {
      is = is;
      server = All-head (IsServer levels) number (numbers_left base after rest) all;
      left = record { short = are.short; servers = All-tail (IsServer levels) number (numbers_left base after rest) all };
    }

pub next_servers : (levels base word number after : ℕ) (rest : List ℕ) (server : Server) → numbers_left base word rest ≡ number ∷ numbers_left base after rest
    → server ≡ record { number = number; levels = levels } → servers_of_numbers levels (numbers_left base word rest) ≡ server ∷ servers_of_numbers levels (numbers_left base after rest)
next_servers levels base word number after rest server is made = ap (servers_of_numbers levels) is ∙ ap (λ s. s ∷ servers_of_numbers levels (numbers_left base after rest)) (sym made)
