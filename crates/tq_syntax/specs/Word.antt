-- Words of a line, and decimal numbers. What follows a verb: the bytes behind its space, where it has one. Where they
-- have another form there is no operand.
use Rattle.std.specs.Prelude.{ℕ, ◌+◌, ◌-◌, ◌*◌, ◌^◌, ◌==◌, ◌&&◌, nat_lt, nat_le, cond, List, [], ◌∷◌, Option, Some, None, Bool, length, codes, option_and_then}
use Rattle.std.specs.{Option.{option_map, option_or}, Borrow.Bor, List.list_all, Str.bytes_eq}
use Rattle.tq_live.specs.{Costs.purpose_of, declared.purpose.Purpose.Purpose}
use Rattle.tq_live.specs.declared.purpose.Purpose.TheVariants as purposes
use Rattle.tq_store.specs.Names.{is_file_name}
use Rattle.tq_syntax.specs.declared.operands.{CostWords.CostWords, Numbers.Numbers, Visit.Visit, Written.Written}

-- what an optional reference points to
abbrev pub options_now : Option (Bor (List ℕ)) → Option (List ℕ)
options_now rest = option_map (λ (bytes : Bor (List ℕ)). bytes.now) rest

-- the bytes before the first space
abbrev pub word_of : List ℕ → List ℕ
word_of [] = []
word_of (byte ∷ bytes) = cond (byte == 32) [] (byte ∷ word_of bytes)

-- the bytes after the first space, where there is one
abbrev pub rest_of : List ℕ → Option (List ℕ)
rest_of [] = None
rest_of (byte ∷ bytes) = cond (byte == 32) (Some bytes) (rest_of bytes)

-- a number with one digit more, if it still has 64 bits
abbrev pub digit_after : ℕ → ℕ → Option ℕ
digit_after value digit =
    cond (nat_le 48 digit && nat_le digit 57)
    (cond (nat_lt (10 * value + (digit - 48)) (2 ^ 64)) (Some (10 * value + (digit - 48))) None)
    None

abbrev pub digits_then : List ℕ → Option ℕ → Option ℕ
digits_then [] value = value
digits_then (digit ∷ digits) None = None
digits_then (digit ∷ digits) (Some value) = digits_then digits (digit_after value digit)

abbrev pub digits_after : ℕ → List ℕ → Option ℕ
digits_after value digits = digits_then digits (Some value)

-- the number that the word spells, without sign and leading zero
abbrev pub number_of : List ℕ → Option ℕ
number_of [] = None
number_of (first ∷ []) = digits_after 0 (first ∷ [])
number_of (first ∷ second ∷ digits) = cond (first == 48) None (digits_after 0 (first ∷ second ∷ digits))

-- one carriage return at the end is dropped
abbrev pub without_return : List ℕ → List ℕ
without_return [] = []
without_return (byte ∷ []) = cond (byte == 13) [] (byte ∷ [])
without_return (byte ∷ next ∷ bytes) = byte ∷ without_return (next ∷ bytes)

-- ---- operands

-- nothing
abbrev pub nothing_in : Option (List ℕ) → Option (Unit {0})
nothing_in None = Some tt
nothing_in (Some words) = None

-- a number
abbrev pub one_number : Option (List ℕ) → Option ℕ
one_number rest = option_and_then number_of rest

-- a number, and what follows it
abbrev pub first_number : Option (List ℕ) → Option (ℕ × Option (List ℕ))
first_number rest = option_and_then (λ words. option_map (λ number. (number, rest_of words)) (number_of (word_of words))) rest

-- two numbers
abbrev pub two_numbers : Option (List ℕ) → Option Numbers
two_numbers rest = option_and_then (λ n. option_map (λ second. record { first = n.0; second = second }) (one_number n.1)) (first_number rest)

-- one cost for both purposes, or one for reading and one for writing
abbrev pub costs_of : Option (List ℕ) → Option Numbers
costs_of rest = option_or (option_map (λ both. record { first = both; second = both }) (one_number rest)) (two_numbers rest)

-- a server and its costs
abbrev pub cost_words : Option (List ℕ) → Option CostWords
cost_words rest =
    option_and_then (λ n. option_map (λ costs. record { server = n.0; read = costs.first; write = costs.second }) (costs_of n.1)) (first_number rest)

-- a purpose, and reading where nothing follows
abbrev pub chosen_for : Option (List ℕ) → Option Purpose
chosen_for None = Some purposes.Read
chosen_for (Some words) = purpose_of words

-- the file that a word names
abbrev pub named_file : List ℕ → Option (List ℕ)
named_file word = cond (is_file_name word) (Some word) None

-- a file
abbrev pub file_of : Option (List ℕ) → Option (List ℕ)
file_of rest = option_and_then named_file rest

-- a byte that may stand in a text
abbrev pub is_printed : ℕ → Bool
is_printed byte = nat_le 32 byte && nat_le byte 126

-- a text: not too many bytes, each of which can be printed
abbrev pub is_text : List ℕ → Bool
is_text text = nat_le (length text) 4000 && list_all is_printed text

abbrev pub content_of : List ℕ → Option (List ℕ)
content_of text = cond (is_text text) (Some text) None

-- a text, empty where nothing follows
abbrev pub text_of : Option (List ℕ) → Option (List ℕ)
text_of None = Some []
text_of (Some text) = content_of text

abbrev pub written_by : List ℕ → Option (List ℕ) → Option Written
written_by word text =
    option_and_then (λ file. option_map (λ content. record { file = file; content = content }) (text_of text)) (named_file word)

-- a file and the text that is written
abbrev pub written_of : Option (List ℕ) → Option Written
written_of rest = option_and_then (λ words. written_by (word_of words) (rest_of words)) rest

-- a number of 32 bits
abbrev pub small_of : Option ℕ → Option ℕ
small_of None = None
small_of (Some number) = cond (nat_le number 4294967295) (Some number) None

abbrev pub crash_words : List ℕ → Option (List ℕ) → Option ℕ
crash_words word rest = cond (bytes_eq word (codes "crash")) (small_of (one_number rest)) None

-- `crash` and behind how many records; or nothing, and no crash
abbrev pub crash_of : Option (List ℕ) → Option (Option ℕ)
crash_of None = Some None
crash_of (Some words) = option_map (λ after. Some after) (crash_words (word_of words) (rest_of words))

-- a server, which may crash
abbrev pub visit_of : Option (List ℕ) → Option Visit
visit_of rest = option_and_then (λ n. option_map (λ crash. record { server = n.0; crash = crash }) (crash_of n.1)) (first_number rest)
