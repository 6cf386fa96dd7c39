-- Names of files.
use Rattle.std.specs.Prelude.{ℕ, ◌+◌, ◌-◌, Bool, false, ◌||◌, ◌&&◌, ◌==◌, List, [], ◌∷◌, ◌++◌, length, replicate, nat_le, slice_get, slice_index, if◌then◌else◌}
use Rattle.std.specs.{List.{list_all, before_first}, Option.option_map_or, Char.{is_ascii_lowercase, is_ascii_digit}}
use Rattle.std.specs.{Int.{w64, from_be_bytes}, Cmp.Lexicographic.pointwise, Hash.HashWrites}
use Rattle.std.specs.Hash as fed

-- a byte that may stand in a file name: a letter, a digit, a dot, a low line or a dash
abbrev pub is_name_byte : ℕ → Bool
is_name_byte c = is_ascii_lowercase c || is_ascii_digit c || c == 46 || c == 95 || c == 45

-- its first byte is a letter
abbrev pub starts_with_letter : List ℕ → Bool
starts_with_letter name = option_map_or is_ascii_lowercase (slice_get name 0) false

-- 1 to 32 such bytes, a letter first
abbrev pub is_file_name : List ℕ → Bool
is_file_name name = starts_with_letter name && list_all is_name_byte name && nat_le (length name) 32

-- the name in an array of the greatest length, filled up with zeros
abbrev pub padded_name : List ℕ → List ℕ
padded_name name = name ++ replicate (32 - length name) 0

-- the name that such an array holds: its bytes before the first zero
unfoldable pub name_in : List ℕ → List ℕ
name_in bytes = before_first (λ c. c == 0) bytes

-- eight bytes of an array, from a place on, as one number in which the first counts most
abbrev pub word_at : List ℕ → ℕ → ℕ
word_at bytes at = from_be_bytes w64
    (slice_index bytes at ∷ slice_index bytes (at + 1) ∷ slice_index bytes (at + 2) ∷ slice_index bytes (at + 3)
    ∷ slice_index bytes (at + 4) ∷ slice_index bytes (at + 5) ∷ slice_index bytes (at + 6) ∷ slice_index bytes (at + 7) ∷ [])

-- what a hash of a name is fed: its words, in order, and the first alone where it has no more than eight bytes
abbrev pub hashed_words : List ℕ → HashWrites
hashed_words name =
    fed.u64 (word_at (padded_name name) 0)
    ++ (if word_at (padded_name name) 8 == 0 then [] else fed.u64 (word_at (padded_name name) 8) ++ fed.u64 (word_at (padded_name name) 16) ++ fed.u64 (word_at (padded_name name) 24))

-- two names, or two contents, are the same bytes
abbrev pub same_name : List ℕ → List ℕ → Bool
same_name = pointwise (◌==◌)
