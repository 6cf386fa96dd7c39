-- A set of servers of one tree.
use Rattle.std.specs.Prelude.{ℕ, ◌+◌, ◌*◌, ◌/◌, ◌%◌, ◌^◌, ◌<◌, ◌≤◌, ◌==◌, zero, suc, Bool, true, false, not, nat_eq, nat_lt, cond, List, [], ◌∷◌, ◌++◌, length, map, Option, Some, None}
use Rattle.std.specs.{List.{All, filter, list_any}, Cmp.Lexicographic.pointwise}
use Rattle.tq_shape.specs.Tree.{Server, IsServer}

-- what callers see of a set: the levels of the tree, and the numbers of its servers, ascending, each once
pub record Servers : Type 0 where
  pub levels : ℕ
  pub numbers : List ℕ

-- the numbers ascend, from above a lower bound, so none stands there twice
abbrev pub Ascends : ℕ → List ℕ → Type 0
Ascends low [] = Unit {0}
Ascends low (first ∷ rest) = (low < first) × Ascends first rest

-- the set has the number
abbrev pub has_number : List ℕ → ℕ → Bool
has_number numbers number = list_any (λ other. other == number) numbers

-- the numbers with one more in its place; one that is there already stays the only one
abbrev pub with_number : ℕ → List ℕ → List ℕ
with_number number [] = number ∷ []
with_number number (first ∷ rest) =
    cond (nat_lt number first) (number ∷ first ∷ rest)
    (cond (number == first) (first ∷ rest) (first ∷ with_number number rest))

-- the numbers without one
abbrev pub without_number : ℕ → List ℕ → List ℕ
without_number number numbers = filter (λ other. not (other == number)) numbers

-- the set with one server more, in its place
abbrev pub set_with : ℕ → Servers → Servers
set_with number set = record { levels = set.levels; numbers = with_number number set.numbers }

-- the set with one server more, behind the others
abbrev pub set_with_last : ℕ → Servers → Servers
set_with_last number set = record { levels = set.levels; numbers = set.numbers ++ number ∷ [] }

-- the set without one server
abbrev pub set_without : ℕ → Servers → Servers
set_without number set = record { levels = set.levels; numbers = without_number number set.numbers }

-- each of the numbers is below that one
abbrev pub AreBelow : ℕ → List ℕ → Type 0
AreBelow number numbers = All (λ other. other < number) numbers

-- the servers of a tree of those levels with these numbers
abbrev pub servers_of_numbers : ℕ → List ℕ → List Server
servers_of_numbers levels numbers = map (λ number. record { number = number; levels = levels }) numbers

-- both lists have servers of the same numbers
abbrev pub have_same_numbers : List Server → List Server → Bool
have_same_numbers ones others = pointwise (λ one other. nat_eq one.number other.number) ones others

-- the first of a list, where there is one
abbrev pub first_of : {A : Type 0} → List A → Option A
first_of [] = None
first_of (first ∷ rest) = Some first

-- the numbers that are marked, where the marks begin at the first number
abbrev pub marked_numbers : ℕ → List Bool → List ℕ
marked_numbers first [] = []
marked_numbers first (true ∷ marks) = first ∷ marked_numbers (first + 1) marks
marked_numbers first (false ∷ marks) = marked_numbers (first + 1) marks

-- whether each bit of a number is set, the lowest first
abbrev pub marks_of : ℕ → ℕ → List Bool
marks_of zero bits = []
marks_of (suc count) bits = (bits % 2 == 1) ∷ marks_of count (bits / 2)

-- the marks of one word: 64 of them
unfoldable pub marks_of_word : ℕ → List Bool
marks_of_word word = marks_of 64 word

-- the marks of words, those of the first word first
abbrev pub marks_in : List ℕ → List Bool
marks_in [] = []
marks_in (word ∷ words) = marks_of_word word ++ marks_in words

-- the places that are marked
unfoldable pub numbers_of : List ℕ → List ℕ
numbers_of words = marked_numbers 0 (marks_in words)

-- there are words for all servers of the tree, and none but those of servers are marked
pub record AreWordsOf (levels : ℕ) (words : List ℕ) : Type 0 where
  pub room : 2 ^ levels ≤ 64 * length words
  pub short : 64 * length words ≤ 1024
  pub servers : All (IsServer levels) (numbers_of words)

-- the numbers that are left to walk: those of a word, whose first place has a number, and of the words behind it
unfoldable pub numbers_left : ℕ → ℕ → List ℕ → List ℕ
numbers_left base word rest = marked_numbers base (marks_in (word ∷ rest))

-- the same, of servers of a tree
pub record AreLeft (levels base word : ℕ) (rest : List ℕ) : Type 0 where
  pub short : base + 64 * (1 + length rest) ≤ 1024
  pub servers : All (IsServer levels) (numbers_left base word rest)
