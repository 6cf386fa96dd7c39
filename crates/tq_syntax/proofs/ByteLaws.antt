-- The lines of the bytes that are left, behind those of the line that goes on.
use Rattle.std.proofs.Common.{◌≡◌, ◌∙◌, ◌++◌, ◌+◌, ◌-◌, ◌<◌, ◌≤◌, ◌==◌, ℕ, suc, Bool, true, false, cond, List, [], ◌∷◌, length, take, drop, get_or, map, refl, sym, ap, arith, inl, inr, append_assoc, drop-cons}
use Rattle.std.proofs.lemmas.{List.{append-nil, drop_all, get_or-drop, length-drop, take_all}, Bool.{cases_lt, ne_eqb}}
use Rattle.std.{proofs.{lemmas.List.Splits.length-slice_split, Math.Seq.take-suc}, specs.List.{onto_first, slice_range}}
use Rattle.tq_syntax.specs.{Scripts.{last_part, parts_of, whole_parts, last_by}, Word.without_return}
use Rattle.tq_syntax.specs.{ClientLine.client_line_of, declared.client.ClientLine.{ClientLine, TheVariants.Bad}}

-- the first part goes on from what came before it
abbrev onto_parts : List ℕ → List (List ℕ) → List (List ℕ)
onto_parts line [] = []
onto_parts line (part ∷ parts) = (line ++ part) ∷ parts

abbrev lines_from : Bool → List (List ℕ) → List ClientLine
lines_from is_over parts = map client_line_of (whole_parts parts) ++ last_by is_over (last_part parts)

-- the lines that are left: that of which these bytes came, and those behind it
abbrev pub lines_left : Bool → List ℕ → List ℕ → List ClientLine
lines_left is_over line bytes = lines_from is_over (onto_parts line (parts_of bytes))

parts_some : (bytes : List ℕ) → 0 < length (parts_of bytes)
parts_some bytes = let count = length-slice_split (λ byte. byte == 10) bytes in omega (arith, count)

ends_by : (is_over : Bool) (line : List ℕ) (parts : List (List ℕ)) → 0 < length parts → lines_from is_over (onto_parts line ([] ∷ parts)) ≡ client_line_of (without_return line) ∷ lines_from is_over (onto_parts [] parts)
ends_by is_over line [] some = absurd (omega (arith, some))
ends_by is_over line (part ∷ parts) some =
    ap (λ whole. client_line_of (without_return whole) ∷ lines_from is_over (part ∷ parts)) (append-nil line)

goes_by : (is_over : Bool) (line : List ℕ) (byte : ℕ) (parts : List (List ℕ)) → 0 < length parts → lines_from is_over (onto_parts line (onto_first byte parts)) ≡ lines_from is_over (onto_parts (line ++ byte ∷ []) parts)
goes_by is_over line byte [] some = absurd (omega (arith, some))
goes_by is_over line byte (part ∷ parts) some = ap (λ first. lines_from is_over (first ∷ parts)) (sym (append_assoc line (byte ∷ []) part))

-- nothing is left but the line
pub last_left : (is_over : Bool) (line : List ℕ) → lines_left is_over line [] ≡ last_by is_over line
last_left is_over line = ap (last_by is_over) (append-nil line)

range-more : (bytes : List ℕ) (start place : ℕ) → start ≤ place → place < length bytes → slice_range bytes start (place + 1) ≡ slice_range bytes start place ++ get_or bytes place 0 ∷ []
range-more bytes start place within less =
    let count : (place + 1) - start ≡ suc (place - start) = omega (arith, within) in
    let place_is : start + (place - start) ≡ place = omega (arith, within) in
    let size = length-drop start bytes in
    let inside : place - start < length (drop start bytes) = omega (arith, within, less, size) in
    ap (λ n. take n (drop start bytes)) count
    ∙ take-suc (drop start bytes) (place - start) 0 inside
    ∙ ap (λ byte. take (place - start) (drop start bytes) ++ byte ∷ []) (get_or-drop start bytes (place - start) 0 ∙ ap (λ n. get_or bytes n 0) place_is)

pub range-none : (bytes : List ℕ) (place : ℕ) → slice_range bytes place place ≡ []
range-none bytes place =
    let none : place - place ≡ 0 = omega arith in
    ap (λ n. take n (drop place bytes)) none

rest-cons : (bytes : List ℕ) (place : ℕ) → place < length bytes → drop place bytes ≡ get_or bytes place 0 ∷ drop (place + 1) bytes
rest-cons bytes place less =
    let one : place + 1 ≡ suc place = omega arith in
    rw one (drop-cons bytes place 0 less)

module _ (is_over : Bool) (bytes : List ℕ) (start place : ℕ) (within : start ≤ place) (less : place < length bytes) where
  -- a line feed ends the line
  pub line_ends : get_or bytes place 0 ≡ 10 → lines_left is_over (slice_range bytes start place) (drop place bytes) ≡ client_line_of (without_return (slice_range bytes start place)) ∷ lines_left is_over (slice_range bytes (place + 1) (place + 1)) (drop (place + 1) bytes)
  line_ends is =
      let line = slice_range bytes start place in
      let rest = drop (place + 1) bytes in
      ap (lines_left is_over line) (rest-cons bytes place less)
      ∙ ap (λ byte. lines_left is_over line (byte ∷ rest)) is
      ∙ ends_by is_over line (parts_of rest) (parts_some rest)
      ∙ ap (λ none. client_line_of (without_return line) ∷ lines_left is_over none rest) (sym (range-none bytes (place + 1)))

  -- any other byte belongs to it
  pub line_goes_on : (get_or bytes place 0 ≡ 10 → ⊥) → lines_left is_over (slice_range bytes start place) (drop place bytes) ≡ lines_left is_over (slice_range bytes start (place + 1)) (drop (place + 1) bytes)
  line_goes_on other =
      let line = slice_range bytes start place in
      let rest = drop (place + 1) bytes in
      let byte = get_or bytes place 0 in
      ap (lines_left is_over line) (rest-cons bytes place less)
      ∙ ap (λ (is : Bool). lines_from is_over (onto_parts line (cond is ([] ∷ parts_of rest) (onto_first byte (parts_of rest))))) (ne_eqb byte 10 other)
      ∙ goes_by is_over line byte (parts_of rest) (parts_some rest)
      ∙ ap (λ more. lines_left is_over more rest) (sym (range-more bytes start place within less))

-- ---- at the end of the bytes

module _ (bytes : List ℕ) (start place : ℕ) (all : length bytes ≤ place) where
  pub line_left : slice_range bytes start place ≡ drop start bytes
  line_left = let size = length-drop start bytes in take_all (place - start) (drop start bytes) (omega (arith, size, all))

  ends_left : (is_over : Bool) → lines_left is_over (slice_range bytes start place) (drop place bytes) ≡ last_by is_over (drop start bytes)
  ends_left is_over =
      ap (lines_left is_over (slice_range bytes start place)) (drop_all place bytes all) ∙ last_left is_over (slice_range bytes start place) ∙ ap (last_by is_over) line_left

  -- the text goes on over the limit
  pub over_left : lines_left true (slice_range bytes start place) (drop place bytes) ≡ Bad ∷ []
  over_left = ends_left true

  -- no byte is left
  pub none_left : length bytes ≤ start → lines_left false (slice_range bytes start place) (drop place bytes) ≡ []
  none_left ended = ends_left false ∙ ap (last_by false) (drop_all start bytes ended)

  last_some : (line : List ℕ) → 0 < length line → last_by false line ≡ client_line_of line ∷ []
  last_some [] some = absurd (omega (arith, some))
  last_some (byte ∷ line) some = refl

  -- a last line is left
  pub some_left : start < length bytes → lines_left false (slice_range bytes start place) (drop place bytes) ≡ client_line_of (drop start bytes) ∷ []
  some_left less = let size = length-drop start bytes in ends_left false ∙ last_some (drop start bytes) (omega (arith, size, less))

-- the bytes within the limit
pub front_bytes : (bytes : List ℕ) (count : ℕ) → count ≤ 16777216 → (count < length bytes → 16777216 ≤ count) → take count bytes ≡ take 16777216 bytes
front_bytes bytes count few full = elim (cases_lt count (length bytes)) [
  | inl less ↦
      let size : count ≡ 16777216 = omega (arith, few, full less) in
      ap (λ n. take n bytes) size
  | inr all ↦ take_all count bytes all ∙ sym (take_all 16777216 bytes (omega (arith, few, all)))
]
