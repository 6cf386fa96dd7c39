-- The marks of the entries that are named.
use Rattle.std.proofs.Common.{◌≡◌, inl, inr, ◌<◌, ◌≤◌, ◌+◌, ◌-◌, ◌==◌, ◌&&◌, ◌||◌, ℕ, zero, suc, Bool, true, false, not, cond, List, [], ◌∷◌, ◌++◌, length, get_or, set, take, drop, refl, sym, ap, subst, ◌∙◌, arith}
use Rattle.std.proofs.{Math.Path.transport, lemmas.List.Elements.{All-get_or, All-from_get_or}}
use Rattle.std.proofs.lemmas.Bool.{cases_eq, cases_Bool, and_parts, and_from, and_left, and_right, or_left, or_right, or_cases, eqb-true, eq-eqb, ne_eqb, false_from_ne_true, false≢true}
use Rattle.std.proofs.lemmas.List.{get_or-set_same, get_or-set_other, get_or_default, length-set, take_more, take_all}
use Rattle.std.proofs.lemmas.List.{Folds.list_any-append, Sums.{count_by_more_yes, count_by_more_no, sum_by-cons}}
use mathlib.Core.Bool.{not-not, or-false}
use Rattle.std.specs.{Prelude.count_by, List.{All, sum_by}}
use Rattle.tq_shape.specs.{Journal.Has, declared.part.Part.Part}
use Rattle.tq_merge.specs.{declared.claimed.EntryName.EntryName, Order.same_part}
use Rattle.tq_merge.specs.Told.{place_of, part_at, is_named, unnamed_count, unnamed_from, AreDifferent, IsTwice, IsWithin}
use Rattle.tq_merge.proofs.{LastNumbers.{splits, has_push, same_place, counted}, Places.{same_part-is, same_part-refl}}

pub place-part_at : (place : ℕ) → place_of (part_at place) ≡ place
place-part_at zero = refl
place-part_at (suc zero) = refl
place-part_at (suc (suc n)) = omega arith

-- ---- whether a name is among the names

-- whether the name is that one
abbrev pub is_it : Part → ℕ → EntryName → Bool
is_it part number name = same_part name.part part && name.number == number

pub has_named : (names : List EntryName) (name : EntryName) → Has names name → is_named names name.part name.number ≡ true
has_named [] name has = absurd has
has_named (n ∷ names) name (inl same) =
    or_left (is_it name.part name.number n) (is_named names name.part name.number)
    (subst (λ (m : EntryName). is_it name.part name.number m ≡ true) (sym same) (and_from (same_part name.part name.part) (name.number == name.number) (same_part-refl name.part) (eq-eqb name.number name.number refl)))
has_named (n ∷ names) name (inr has) = or_right (is_it name.part name.number n) (is_named names name.part name.number) (has_named names name has)

pub named_has : (names : List EntryName) (part : Part) (number : ℕ) → is_named names part number ≡ true → Has names (record { part = part; number = number })
named_has [] part number named = absurd (false≢true named)
named_has (n ∷ names) part number named =
    elim (or_cases (is_it part number n) (is_named names part number) named) [
      | inl here ↦
          let both = and_parts (same_part n.part part) (n.number == number) here in
          let at = same_part-is n.part part both.0 in
          let numbered = eqb-true n.number number both.1 in
          inl (λ i. record { part = at i; number = numbered i })
      | inr rest ↦ inr (named_has names part number rest)
    ]

-- one name more
named_more : (seen : List EntryName) (name : EntryName) (part : Part) (number : ℕ) → is_named (seen ++ name ∷ []) part number ≡ (is_named seen part number || (is_it part number name || false))
named_more seen name part number = list_any-append (is_it part number) seen (name ∷ [])

named_by_it : (seen : List EntryName) (name : EntryName) (part : Part) (number : ℕ) → name.part ≡ part → name.number ≡ number → is_named (seen ++ name ∷ []) part number ≡ true
named_by_it seen name part number at is =
    let here : is_it part number name ≡ true = and_from (same_part name.part part) (name.number == number) (subst (λ (p : Part). same_part name.part p ≡ true) at (same_part-refl name.part)) (eq-eqb name.number number is) in
    named_more seen name part number ∙ or_right (is_named seen part number) (is_it part number name || false) (or_left (is_it part number name) false here)

not_by_it : (seen : List EntryName) (name : EntryName) (part : Part) (number : ℕ) → is_it part number name ≡ false → is_named (seen ++ name ∷ []) part number ≡ is_named seen part number
not_by_it seen name part number other = named_more seen name part number ∙ ap (λ b. is_named seen part number || (b || false)) other ∙ or-false (is_named seen part number)

other_number : (name : EntryName) (part : Part) (number : ℕ) → (name.number ≡ number → ⊥) → is_it part number name ≡ false
other_number name part number other = and_right (same_part name.part part) (name.number == number) (ne_eqb name.number number other)

other_part : (name : EntryName) (part : Part) (number : ℕ) → (place_of part ≡ place_of name.part → ⊥) → is_it part number name ≡ false
other_part name part number other =
    and_left (same_part name.part part) (name.number == number)
    (false_from_ne_true (same_part name.part part) (λ same. other (ap place_of (sym (same_part-is name.part part same)))))

-- ---- the marks of all journals

pub record KeepsMarks (counts : List ℕ) (marks : List (List Bool)) (seen : List EntryName) : Type 0 where
  pub one_each : length marks ≡ length counts
  pub so_many : (place : ℕ) → length (get_or marks place []) ≡ get_or counts place 0
  pub marked : (part : Part) (index : ℕ) → index < get_or counts (place_of part) 0 → get_or (get_or marks (place_of part) []) index false ≡ is_named seen part (suc index)

module _ (counts : List ℕ) (marks : List (List Bool)) (seen : List EntryName) (keeps : KeepsMarks counts marks seen) (name : EntryName) (good : IsWithin counts name) where
  abbrev pub here : List Bool
  here = get_or marks (place_of name.part) []

  pub stands : place_of name.part < length counts
  stands = counted counts (place_of name.part) name.number good.0 good.1

  pub is_short : name.number ≤ length here
  is_short = (let many = keeps.so_many (place_of name.part) in omega (arith, many, good.1))

  mark : get_or here (name.number - 1) false ≡ is_named seen name.part name.number
  mark =
      keeps.marked name.part (name.number - 1) (omega (arith, good.0, good.1))
      ∙ ap (λ (n : ℕ). is_named seen name.part n) (let up : suc (name.number - 1) ≡ name.number = omega (arith, good.0) in up)

  pub is_new : get_or here (name.number - 1) false ≡ false → Has seen name → ⊥
  is_new unmarked has = false≢true (sym unmarked ∙ mark ∙ has_named seen name has)

  pub is_twice : (rest : List EntryName) → get_or here (name.number - 1) false ≡ true → AreDifferent seen → IsTwice (seen ++ name ∷ rest) name
  is_twice rest marked different = record { before = seen; after = rest; names_are = refl; is_before = named_has seen name.part name.number (sym mark ∙ marked); first = different }

  abbrev pub marked_new : List (List Bool)
  marked_new = set marks (place_of name.part) (set here (name.number - 1) true)

  at_it : get_or marked_new (place_of name.part) [] ≡ set here (name.number - 1) true
  at_it = (let stand = stands in let many = keeps.one_each in get_or-set_same marks (place_of name.part) (set here (name.number - 1) true) [] (omega (arith, stand, many)))

  many_more : (place : ℕ) → length (get_or marked_new place []) ≡ get_or counts place 0
  many_more place =
      elim (cases_eq place (place_of name.part)) [
        | inl same ↦
            ap (λ (k : ℕ). length (get_or marked_new k [])) same ∙ ap length at_it ∙ length-set here (name.number - 1) true ∙ keeps.so_many (place_of name.part)
            ∙ ap (λ (k : ℕ). get_or counts k 0) (sym same)
        | inr other ↦ ap length (get_or-set_other marks (place_of name.part) place (set here (name.number - 1) true) [] other) ∙ keeps.so_many place
      ]

  marked_more : (part : Part) (index : ℕ) → index < get_or counts (place_of part) 0 → get_or (get_or marked_new (place_of part) []) index false ≡ is_named (seen ++ name ∷ []) part (suc index)
  marked_more part index within =
      elim (cases_eq (place_of part) (place_of name.part)) [
        | inl same ↦
            let at : get_or marked_new (place_of part) [] ≡ set here (name.number - 1) true = ap (λ (k : ℕ). get_or marked_new k []) same ∙ at_it in
            let was : get_or marks (place_of part) [] ≡ here = ap (λ (k : ℕ). get_or marks k []) same in
            elim (cases_eq index (name.number - 1)) [
              | inl it ↦
                  let short = is_short in
                  let set_here : get_or (set here (name.number - 1) true) index false ≡ true =
                  ap (λ (k : ℕ). get_or (set here (name.number - 1) true) k false) it ∙ get_or-set_same here (name.number - 1) true false (omega (arith, short, good.0)) in
                  ap (λ (l : List Bool). get_or l index false) at ∙ set_here
                  ∙ sym (named_by_it seen name part (suc index) (same_place name.part part (sym same)) (omega (arith, it, good.0)))
              | inr different ↦
                  ap (λ (l : List Bool). get_or l index false) at ∙ get_or-set_other here (name.number - 1) index true false different
                  ∙ ap (λ (l : List Bool). get_or l index false) (sym was) ∙ keeps.marked part index within
                  ∙ sym (not_by_it seen name part (suc index) (other_number name part (suc index) (λ (is : name.number ≡ suc index). different (omega (arith, is)))))
            ]
        | inr other ↦
            ap (λ (l : List Bool). get_or l index false) (get_or-set_other marks (place_of name.part) (place_of part) (set here (name.number - 1) true) [] other)
            ∙ keeps.marked part index within ∙ sym (not_by_it seen name part (suc index) (other_part name part (suc index) other))
      ]

  pub keeps_more : KeepsMarks counts marked_new (seen ++ name ∷ [])
  keeps_more =
      record {
        one_each = length-set marks (place_of name.part) (set here (name.number - 1) true) ∙ keeps.one_each;
        so_many = many_more;
        marked = marked_more;
      }

pub different_more : (seen : List EntryName) (name : EntryName) → AreDifferent seen → (Has seen name → ⊥) → AreDifferent (seen ++ name ∷ [])
different_more [] name different fresh = ((λ none. none), tt)
different_more (n ∷ seen) name different fresh = (
  (λ has. elim (has_push seen name n has) [ inl old ↦ different.0 old | inr same ↦ fresh (inl (sym same)) ]),
  different_more seen name different.1 (λ has. fresh (inr has)),
)

-- ---- how many are not named

unnamed_so_far : (names : List EntryName) (part : Part) (marks : List Bool) (n : ℕ) → n ≤ length marks
    → ((index : ℕ) → index < length marks → get_or marks index false ≡ is_named names part (suc index)) → count_by not (take n marks) ≡ unnamed_count names part n
unnamed_so_far names part marks zero within marked = refl
unnamed_so_far names part marks (suc n) within marked =
    let before = unnamed_so_far names part marks n (omega arith) marked in
    let there = marked n (omega arith) in
    let at_suc : count_by not (take (suc n) marks) ≡ count_by not (take (n + 1) marks) = ap (λ (k : ℕ). count_by not (take k marks)) (let up : suc n ≡ n + 1 = omega arith in up) in
    elim (cases_Bool (is_named names part (suc n))) [
      | inl named ↦
          at_suc ∙ count_by_more_no not marks n false (omega arith) (ap not (there ∙ named)) ∙ before ∙ sym (ap (λ (b : Bool). unnamed_count names part n + cond b 0 1) named ∙ (let none : unnamed_count names part n + 0 ≡ unnamed_count names part n = omega arith in none))
      | inr not_named ↦
          at_suc ∙ count_by_more_yes not marks n false (omega arith) (ap not (there ∙ not_named)) ∙ ap (λ (k : ℕ). k + 1) before ∙ sym (ap (λ (b : Bool). unnamed_count names part n + cond b 0 1) not_named)
    ]

unnamed_at : (names : List EntryName) (part : Part) (marks : List Bool) (count : ℕ) → length marks ≡ count
    → ((index : ℕ) → index < count → get_or marks index false ≡ is_named names part (suc index)) → count_by not marks ≡ unnamed_count names part count
unnamed_at names part marks count many marked =
    ap (count_by not) (sym (take_all count marks (omega (arith, many))))
    ∙ unnamed_so_far names part marks count (omega (arith, many)) (λ index within. marked index (omega (arith, many, within)))

unnamed_sum : (names : List EntryName) (place : ℕ) (counts : List ℕ) (marks : List (List Bool)) → length marks ≡ length counts
    → ((k : ℕ) → count_by not (get_or marks k []) ≡ unnamed_count names (part_at (place + k)) (get_or counts k 0)) → sum_by (count_by not) marks ≡ unnamed_from names place counts
unnamed_sum names place [] [] many each = refl
unnamed_sum names place [] (m ∷ marks) many each = absurd (omega (arith, many))
unnamed_sum names place (c ∷ counts) [] many each = absurd (omega (arith, many))
unnamed_sum names place (c ∷ counts) (m ∷ marks) many each =
    let first : count_by not m ≡ unnamed_count names (part_at place) c = each 0 ∙ ap (λ (k : ℕ). unnamed_count names (part_at k) c) (let none : place + 0 ≡ place = omega arith in none) in
    let rest = unnamed_sum names (suc place) counts marks (omega (arith, many)) (λ k. each (suc k) ∙ ap (λ (n : ℕ). unnamed_count names (part_at n) (get_or counts k 0)) (let up : place + suc k ≡ suc place + k = omega arith in up)) in
    sum_by-cons (count_by not) m marks ∙ (λ i. first i + rest i)

pub unnamed_is : (names : List EntryName) (counts : List ℕ) (marks : List (List Bool)) → KeepsMarks counts marks names → sum_by (count_by not) marks ≡ unnamed_from names 0 counts
unnamed_is names counts marks keeps =
    unnamed_sum names 0 counts marks keeps.one_each
    (λ k.
    let at = place-part_at k in
    let none : 0 + k ≡ k = omega arith in
    subst (λ (n : ℕ). count_by not (get_or marks k []) ≡ unnamed_count names (part_at n) (get_or counts k 0)) (sym none)
    (unnamed_at names (part_at k) (get_or marks k []) (get_or counts k 0) (keeps.so_many k)
    (λ index within.
    ap (λ (n : ℕ). get_or (get_or marks n []) index false) (sym at) ∙ keeps.marked (part_at k) index (subst (λ (n : ℕ). index < get_or counts n 0) (sym at) within))))

-- ---- the next name of a list

module _ (counts : List ℕ) (marks : List (List Bool)) (names : List EntryName) (i : ℕ) (d : EntryName) (place : ℕ) (read after : List Bool) (fresh : Bool)
    (keeps : KeepsMarks counts marks (take i names)) (within : i < length names) (good : All (IsWithin counts) names) (is_place : place ≡ place_of (get_or names i d).part)
    (is_read : read ≡ get_or marks place read) (is_fresh : fresh ≡ not (get_or read ((get_or names i d).number - 1) false)) (is_after : after ≡ set read ((get_or names i d).number - 1) true) where
  good_here : IsWithin counts (get_or names i d)
  good_here = All-get_or (IsWithin counts) names i d within good

  reads : read ≡ get_or marks (place_of (get_or names i d).part) []
  reads =
      let stand = stands counts marks (take i names) keeps (get_or names i d) good_here in
      let many = keeps.one_each in
      is_read ∙ get_or_default marks place read [] (omega (arith, stand, many, is_place)) ∙ ap (λ (k : ℕ). get_or marks k []) is_place

  marks_there : not fresh ≡ get_or (get_or marks (place_of (get_or names i d).part) []) ((get_or names i d).number - 1) false
  marks_there = ap not is_fresh ∙ not-not (get_or read ((get_or names i d).number - 1) false) ∙ ap (λ (l : List Bool). get_or l ((get_or names i d).number - 1) false) reads

  pub next_twice : fresh ≡ false → AreDifferent (take i names) → IsTwice names (get_or names i d)
  next_twice stale different =
      subst (λ (l : List EntryName). IsTwice l (get_or names i d)) (splits names i d within)
      (is_twice counts marks (take i names) keeps (get_or names i d) good_here (drop (i + 1) names) (sym marks_there ∙ ap not stale) different)

  pub next_once : fresh ≡ true → AreDifferent (take i names) → KeepsMarks counts (set marks place after) (take (i + 1) names) × AreDifferent (take (i + 1) names)
  next_once first different =
      let marked : List Bool = set (get_or marks (place_of (get_or names i d).part) []) ((get_or names i d).number - 1) true in
      let after_is : after ≡ marked = is_after ∙ ap (λ (l : List Bool). set l ((get_or names i d).number - 1) true) reads in
      let names_are = take_more names i d within in (
        transport (λ j. KeepsMarks counts (set marks (sym is_place j) (sym after_is j)) (sym names_are j)) (keeps_more counts marks (take i names) keeps (get_or names i d) good_here),
        subst AreDifferent (sym names_are)
            (different_more (take i names) (get_or names i d) different (is_new counts marks (take i names) keeps (get_or names i d) good_here (sym marks_there ∙ ap not first))),
      )

pub all_short : (counts : List ℕ) (marks : List (List Bool)) (names : List EntryName) → KeepsMarks counts marks names → All (λ (count : ℕ). count ≤ 1000000) counts
    → All (λ (named : List Bool). length named ≤ 1000000) marks
all_short counts marks names keeps short =
    All-from_get_or (λ (named : List Bool). length named ≤ 1000000) marks []
    (λ k within.
    let many = keeps.so_many k in
    let one_each = keeps.one_each in
    let most = All-get_or (λ (count : ℕ). count ≤ 1000000) counts k 0 (omega (arith, one_each, within)) short in
    omega (arith, many, most))
