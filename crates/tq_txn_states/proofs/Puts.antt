-- A value put at its place, and one changed in place.
use Rattle.std.proofs.Common.{◌≡◌, ℕ, ◌+◌, ◌<◌, ◌≤◌, suc, Bool, true, false, not, ◌||◌, ◌&&◌, cond, List, [], ◌∷◌, ◌++◌, Option, Some, None, IsSome, length, set, get_or, ltb, refl, sym, ap, ◌∙◌, arith, inl, inr}
use Rattle.std.proofs.{Math.Bool.{or_assoc, or_comm}, lemmas.List.Sums.prefix_len-le-length}
use Rattle.std.proofs.lemmas.Bool.{cases_lt, lt-ltb, le-ltb, and_parts, and_from, false≢true}
use Rattle.std.specs.{List.{list_all, list_any, insert, prefix_len, position, find}, Option.unwrap_or}
use Rattle.tq_txn_states.specs.Open.{place_before, put, with_first_changed}

unwrapped : (place len : ℕ) → place ≤ len → unwrap_or (cond (ltb place len) (Some place) None) len ≡ place
unwrapped place len within =
    elim (cases_lt place len) [
      | inl less ↦ rw (lt-ltb place len less) refl
      | inr more ↦ rw (le-ltb place len more) (omega arith)
    ]

one_more : {X : Type 0} (first x : X) (rest : List X) (place : ℕ) → insert (first ∷ rest) (1 + place) x ≡ first ∷ insert rest place x
one_more first x rest place = let e : 1 + place ≡ suc place = omega arith in rw e refl

module _ {X : Type 0} (later : X → Bool) where
  insert_len : (x : X) (xs : List X) → insert xs (prefix_len (λ y. not (later y)) xs) x ≡ put later x xs
  insert_len x [] = refl
  insert_len x (first ∷ rest) =
      elim (later first) as (λ b. insert (first ∷ rest) (cond (not b) (1 + prefix_len (λ y. not (later y)) rest) 0) x ≡ cond b (x ∷ first ∷ rest) (first ∷ put later x rest)) [
        | true ↦ refl
        | false ↦ one_more first x rest (prefix_len (λ y. not (later y)) rest) ∙ ap (λ ys. first ∷ ys) (insert_len x rest)
      ]

  -- a value inserted before the first that is later
  pub insert_before : (x : X) (xs : List X) → insert xs (place_before later xs) x ≡ put later x xs
  insert_before x xs =
      ap (λ place. insert xs place x) (unwrapped (prefix_len (λ y. not (later y)) xs) (length xs) (prefix_len-le-length (λ y. not (later y)) xs))
      ∙ insert_len x xs

  pub list_all-put : (p : X → Bool) (x : X) (xs : List X) → p x ≡ true → list_all p xs ≡ true → list_all p (put later x xs) ≡ true
  list_all-put p x [] here all = and_from (p x) true here refl
  list_all-put p x (first ∷ rest) here all =
      let parts = and_parts (p first) (list_all p rest) all in
      elim (later first) as (λ b. list_all p (cond b (x ∷ first ∷ rest) (first ∷ put later x rest)) ≡ true) [
        | true ↦ and_from (p x) (p first && list_all p rest) here all
        | false ↦ and_from (p first) (list_all p (put later x rest)) parts.0 (list_all-put p x rest here parts.1)
      ]

  swapped : (a b c : Bool) → (a || (b || c)) ≡ (b || (a || c))
  swapped a b c = sym (or_assoc a b c) ∙ ap (λ x. x || c) (or_comm a b) ∙ or_assoc b a c

  pub list_any-put : (p : X → Bool) (x : X) (xs : List X) → list_any p (put later x xs) ≡ (p x || list_any p xs)
  list_any-put p x [] = refl
  list_any-put p x (first ∷ rest) =
      elim (later first) as (λ b. list_any p (cond b (x ∷ first ∷ rest) (first ∷ put later x rest)) ≡ (p x || (p first || list_any p rest))) [
        | true ↦ refl
        | false ↦ ap (λ b. p first || b) (list_any-put p x rest) ∙ swapped (p first) (p x) (list_any p rest)
      ]

  -- where none is later, the value goes to the end
  pub put-last : (x : X) (xs : List X) → list_all (λ y. not (later y)) xs ≡ true → put later x xs ≡ xs ++ x ∷ []
  put-last x [] none = refl
  put-last x (first ∷ rest) none =
      let parts = and_parts (not (later first)) (list_all (λ y. not (later y)) rest) none in
      elim (later first) as (λ b. not b ≡ true → cond b (x ∷ first ∷ rest) (first ∷ put later x rest) ≡ first ∷ (rest ++ x ∷ [])) [
        | true ↦ λ h. absurd (false≢true h)
        | false ↦ λ h. ap (λ ys. first ∷ ys) (put-last x rest parts.1)
      ] parts.0

abbrev no_place : Option ℕ
no_place = None

module _ {X : Type 0} (test : X → Bool) (change : X → X) where
  set_more : (first : X) (rest : List X) (place : ℕ) (y d : X) → y ≡ change (get_or (first ∷ rest) (1 + place) d) → set (first ∷ rest) (1 + place) y ≡ first ∷ set rest place (change (get_or rest place d))
  set_more first rest place y d is =
      let e : 1 + place ≡ suc place = omega arith in
      rw (is, e) refl

  set_len : (xs : List X) (d : X) → prefix_len (λ y. not (test y)) xs < length xs → set xs (prefix_len (λ y. not (test y)) xs) (change (get_or xs (prefix_len (λ y. not (test y)) xs) d)) ≡ with_first_changed test change xs
  set_len [] d within = absurd (omega arith)
  set_len (first ∷ rest) d within =
      elim (test first) as (λ b. cond (not b) (1 + prefix_len (λ y. not (test y)) rest) 0 < suc (length rest) → set (first ∷ rest) (cond (not b) (1 + prefix_len (λ y. not (test y)) rest) 0) (change (get_or (first ∷ rest) (cond (not b) (1 + prefix_len (λ y. not (test y)) rest) 0) d)) ≡ cond b (change first ∷ rest) (first ∷ with_first_changed test change rest)) [
        | true ↦ λ _. refl
        | false ↦ λ less. set_more first rest (prefix_len (λ y. not (test y)) rest) _ d refl ∙ ap (λ ys. first ∷ ys) (set_len rest d (omega arith))
      ] within

  found_place : (xs : List X) (place : ℕ) → position test xs ≡ Some place → (place ≡ prefix_len (λ y. not (test y)) xs) × (place < length xs)
  found_place xs place is =
      elim (cases_lt (prefix_len (λ y. not (test y)) xs) (length xs)) [
        | inl less ↦
            let at : Some (prefix_len (λ y. not (test y)) xs) ≡ Some place = sym (rw (lt-ltb (prefix_len (λ y. not (test y)) xs) (length xs) less) refl) ∙ is in
            let same : prefix_len (λ y. not (test y)) xs ≡ place = cc in
            (sym same, rw (sym same) less)
        | inr more ↦
            let at : no_place ≡ Some place = sym (rw (le-ltb (prefix_len (λ y. not (test y)) xs) (length xs) more) refl) ∙ is in
            cc
      ]

  -- the value at the place that was found, changed
  pub set-changed : (xs : List X) (place : ℕ) (d : X) → position test xs ≡ Some place → set xs place (change (get_or xs place d)) ≡ with_first_changed test change xs
  set-changed xs place d is =
      let at = found_place xs place is in
      rw at.0 (set_len xs d (rw (← at.0) at.1))

  pub list_all-changed : (p : X → Bool) (xs : List X) → ((x : X) → test x ≡ true → p x ≡ true → p (change x) ≡ true) → list_all p xs ≡ true → list_all p (with_first_changed test change xs) ≡ true
  list_all-changed p [] stays all = refl
  list_all-changed p (first ∷ rest) stays all =
      let parts = and_parts (p first) (list_all p rest) all in
      elim (test first) as (λ b. test first ≡ b → list_all p (cond b (change first ∷ rest) (first ∷ with_first_changed test change rest)) ≡ true) [
        | true ↦ λ is. and_from (p (change first)) (list_all p rest) (stays first is parts.0) parts.1
        | false ↦ λ is. and_from (p first) (list_all p (with_first_changed test change rest)) parts.0 (list_all-changed p rest stays parts.1)
      ] refl

  pub list_any-changed : (p : X → Bool) (xs : List X) → ((x : X) → p (change x) ≡ p x) → list_any p (with_first_changed test change xs) ≡ list_any p xs
  list_any-changed p [] same = refl
  list_any-changed p (first ∷ rest) same =
      elim (test first) as (λ b. list_any p (cond b (change first ∷ rest) (first ∷ with_first_changed test change rest)) ≡ (p first || list_any p rest)) [
        | true ↦ ap (λ b. b || list_any p rest) (same first)
        | false ↦ ap (λ b. p first || b) (list_any-changed p rest same)
      ]

  -- what is found has a place
  passed : (xs : List X) → IsSome (find test xs) → prefix_len (λ y. not (test y)) xs < length xs
  passed [] some = cc
  passed (first ∷ rest) some =
      elim (test first) as (λ b. IsSome (cond b (Some first) (find test rest)) → cond (not b) (1 + prefix_len (λ y. not (test y)) rest) 0 < suc (length rest)) [
        | true ↦ λ _. omega arith
        | false ↦ λ more. let less = passed rest more in omega arith
      ] some

  pub found-placed : (xs : List X) → IsSome (find test xs) → position test xs ≡ None → ⊥
  found-placed xs some none =
      let at : Some (prefix_len (λ y. not (test y)) xs) ≡ no_place = sym (rw (lt-ltb (prefix_len (λ y. not (test y)) xs) (length xs) (passed xs some)) refl) ∙ none in
      cc
