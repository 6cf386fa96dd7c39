-- Members of lists with one more, and where parts stand. The last numbers of all parts.
use Rattle.std.proofs.Common.{◌≡◌, ◌⊎◌, inl, inr, ◌<◌, ◌≤◌, ℕ, zero, suc, List, [], ◌∷◌, ◌++◌, length, get_or, refl, ap, arith, ◌+◌, set, take, drop, sym, subst, ◌∙◌, append_assoc, append-nil}
use Rattle.std.{proofs.{Math.Path.transport, lemmas.{Bool.cases_eq, List.Elements.All-get_or}}, specs.List.All}
use Rattle.std.proofs.lemmas.List.{get_or-set_same, get_or-set_other, get_or_default, take-append-drop, drop_more, take_more}
use Rattle.tq_shape.specs.{Journal.Has, declared.part.Part.Part, declared.part.Part.TheVariants.{Server, Desk, View}}
use Rattle.tq_shape.proofs.Places.{Has-append, append-Has}
use Rattle.tq_merge.specs.Told.{place_of, IsAbove, RiseAfter, IsFallen, IsWithin}
use Rattle.tq_merge.specs.declared.claimed.EntryName.{EntryName}

pub has_push : {A : Type 0} (xs : List A) (y x : A) → Has (xs ++ y ∷ []) x → Has xs x ⊎ (y ≡ x)
has_push xs y x has = elim (Has-append xs (y ∷ []) x has) [ inl old ↦ inl old | inr (inl same) ↦ inr same | inr (inr none) ↦ absurd none ]

pub same_place : (p q : Part) → place_of p ≡ place_of q → p ≡ q
same_place (Server a) (Server b) e = (let same : a ≡ b = omega (arith, e) in ap Server same)
same_place Desk Desk e = refl
same_place View View e = refl
same_place p q e = absurd (omega (arith, e))

-- a number of a list that is not 0 stands in it
pub counted : (counts : List ℕ) (place n : ℕ) → 1 ≤ n → n ≤ get_or counts place 0 → place < length counts
counted [] place n least most = absurd (omega arith)
counted (c ∷ counts) zero n least most = omega arith
counted (c ∷ counts) (suc place) n least most = (let rest = counted counts place n least most in omega (arith, rest))

-- ---- last numbers

pub rise_more : (before names : List EntryName) (name : EntryName) → RiseAfter before names → IsAbove (before ++ names) name → RiseAfter before (names ++ name ∷ [])
rise_more before [] name rise above = (subst (λ (l : List EntryName). IsAbove l name) (append-nil before) above, tt)
rise_more before (n ∷ names) name rise above =
    (rise.0, rise_more (before ++ n ∷ []) names name rise.1 (subst (λ (l : List EntryName). IsAbove l name) (sym (append_assoc before (n ∷ []) names)) above))

-- the list has for each part the greatest of its numbers so far, 0 where there is none
pub record KeepsLast (last : List ℕ) (seen : List EntryName) : Type 0 where
  pub below : (e : EntryName) → Has seen e → e.number ≤ get_or last (place_of e.part) 0
  pub from : (p : Part) → (get_or last (place_of p) 0 ≡ 0) ⊎ Has seen (record { part = p; number = get_or last (place_of p) 0 })

module _ (last : List ℕ) (seen : List EntryName) (keeps : KeepsLast last seen) (name : EntryName) where
  pub is_above : get_or last (place_of name.part) 0 < name.number → IsAbove seen name
  is_above above e has same =
      let most = keeps.below e has in
      let there : get_or last (place_of e.part) 0 ≡ get_or last (place_of name.part) 0 = ap (λ (p : Part). get_or last (place_of p) 0) same in
      omega (arith, most, there, above)

  below_more : place_of name.part < length last → get_or last (place_of name.part) 0 < name.number
      → (e : EntryName) → Has (seen ++ name ∷ []) e → e.number ≤ get_or (set last (place_of name.part) name.number) (place_of e.part) 0
  below_more within above e has =
      let here = get_or-set_same last (place_of name.part) name.number 0 within in
      elim (has_push seen name e has) [
        | inl old ↦
            let most = keeps.below e old in
            elim (cases_eq (place_of e.part) (place_of name.part)) [
              | inl same ↦
                  let at : get_or (set last (place_of name.part) name.number) (place_of e.part) 0 ≡ name.number = ap (λ (k : ℕ). get_or (set last (place_of name.part) name.number) k 0) same ∙ here in
                  let was : get_or last (place_of e.part) 0 ≡ get_or last (place_of name.part) 0 = ap (λ (k : ℕ). get_or last k 0) same in
                  omega (arith, at, was, above, most)
              | inr other ↦
                  let at = get_or-set_other last (place_of name.part) (place_of e.part) name.number 0 other in
                  omega (arith, at, most)
            ]
        | inr same ↦
            let at : get_or (set last (place_of name.part) name.number) (place_of e.part) 0 ≡ name.number = ap (λ (x : EntryName). get_or (set last (place_of name.part) name.number) (place_of x.part) 0) (sym same) ∙ here in
            let number : name.number ≡ e.number = ap (λ (x : EntryName). x.number) same in
            omega (arith, at, number)
      ]

  from_more : place_of name.part < length last
      → (p : Part) → (get_or (set last (place_of name.part) name.number) (place_of p) 0 ≡ 0) ⊎ Has (seen ++ name ∷ []) (record { part = p; number = get_or (set last (place_of name.part) name.number) (place_of p) 0 })
  from_more within p =
      let here = get_or-set_same last (place_of name.part) name.number 0 within in
      elim (cases_eq (place_of p) (place_of name.part)) [
        | inl same ↦
            let at : get_or (set last (place_of name.part) name.number) (place_of p) 0 ≡ name.number = ap (λ (k : ℕ). get_or (set last (place_of name.part) name.number) k 0) same ∙ here in
            let part = same_place p name.part same in
            let is : name ≡ record { part = p; number = get_or (set last (place_of name.part) name.number) (place_of p) 0 } = (λ i. record { part = sym part i; number = sym at i }) in
            inr (subst (λ (e : EntryName). Has (seen ++ name ∷ []) e) is (append-Has seen (name ∷ []) name (inr (inl refl))))
        | inr other ↦
            let at = get_or-set_other last (place_of name.part) (place_of p) name.number 0 other in
            elim (keeps.from p) [
              | inl none ↦ inl (at ∙ none)
              | inr has ↦ inr (subst (λ (n : ℕ). Has (seen ++ name ∷ []) (record { part = p; number = n })) (sym at) (append-Has seen (name ∷ []) _ (inl has)))
            ]
      ]

  pub keeps_more : place_of name.part < length last → get_or last (place_of name.part) 0 < name.number → KeepsLast (set last (place_of name.part) name.number) (seen ++ name ∷ [])
  keeps_more within above = record { below = below_more within above; from = from_more within }

  -- a number that is not above is that of a name that has not risen
  pub is_fallen : (rest : List EntryName) → 1 ≤ name.number → name.number ≤ get_or last (place_of name.part) 0 → RiseAfter [] seen → IsFallen (seen ++ name ∷ rest) name
  is_fallen rest least most rise =
      elim (keeps.from name.part) [
        | inl none ↦ absurd (omega (arith, none, least, most))
        | inr has ↦ record { before = seen; after = rest; names_are = refl; earlier = _; is_before = has; same = refl; not_below = most; first = rise }
      ]

-- ---- the next name of a list

pub splits : (names : List EntryName) (i : ℕ) (d : EntryName) → i < length names → take i names ++ get_or names i d ∷ drop (i + 1) names ≡ names
splits names i d within = ap (λ (l : List EntryName). take i names ++ l) (sym (drop_more names i d within)) ∙ take-append-drop i names

module _ (last counts : List ℕ) (names : List EntryName) (i : ℕ) (d : EntryName) (place read : ℕ) (keeps : KeepsLast last (take i names)) (within : i < length names)
    (good : All (IsWithin counts) names) (is_place : place ≡ place_of (get_or names i d).part) (is_read : read ≡ get_or last place read) (one_each : length last ≡ length counts) where
  good_here : IsWithin counts (get_or names i d)
  good_here = All-get_or (IsWithin counts) names i d within good

  pub stands_there : place_of (get_or names i d).part < length counts
  stands_there = counted counts (place_of (get_or names i d).part) (get_or names i d).number good_here.0 good_here.1

  reads : read ≡ get_or last (place_of (get_or names i d).part) 0
  reads =
      let here = stands_there in
      is_read ∙ get_or_default last place read 0 (omega (arith, here, is_place, one_each)) ∙ ap (λ (k : ℕ). get_or last k 0) is_place

  pub next_fallen : (get_or names i d).number ≤ read → RiseAfter [] (take i names) → IsFallen names (get_or names i d)
  next_fallen most rise =
      let read_is = reads in
      subst (λ (l : List EntryName). IsFallen l (get_or names i d)) (splits names i d within)
      (is_fallen last (take i names) keeps (get_or names i d) (drop (i + 1) names) good_here.0 (omega (arith, most, read_is)) rise)

  pub next_rises : read < (get_or names i d).number → RiseAfter [] (take i names) → KeepsLast (set last place (get_or names i d).number) (take (i + 1) names) × RiseAfter [] (take (i + 1) names)
  next_rises more rise =
      let here = stands_there in
      let read_is = reads in
      let names_are = take_more names i d within in
      let above : get_or last (place_of (get_or names i d).part) 0 < (get_or names i d).number = omega (arith, more, read_is) in (
        transport (λ j. KeepsLast (set last (sym is_place j) (get_or names i d).number) (sym names_are j)) (keeps_more last (take i names) keeps (get_or names i d) (omega (arith, here, one_each)) above),
        subst (λ (l : List EntryName). RiseAfter [] l) (sym names_are) (rise_more [] (take i names) (get_or names i d) rise (is_above last (take i names) keeps (get_or names i d) above)),
      )
