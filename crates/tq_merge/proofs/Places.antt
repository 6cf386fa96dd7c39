-- How often an order names a part, prefixes of lists, and lists made item by item.
use Rattle.std.specs.{Prelude.{slice_get, slice_set}, Option.option_map}
use Rattle.std.proofs.Common.{◌≡◌, ◌≢◌, ◌≤◌, ◌<◌, ◌+◌, ◌-◌, ℕ, zero, suc, Bool, true, false, cond, List, [], ◌∷◌, ◌++◌, length, take, replicate, Option, Some, None, refl, sym, ap, ◌∙◌, nat_lt, arith}
use Rattle.std.proofs.{Math.Seq.take-suc, lemmas.List.Sums.fold-append, lemmas.Bool.{eqb-true, eq-eqb, false≢true}}
use Rattle.std.proofs.lemmas.Option.{slice_get_within, get_or_from_slice_get}
use Rattle.tq_shape.specs.declared.part.{Part.Part, Part.TheVariants.{Server, Desk, View}}
use Rattle.tq_core.{specs.World.item_at, proofs.Journaled.{item_above, item_below}}
use Rattle.tq_merge.specs.Order.{same_part, times, each_from}

-- ---- parts

pub same_part-is : (a b : Part) → same_part a b ≡ true → a ≡ b
same_part-is (Server a) (Server b) same = ap Server (eqb-true a b same)
same_part-is Desk Desk same = refl
same_part-is View View same = refl
same_part-is a b same = absurd (false≢true same)

pub same_part-refl : (a : Part) → same_part a a ≡ true
same_part-refl (Server a) = eq-eqb a a refl
same_part-refl Desk = refl
same_part-refl View = refl

-- ---- how often an order names a part

pub times-more : (order : List Part) (part other : Part) → times (order ++ part ∷ []) other ≡ times order other + cond (same_part other part) 1 0
times-more order part other = fold-append (λ n p. n + cond (same_part other p) 1 0) 0 order (part ∷ [])

pub times-same : (order : List Part) (part : Part) → times (order ++ part ∷ []) part ≡ suc (times order part)
times-same order part = times-more order part part ∙ ap (λ b. times order part + cond b 1 0) (same_part-refl part) ∙ omega arith

pub times-other : (order : List Part) (part other : Part) → other ≢ part → times (order ++ part ∷ []) other ≡ times order other
times-other order part other apart = times-more order part other ∙ by (same_part other part) refl
  where
    by : (b : Bool) → same_part other part ≡ b → times order other + cond b 1 0 ≡ times order other
    by true same = absurd (apart (same_part-is other part same))
    by false same = omega arith

-- ---- the item of a number

pub item_at-suc : {E : Type 0} (items : List E) (i : ℕ) → item_at items (suc i) ≡ slice_get items i
item_at-suc {E} items i =
    let above : nat_lt 0 (suc i) ≡ true = grind arith in
    let place : suc i - 1 ≡ i = omega arith in
    ap (λ b. cond b (slice_get items (suc i - 1)) None) above ∙ ap (slice_get items) place

-- ---- the first entries

pub take_get : {E : Type 0} (items : List E) (count place : ℕ) (x : E) → slice_get (take count items) place ≡ Some x → (slice_get items place ≡ Some x) × (place < count)
take_get {E} [] zero place x is = absurd (let none : Path (Option E) None (Some x) = is in cc)
take_get {E} [] (suc count) place x is = absurd (let none : Path (Option E) None (Some x) = is in cc)
take_get {E} (y ∷ items) zero place x is = absurd (let none : Path (Option E) None (Some x) = is in cc)
take_get (y ∷ items) (suc count) zero x is = (is, omega arith)
take_get (y ∷ items) (suc count) (suc place) x is = let rest = take_get items count place x is in (rest.0, omega (arith, rest.1))

pub get_take : {E : Type 0} (items : List E) (count place : ℕ) (x : E) → slice_get items place ≡ Some x → place < count → slice_get (take count items) place ≡ Some x
get_take {E} [] count place x is less = absurd (let none : Path (Option E) None (Some x) = is in cc)
get_take (y ∷ items) zero place x is less = absurd (omega arith)
get_take (y ∷ items) (suc count) zero x is less = is
get_take (y ∷ items) (suc count) (suc place) x is less = get_take items count place x is (omega arith)

-- an entry that stands among the first has a number up to their count
pub first_item : {E : Type 0} (items : List E) (count number : ℕ) (x : E) → item_at (take count items) number ≡ Some x → (item_at items number ≡ Some x) × (number ≤ count)
first_item items count number x is =
    let above = item_above (take count items) number x is in
    let there = take_get items count (number - 1) x above.1 in
    (item_below items number x above.0 there.0, omega (arith, above.0, there.1))

pub item_first : {E : Type 0} (items : List E) (count number : ℕ) (x : E) → item_at items number ≡ Some x → number ≤ count → item_at (take count items) number ≡ Some x
item_first items count number x is most =
    let above = item_above items number x is in
    item_below (take count items) number x above.0 (get_take items count (number - 1) x above.1 (omega (arith, above.0, most)))

-- one entry more
pub take_next : {E : Type 0} (items : List E) (count : ℕ) (x : E) → slice_get items count ≡ Some x → take (suc count) items ≡ take count items ++ x ∷ []
take_next items count x is =
    take-suc items count x (slice_get_within items count x is) ∙ ap (λ y. take count items ++ y ∷ []) (get_or_from_slice_get items count x x is)

pub take_none : {E : Type 0} (items : List E) → take 0 items ≡ []
take_none [] = refl
take_none (y ∷ items) = refl

-- ---- lists made item by item

pub get_each : {A B : Type 0} (f : ℕ → A → B) (first : ℕ) (items : List A) (place : ℕ) → slice_get (each_from f first items) place ≡ option_map (f (first + place)) (slice_get items place)
get_each f first [] place = refl
get_each f first (x ∷ items) zero = ap (λ (n : ℕ). Some (f n x)) (omega arith)
get_each f first (x ∷ items) (suc place) = get_each f (first + 1) items place ∙ ap (λ (n : ℕ). option_map (f n) (slice_get items place)) (omega arith)

pub length_each : {A B : Type 0} (f : ℕ → A → B) (first : ℕ) (items : List A) → length (each_from f first items) ≡ length items
length_each f first [] = refl
length_each f first (x ∷ items) = ap (λ (n : ℕ). suc n) (length_each f (first + 1) items)

pub item_each : {A B : Type 0} (f : ℕ → A → B) (items : List A) (number : ℕ) → item_at (each_from f 1 items) number ≡ option_map (f number) (item_at items number)
item_each {A} {B} f items number = by (nat_lt 0 number) refl
  where
    by : (above : Bool) → nat_lt 0 number ≡ above → cond above (slice_get (each_from f 1 items) (number - 1)) None ≡ option_map (f number) (cond above (slice_get items (number - 1)) None)
    by true less =
        let positive : 0 < number = grind (arith, less) in
        get_each f 1 items (number - 1) ∙ ap (λ (n : ℕ). option_map (f n) (slice_get items (number - 1))) (omega (arith, positive))
    by false less = refl

pub each_same : {A B : Type 0} (f g : ℕ → A → B) (first : ℕ) (items : List A) → ((number : ℕ) (x : A) → f number x ≡ g number x) → each_from f first items ≡ each_from g first items
each_same f g first [] same = refl
each_same f g first (x ∷ items) same = λ i. same first x i ∷ each_same f g (first + 1) items same i

pub each_after : {A B : Type 0} (f g : ℕ → A → B) (at first : ℕ) (items : List A) → at < first → ((number : ℕ) (x : A) → number ≢ at → f number x ≡ g number x) → each_from f first items ≡ each_from g first items
each_after f g at first [] less same = refl
each_after f g at first (x ∷ items) less same = λ i. same first x (λ e. absurd (omega (arith, e, less))) i ∷ each_after f g at (first + 1) items (omega arith) same i

-- lists that differ in one place alone
pub each_set : {A B : Type 0} (f g : ℕ → A → B) (first : ℕ) (items : List A) (place : ℕ) (x : A) → slice_get items place ≡ Some x
    → ((number : ℕ) (y : A) → number ≢ first + place → f number y ≡ g number y)
    → slice_set (each_from f first items) place (g (first + place) x) ≡ each_from g first items
each_set {A} f g first [] place x is same = absurd (let none : Path (Option A) None (Some x) = is in cc)
each_set {A} f g first (y ∷ items) zero x is same =
    let same_item : x ≡ y = (let some : Path (Option A) (Some y) (Some x) = is in let e : x ≡ y = cc in e) in
    let at : first + 0 ≡ first = omega arith in
    λ i. g (at i) (same_item i) ∷ each_after f g (first + 0) (first + 1) items (omega arith) same i
each_set f g first (y ∷ items) (suc place) x is same =
    let at : first + suc place ≡ (first + 1) + place = omega arith in
    λ i. same first y (λ e. absurd (omega (arith, e))) i
    ∷ ((ap (λ (n : ℕ). slice_set (each_from f (first + 1) items) place (g n x)) at
    ∙ each_set f g (first + 1) items place x is (λ n z apart. same n z (λ e. apart (e ∙ at)))) i)

pub each_is : {A : Type 0} (f : ℕ → A → A) (first : ℕ) (items : List A) → ((place : ℕ) (x : A) → slice_get items place ≡ Some x → f (first + place) x ≡ x) → each_from f first items ≡ items
each_is f first [] same = refl
each_is f first (x ∷ items) same =
    let at : first + 0 ≡ first = omega arith in
    λ i. (ap (λ (n : ℕ). f n x) (sym at) ∙ same 0 x refl) i ∷ each_is f (first + 1) items (λ place y is. ap (λ (n : ℕ). f n y) (omega arith) ∙ same (suc place) y is) i

pub each_none : {A B : Type 0} (f : ℕ → A → List B) (first : ℕ) (items : List A) → ((number : ℕ) (x : A) → f number x ≡ []) → each_from f first items ≡ replicate (length items) []
each_none f first [] none = refl
each_none f first (x ∷ items) none = λ i. none first x i ∷ each_none f (first + 1) items none i
