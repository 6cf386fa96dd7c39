-- Where there is a value, and where there is none. What a comparison says that ends in a tie.
use Rattle.std.proofs.{Common.{◌≡◌, false, not, Option, Some, None, is_some, refl, true, sym}, lemmas.Bool.true≢false}
use Rattle.std.specs.{Option.option_map, Ordering.is_eq, declared.cmp.Ordering.Ordering}
use Rattle.std.specs.declared.cmp.Ordering.TheVariants.{Less, Equal, Greater}
use Rattle.tq_shape.specs.Journal.{or_else}

pub none_of : {A : Type 0} (o : Option A) → is_some o ≡ false → o ≡ None
none_of None h = refl
none_of (Some x) h = absurd (true≢false h)

pub some_of : {A : Type 0} (o : Option A) → not (is_some o) ≡ false → (x : A) × (o ≡ Some x)
some_of None h = absurd (true≢false h)
some_of (Some x) h = (x, refl)

pub map-none : {A B : Type 0} (f : A → B) (o : Option A) → option_map f o ≡ None → o ≡ None
map-none f None h = refl
map-none f (Some x) h = absurd cc

pub or_else-none : {A : Type 0} (o p : Option A) → or_else o p ≡ None → (o ≡ None) × (p ≡ None)
or_else-none None p h = (refl, h)
or_else-none (Some x) p h = absurd cc

-- ---- orderings

pub is_eq-Equal : (r : Ordering) → is_eq r ≡ true → r ≡ Equal
is_eq-Equal Less h = absurd (true≢false (sym h))
is_eq-Equal Equal h = refl
is_eq-Equal Greater h = absurd (true≢false (sym h))
