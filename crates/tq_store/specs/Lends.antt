-- What a map whose look-ups are bounded ends as, once a `&mut` into it has ended.
use Rattle.std.specs.{Prelude.{◌≡◌, ℕ, Bool, Option, ⊤}, Borrow.{Fml, RattleType, MutBor, Lends, LendsIf, LendsSo}}
use Rattle.std.specs.{BTreeMap.Lent.OrdMembers, HashMap.Lent.HashMembers}
use Rattle.indexmap.specs.IndexMap.{IndexMap, WritesThrough, with_value_at}
use Rattle.tq_store.specs.contracts.ordered.Ordered as ordered
use Rattle.tq_store.specs.contracts.bounded.BoundedIndexMap as bounded

module _ (K V : RattleType) (order : OrdMembers K.Denot) where
  -- the list's type, as the logic holds it
  abbrev pub ordered_row : RattleType
  ordered_row = ordered.the_row K V (record { cmp = order.cmp }) (record { eq = order.eq }) (record { partial_cmp = order.partial_cmp })

  -- the place has the last value written through r
  abbrev pub lends_value : MutBor (IndexMap K.Denot V.Denot ⊤) → ℕ → MutBor V.Denot → Fml
  lends_value m i r = Lends ordered_row V m r (with_value_at m.now i)

  -- the same where r is a reference, and at `None` all stays as it is
  abbrev pub ordered_lends_at : MutBor (IndexMap K.Denot V.Denot ⊤) → ℕ → Option (MutBor V.Denot) → Fml
  ordered_lends_at m i r = LendsIf ordered_row V m r (with_value_at m.now i) m.now

  -- the key that passes the test has the last value written through r, and at `None` all stays as it is
  abbrev pub ordered_lends_get : MutBor (IndexMap K.Denot V.Denot ⊤) → (K.Denot → Bool) → Option (MutBor V.Denot) → Fml
  ordered_lends_get m test r = LendsSo ordered_row V m r (λ n w. WritesThrough order.eq test m.now w n) (λ n. n ≡ m.now)

  module _ (hash : HashMembers K.Denot) where
    -- the map's type, as the logic holds it
    abbrev pub bounded_row : RattleType
    bounded_row = bounded.the_row K V (record { cmp = order.cmp }) (record { eq = order.eq }) (record { partial_cmp = order.partial_cmp }) (record { hash_input = hash.hash_input })

    -- as `ordered_lends_at`, of the map
    abbrev pub lends_at : MutBor (IndexMap K.Denot V.Denot ⊤) → ℕ → Option (MutBor V.Denot) → Fml
    lends_at m i r = LendsIf bounded_row V m r (with_value_at m.now i) m.now

    -- as `ordered_lends_get`, of the map
    abbrev pub lends_get : MutBor (IndexMap K.Denot V.Denot ⊤) → (K.Denot → Bool) → Option (MutBor V.Denot) → Fml
    lends_get m test r = LendsSo bounded_row V m r (λ n w. WritesThrough order.eq test m.now w n) (λ n. n ≡ m.now)
