-- The order of locks. What a search through a finite map's entries finds, and what a look-up says of them. A tree's
-- entries, which rise by their keys, and the finite map that contracts see.
use Rattle.std.specs.{Cmp.{IsTotalOrder, nat_cmp_total, eq_by_cmp_equiv}, Cmp.Lexicographic.nat_list_cmp_total}
use Rattle.std.specs.FinMap.{IsAntisymmetric, nat_cmp-IsAntisymmetric, slice_cmp-IsAntisymmetric, FinMap, is_sorted}
use Rattle.std.specs.{Ordering.{nat_cmp, is_lt, is_eq, ordering_reverse, eq_by_cmp}, FinMap.Entries.below_all}
use Rattle.std.specs.{List.{find, AllByRecursion}, Option.is_none, declared.cmp.Ordering.Ordering, BTreeMap.is_at}
use Rattle.std.specs.{declared.cmp.Ordering.TheVariants.{Less, Equal, Greater}, List.Sorted.IsStrictlySortedBy}
use Rattle.std.specs.Map.{lookup, keys_of}
use Rattle.std.proofs.lemmas.{Cmp.{on_total, then_total}, Map.Lookups.exact_pairs, Map.Entries.lookup-filter-keys}
use Rattle.std.proofs.Common.{◌≡◌, Bool, true, false, cond, ◌&&◌, List, [], ◌∷◌, Some, None, refl, ap, sym, subst, ◌∙◌, ◌⊎◌, inl, inr, unwrap_or, filter}
use Rattle.tq_store.specs.Copies.{name_cmp}
use Rattle.tq_locks.specs.Locks.{LockKey, lock_cmp}
use lib.Dec.{T}
use mathlib.Core.Bool.{true≢false}
use Rattle.std.specs.FinMap as fin
use Rattle.tq_shape.{proofs.Options.is_eq-Equal, specs.Journal.Has}

pub locks_total : IsTotalOrder lock_cmp
locks_total = then_total (on_total (λ (k : LockKey). k.0) nat_list_cmp_total) (on_total (λ (k : LockKey). k.1) nat_cmp_total)

-- keys that compare alike are one
pub locks_same : IsAntisymmetric lock_cmp
locks_same a b h = exact_pairs name_cmp nat_cmp (slice_cmp-IsAntisymmetric nat_cmp-IsAntisymmetric) nat_cmp-IsAntisymmetric a b h

-- ---- found

pub some_same : {A : Type 0} (x y : A) → Some x ≡ Some y → x ≡ y
some_same x y e = ap (λ o. unwrap_or o x) e

pub none_some : {A : Type 0} (x : A) → None ≡ Some x → ⊥
none_some x e = absurd (true≢false (ap is_none e))

pub first : (a b : Bool) → T (a && b) → T a
first true b h = tt
first false b h = absurd h

pub second : (a b : Bool) → T (a && b) → T b
second true b h = h
second false b h = absurd h

pub less : (r : Ordering) → T (is_lt r) → r ≡ Less
less Less h = refl
less Equal h = absurd h
less Greater h = absurd h

itself : (r : Ordering) → r ≡ ordering_reverse r → is_eq r ≡ true
itself Less h = absurd (true≢false (ap is_lt h))
itself Equal h = refl
itself Greater h = absurd (true≢false (sym (ap is_lt h)))

-- ---- a search finds the first that passes

module _ {A : Type 0} (p : A → Bool) where
  none_step : (x : A) (xs : List A) (y : A) (b : Bool) → p x ≡ b → cond b (Some x) (find p xs) ≡ None → (find p xs ≡ None → Has xs y → p y ≡ false) → Has (x ∷ xs) y → p y ≡ false
  none_step x xs y true t f next h = absurd (none_some x (sym f))
  none_step x xs y false t f next (inl e) = ap p (sym e) ∙ t
  none_step x xs y false t f next (inr h) = next f h

  -- where nothing is found, nothing passes
  pub none_passes : (xs : List A) (y : A) → find p xs ≡ None → Has xs y → p y ≡ false
  none_passes [] y f h = absurd h
  none_passes (x ∷ xs) y f h = none_step x xs y (p x) refl f (none_passes xs y) h

not_tied : (r s : Ordering) → r ≡ Less → s ≡ ordering_reverse r → is_eq s ≡ false
not_tied r s e f = ap is_eq (f ∙ ap ordering_reverse e)

-- ---- entries and look-ups

module _ {K X : Type 0} {R : K → K → Ordering} (o : IsTotalOrder R) (same : IsAntisymmetric R) where
  looked_step : (x : K × X) (es : List (K × X)) (q : K) (v : X) (b : Bool) → is_eq (R q x.0) ≡ b → cond b (Some x.1) (fin.find R q es) ≡ Some v → (fin.find R q es ≡ Some v → Has es (q, v)) → Has (x ∷ es) (q, v)
  looked_step x es q v true t f next = inl (λ i. (sym (same q x.0 (is_eq-Equal (R q x.0) t)) i, some_same x.1 v f i))
  looked_step x es q v false t f next = inr (next f)

  -- what a look-up finds is an entry
  pub Has-looked_up : (es : List (K × X)) (q : K) (v : X) → fin.find R q es ≡ Some v → Has es (q, v)
  Has-looked_up [] q v f = absurd (none_some v f)
  Has-looked_up (x ∷ es) q v f = looked_step x es q v (is_eq (R q x.0)) refl f (Has-looked_up es q v)

  -- a key below all others is below each
  pub below_each : (k : K) (es : List (K × X)) (x : K × X) → T (below_all R k es) → Has es x → R k x.0 ≡ Less
  below_each k [] x t h = absurd h
  below_each k (e ∷ es) x t (inl s) = ap (λ (y : K × X). R k y.0) (sym s) ∙ less (R k e.0) (first (is_lt (R k e.0)) (below_all R k es) t)
  below_each k (e ∷ es) x t (inr h) = below_each k es x (second (is_lt (R k e.0)) (below_all R k es) t) h

  -- a look-up finds an entry of a list that rises
  pub looked_up : (es : List (K × X)) (x : K × X) → T (is_sorted R es) → Has es x → fin.find R x.0 es ≡ Some x.1
  looked_up [] x t h = absurd h
  looked_up (e ∷ es) x t (inl s) =
      subst (λ (y : K × X). fin.find R y.0 (e ∷ es) ≡ Some y.1) s (ap (λ b. cond b (Some e.1) (fin.find R e.0 es)) (itself (R e.0 e.0) (o.antisymm e.0 e.0)))
  looked_up (e ∷ es) x t (inr h) =
      ap (λ b. cond b (Some e.1) (fin.find R x.0 es)) (not_tied (R e.0 x.0) (R x.0 e.0) (below_each e.0 es x (first (below_all R e.0 es) (is_sorted R es) t) h) (o.antisymm x.0 e.0))
      ∙ looked_up es x (second (below_all R e.0 es) (is_sorted R es) t) h

  -- the first entry that passes is below each other that passes
  abbrev pub IsFirst : K × X → K × X → Type 0
  IsFirst e x = (e ≡ x) ⊎ (R e.0 x.0 ≡ Less)

  first_step : (p : K × X → Bool) (y : K × X) (es : List (K × X)) (e x : K × X) (b : Bool) → p y ≡ b → T (below_all R y.0 es) → cond b (Some y) (find p es) ≡ Some e → Has (y ∷ es) x → p x ≡ true → (find p es ≡ Some e → Has es x → IsFirst e x) → IsFirst e x
  first_step p y es e x true t below f (inl s) px next = inl (sym (some_same y e f) ∙ s)
  first_step p y es e x true t below f (inr h) px next = inr (ap (λ (z : K × X). R z.0 x.0) (sym (some_same y e f)) ∙ below_each y.0 es x below h)
  first_step p y es e x false t below f (inl s) px next = absurd (true≢false (sym px ∙ ap p (sym s) ∙ t))
  first_step p y es e x false t below f (inr h) px next = next f h

  pub first_passes : (p : K × X → Bool) (es : List (K × X)) (e x : K × X) → T (is_sorted R es) → find p es ≡ Some e → Has es x → p x ≡ true → IsFirst e x
  first_passes p [] e x t f h px = absurd h
  first_passes p (y ∷ es) e x t f h px =
      first_step p y es e x (p y) refl (first (below_all R y.0 es) (is_sorted R es) t) f h px (λ g k. first_passes p es e x (second (below_all R y.0 es) (is_sorted R es) t) g k px)

  -- the same of a finite map
  pub entry_of : (m : FinMap R X) (q : K) (v : X) → fin.get m q ≡ Some v → Has (fin.entries m) (q, v)
  entry_of m q v f = Has-looked_up (fin.entries m) q v (sym (fin.get-entries m q) ∙ f)

  pub get-entry_of : (m : FinMap R X) (x : K × X) → Has (fin.entries m) x → fin.get m x.0 ≡ Some x.1
  get-entry_of m x h = fin.get-entries m x.0 ∙ looked_up (fin.entries m) x (fin.entries_sorted m) h

-- ---- ordered

pub both : (a b : Bool) → T a → T b → T (a && b)
both true b x y = y
both false b x y = absurd x

module _ {K X : Type 0} (R : K → K → Ordering) where
  below : (k : K) (es : List (K × X)) → AllByRecursion (λ y. R k y ≡ Less) (keys_of es) → T (below_all R k es)
  below k [] h = tt
  below k (e ∷ es) h = both _ _ (subst (λ r. T (is_lt r)) (sym h.0) tt) (below k es h.1)

  pub sorted_test : (es : List (K × X)) → IsStrictlySortedBy R (keys_of es) → T (is_sorted R es)
  unfolding IsStrictlySortedBy
  sorted_test [] h = tt
  sorted_test (e ∷ es) h = both _ _ (below e.0 es h.0) (sorted_test es h.1)

  pub find_entry : (es : List (K × X)) (q : K) → fin.find R q es ≡ lookup (is_at (R q)) es
  find_entry [] q = refl
  find_entry (e ∷ es) q = ap (cond (is_at (R q) e.0) (Some e.1)) (find_entry es q)

is_at-Equal : {K : Type 0} (R : K → K → Ordering) (q k : K) → is_at (R q) k ≡ true → R q k ≡ Equal
is_at-Equal R q k h = is_eq-Equal (R q k) h

module _ {K X : Type 0} {R : K → K → Ordering} (o : IsTotalOrder R) where
  -- what the finite map has at a key
  pub get_entry : (es : List (K × X)) (q : K) → fin.get (fin.from_entries {R = R} es) q ≡ lookup (is_at (R q)) es
  get_entry es q = fin.get-from_entries o es q ∙ find_entry R es q

  -- the finite map's entries are the tree's
  pub entries-from_ordered : IsAntisymmetric R → (es : List (K × X)) → IsStrictlySortedBy R (keys_of es) → fin.entries (fin.from_entries {R = R} es) ≡ es
  entries-from_ordered same es h =
      let t = sorted_test R es h in
      ap fin.entries (fin.same_map o same (fin.from_entries es) (fin.from_sorted es) (λ q. fin.get-from_entries o es q ∙ sym (fin.get-from_sorted R es q t))) ∙ fin.entries-from_sorted R es t

  -- entries that differ at one key make maps that differ there
  pub one_changed : IsAntisymmetric R → (es fs : List (K × X)) (k : K) (x : X) → ((q : K) → lookup (is_at (R q)) fs ≡ cond (is_at (R k) q) (Some x) (lookup (is_at (R q)) es)) → fin.from_entries {R = R} fs ≡ fin.insert (fin.from_entries es) k x
  one_changed same es fs k x h = fin.same_map o same _ _ (λ q.
      get_entry fs q ∙ h q
      ∙ ap (λ b. cond b (Some x) (lookup (is_at (R q)) es)) ((eq_by_cmp_equiv o).symm k q)
      ∙ sym (fin.get-insert o (fin.from_entries es) k x q ∙ ap (cond (eq_by_cmp R q k) (Some x)) (get_entry es q)))

  -- a tree without the entries that fail a test of the keys
  pub from_entries-filter : IsAntisymmetric R → (p : K → Bool) → (es : List (K × X)) → fin.from_entries {R = R} (filter (λ e. p e.0) es) ≡ fin.retain_keys (fin.from_entries es) p
  from_entries-filter same p es = fin.same_map o same _ _ (λ q.
      get_entry (filter (λ e. p e.0) es) q
      ∙ lookup-filter-keys (is_at (R q)) p (p q) (λ k t. ap p (sym (same q k (is_at-Equal R q k t)))) es
      ∙ ap (λ v. cond (p q) v None) (sym (get_entry es q))
      ∙ sym (fin.get-retain_keys (fin.from_entries es) p q (λ k t. ap p (sym (same q k t)))))
