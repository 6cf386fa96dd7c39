-- Where a key goes in entries that rise, and what they are after a change there. The list of a name, where the map has
-- it at an index.
use Rattle.std.proofs.Common.{◌≡◌, Bool, true, false, cond, not, ◌&&◌, List, [], ◌∷◌, map, Option, Some, None, refl, ap, sym, subst, ◌∙◌, ◌<◌, ◌≤◌, ℕ, zero, suc, length, slice_get, Result, Ok, Err, OnErr, OnOk, arith}
use lib.Dec.{T}
use mathlib.Core.Bool.{true≢false}
use Rattle.std.specs.{Cmp.{IsTotalOrder, eq_by_cmp_equiv, IsEquivalence}, FinMap.IsAntisymmetric, List.{insert, remove}}
use Rattle.std.specs.FinMap.Entries.{put, find, where_key, below_all, is_sorted, is_sorted-where_key, is_sorted-put, find-where_key, find-put, same_entries}
use Rattle.std.specs.{Option.{option_map, option_map_or}, Ordering.{is_lt, is_eq, eq_by_cmp, ordering_reverse}}
use Rattle.std.specs.declared.cmp.{Ordering.Ordering, Ordering.TheVariants.{Less, Equal, Greater}}
use Rattle.std.specs.{Bool.OnTrue, Map.{lookup, lookup_key, keys_of, values_of}}
use Rattle.tq_shape.proofs.Options.{is_eq-Equal}
use Rattle.tq_locks.specs.Keys.{place, keys_under, HasListAt, HasRoomUnder}
use Rattle.tq_locks.proofs.Found.{none_some, first, second, less, below_each, Has-looked_up, some_same}
use Rattle.indexmap.specs.IndexMap.{IndexMap, get, index_of, values, spare, with_value_at, set_value_at, IsUnique, Updates}
use Rattle.indexmap.proofs.{CallerLemmas.updates-with_value_at, MapLemmas.{Found-position, Missing-position}}
use Rattle.smallvec.specs.SmallVec.{SmallVec, HasRoomFor}

module _ {K : Type 0} {R : K → K → Ordering} (o : IsTotalOrder R) where
  pub turned : (a b : K) (r : Ordering) → R a b ≡ r → R b a ≡ ordering_reverse r
  turned a b r e = o.antisymm b a ∙ ap ordering_reverse e

module _ {K X : Type 0} {R : K → K → Ordering} (o : IsTotalOrder R) (same : IsAntisymmetric R) where
  insert_step : (q : K) (l : X) (x : K × X) (xs : List (K × X)) (r : Ordering) → R x.0 q ≡ r → find R q (x ∷ xs) ≡ None
      → (find R q xs ≡ None → insert xs (place R q xs) (q, l) ≡ put R q l xs) → insert (x ∷ xs) (place R q (x ∷ xs)) (q, l) ≡ put R q l (x ∷ xs)
  insert_step q l x xs Less e h next =
      let back : R q x.0 ≡ Greater = turned o x.0 q Less e in
      let rest : find R q xs ≡ None = sym (ap (λ r. cond (is_eq r) (Some x.1) (find R q xs)) back) ∙ h in
      rw (e, back) (ap (λ ys. x ∷ ys) (next rest))
  insert_step q l x xs Equal e h next =
      let back : R q x.0 ≡ Equal = turned o x.0 q Equal e in
      absurd (none_some x.1 (sym h ∙ ap (λ r. cond (is_eq r) (Some x.1) (find R q xs)) back))
  insert_step q l x xs Greater e h next =
      let back : R q x.0 ≡ Less = turned o x.0 q Greater e in
      rw (e, back) refl

  -- a new entry in its place
  pub insert-place : (q : K) (l : X) (xs : List (K × X)) → find R q xs ≡ None → insert xs (place R q xs) (q, l) ≡ put R q l xs
  insert-place q l [] h = refl
  insert-place q l (x ∷ xs) h = insert_step q l x xs (R x.0 q) refl h (insert-place q l xs)

  -- the entries at other keys
  abbrev pub other_keys : K → List (K × X) → List (K × X)
  other_keys q xs = where_key R (λ k. not (eq_by_cmp R q k)) xs

  others_above : (q : K) (xs : List (K × X)) → T (below_all R q xs) → other_keys q xs ≡ xs
  others_above q [] h = refl
  others_above q (x ∷ xs) h =
      rw (less (R q x.0) (first (is_lt (R q x.0)) (below_all R q xs) h)) (ap (λ ys. x ∷ ys) (others_above q xs (second (is_lt (R q x.0)) (below_all R q xs) h)))

  remove_step : (q : K) (l : X) (x : K × X) (xs : List (K × X)) (r : Ordering) → R x.0 q ≡ r → T (is_sorted R (x ∷ xs)) → find R q (x ∷ xs) ≡ Some l
      → (T (is_sorted R xs) → find R q xs ≡ Some l → remove xs (place R q xs) ≡ other_keys q xs) → remove (x ∷ xs) (place R q (x ∷ xs)) ≡ other_keys q (x ∷ xs)
  remove_step q l x xs Less e t h next =
      let back : R q x.0 ≡ Greater = turned o x.0 q Less e in
      let rest : find R q xs ≡ Some l = sym (ap (λ r. cond (is_eq r) (Some x.1) (find R q xs)) back) ∙ h in
      rw (e, back) (ap (λ ys. x ∷ ys) (next (second (below_all R x.0 xs) (is_sorted R xs) t) rest))
  remove_step q l x xs Equal e t h next =
      let back : R q x.0 ≡ Equal = turned o x.0 q Equal e in
      rw (e, back) (sym (others_above q xs (subst (λ k. T (below_all R k xs)) (same x.0 q e) (first (below_all R x.0 xs) (is_sorted R xs) t))))
  remove_step q l x xs Greater e t h next =
      let back : R q x.0 ≡ Less = turned o x.0 q Greater e in
      let rest : find R q xs ≡ Some l = sym (ap (λ r. cond (is_eq r) (Some x.1) (find R q xs)) back) ∙ h in
      let under = below_each o same x.0 xs (q, l) (first (below_all R x.0 xs) (is_sorted R xs) t) (Has-looked_up o same xs q l rest) in
      absurd (true≢false (ap is_lt (sym under ∙ e)))

  -- without the entry that stands in its place
  pub remove-place : (q : K) (l : X) (xs : List (K × X)) → T (is_sorted R xs) → find R q xs ≡ Some l → remove xs (place R q xs) ≡ other_keys q xs
  remove-place q l [] t h = absurd (none_some l h)
  remove-place q l (x ∷ xs) t h = remove_step q l x xs (R x.0 q) refl t h (remove-place q l xs)

  kept_by : (a : K → Bool) (q r : K) (l : X) (b c : Bool) (s : Option X) → a q ≡ b → eq_by_cmp R r q ≡ c → (c ≡ true → a r ≡ b) → cond (a r) (cond c (Some l) s) None ≡ cond b (cond c (Some l) (cond (a r) s None)) (cond (a r) s None)
  kept_by a q r l true true s e f h = rw (h refl) refl
  kept_by a q r l true false s e f h = refl
  kept_by a q r l false true s e f h = rw (h refl) refl
  kept_by a q r l false false s e f h = refl

  find-cond : (r : K) (b : Bool) (xs ys : List (K × X)) → find R r (cond b xs ys) ≡ cond b (find R r xs) (find R r ys)
  find-cond r true xs ys = refl
  find-cond r false xs ys = refl

  sorted-cond : (b : Bool) (xs ys : List (K × X)) → T (is_sorted R xs) → T (is_sorted R ys) → T (is_sorted R (cond b xs ys))
  sorted-cond true xs ys s t = s
  sorted-cond false xs ys s t = t

  -- the entries whose keys pass a test, once an entry is put in
  pub where_key-put : (a : K → Bool) (q : K) (l : X) (es : List (K × X)) → T (is_sorted R es) → where_key R a (put R q l es) ≡ cond (a q) (put R q l (where_key R a es)) (where_key R a es)
  where_key-put a q l es t =
      let part = is_sorted-where_key R a es t in
      let alike = λ (r k : K) (e : R r k ≡ Equal). ap a (sym (same r k e)) in
      same_entries R o same _ _
      (is_sorted-where_key R a (put R q l es) (is_sorted-put R o q l es t))
      (sorted-cond (a q) (put R q l (where_key R a es)) (where_key R a es) (is_sorted-put R o q l (where_key R a es) part) part)
      (λ r.
      find-where_key R a r (alike r) (put R q l es)
      ∙ ap (λ v. cond (a r) v None) (find-put R o r q l es)
      ∙ kept_by a q r l (a q) (eq_by_cmp R r q) (find R r es) refl refl (λ h. ap a (same r q (is_eq-Equal (R r q) h)))
      ∙ ap (λ v. cond (a q) (cond (eq_by_cmp R r q) (Some l) v) v) (sym (find-where_key R a r (alike r) es))
      ∙ ap (λ v. cond (a q) v (find R r (where_key R a es))) (sym (find-put R o r q l (where_key R a es)))
      ∙ sym (find-cond r (a q) (put R q l (where_key R a es)) (where_key R a es)))

  -- two tests may be put in either order
  pub where_key-swap : (a b : K → Bool) (es : List (K × X)) → where_key R a (where_key R b es) ≡ where_key R b (where_key R a es)
  where_key-swap a b [] = refl
  where_key-swap a b (e ∷ es) = swap_step (a e.0) (b e.0) refl refl (where_key-swap a b es)
    where
      swap_step : (c d : Bool) → a e.0 ≡ c → b e.0 ≡ d → where_key R a (where_key R b es) ≡ where_key R b (where_key R a es) → where_key R a (cond d (e ∷ where_key R b es) (where_key R b es)) ≡ where_key R b (cond c (e ∷ where_key R a es) (where_key R a es))
      swap_step true true f g next = rw (f, g) (ap (λ ys. e ∷ ys) next)
      swap_step true false f g next = rw g next
      swap_step false true f g next = rw f next
      swap_step false false f g next = next

  -- with a new value at a key
  abbrev pub revalued : K → X → K × X → K × X
  revalued q l x = (x.0, cond (eq_by_cmp R q x.0) l x.1)

  -- other values leave the order
  below-valued : (g : K × X → X) (k : K) (xs : List (K × X)) → below_all R k (map (λ x. (x.0, g x)) xs) ≡ below_all R k xs
  below-valued g k [] = refl
  below-valued g k (x ∷ xs) = ap (λ b. is_lt (R k x.0) && b) (below-valued g k xs)

  pub sorted-valued : (g : K × X → X) (xs : List (K × X)) → is_sorted R (map (λ x. (x.0, g x)) xs) ≡ is_sorted R xs
  sorted-valued g [] = refl
  sorted-valued g (x ∷ xs) = λ i. below-valued g x.0 xs i && sorted-valued g xs i

  find-revalued : (q r : K) (l : X) (xs : List (K × X)) → find R r (map (revalued q l) xs) ≡ option_map (λ v. cond (eq_by_cmp R q r) l v) (find R r xs)
  find-revalued q r l [] = refl
  find-revalued q r l (x ∷ xs) = at_head (eq_by_cmp R r x.0) refl (find-revalued q r l xs)
    where
      at_head : (b : Bool) → eq_by_cmp R r x.0 ≡ b → find R r (map (revalued q l) xs) ≡ option_map (λ v. cond (eq_by_cmp R q r) l v) (find R r xs)
          → cond b (Some (cond (eq_by_cmp R q x.0) l x.1)) (find R r (map (revalued q l) xs)) ≡ option_map (λ v. cond (eq_by_cmp R q r) l v) (cond b (Some x.1) (find R r xs))
      at_head true e next = ap (λ k. Some (cond (eq_by_cmp R q k) l x.1)) (sym (same r x.0 (is_eq-Equal (R r x.0) e)))
      at_head false e next = next

  one_value : (q r : K) (l m : X) (s : Option X) (b : Bool) → eq_by_cmp R r q ≡ b → eq_by_cmp R q r ≡ b → (b ≡ true → s ≡ Some m) → cond b (Some l) s ≡ option_map (λ v. cond b l v) s
  one_value q r l m s true e f h = rw (h refl) refl
  one_value q r l m None false e f h = refl
  one_value q r l m (Some v) false e f h = refl

  -- a new value at a key that is there
  pub put-revalued : (q : K) (l m : X) (xs : List (K × X)) → T (is_sorted R xs) → find R q xs ≡ Some m → put R q l xs ≡ map (revalued q l) xs
  put-revalued q l m xs t h =
      same_entries R o same _ _ (is_sorted-put R o q l xs t) (subst T (sym (sorted-valued (λ x. cond (eq_by_cmp R q x.0) l x.1) xs)) t)
      (λ r.
      find-put R o r q l xs
      ∙ one_value q r l m (find R r xs) (eq_by_cmp R r q) refl ((eq_by_cmp_equiv o).symm q r) (λ e. ap (λ k. find R k xs) (same r q (is_eq-Equal (R r q) e)) ∙ h)
      ∙ ap (λ b. option_map (λ v. cond b l v) (find R r xs)) ((eq_by_cmp_equiv o).symm r q)
      ∙ sym (find-revalued q r l xs))

-- ---- indexed

entry_within : {X : Type 0} (es : List X) (i : ℕ) → i < length es → (e : X) × (slice_get es i ≡ Some e)
entry_within [] i l = absurd (omega (arith, l))
entry_within (e ∷ es) zero l = (e, refl)
entry_within (e ∷ es) (suc i) l = entry_within es i (omega (arith, l))

alone : (keys : List ℕ) (place key : ℕ) → keys ≡ [] → place ≤ length keys → key ∷ [] ≡ insert keys place key
alone [] zero key e within = refl
alone [] (suc place) key e within = absurd (omega (arith, within))
alone (k ∷ keys) place key e within = let none : suc (length keys) ≡ 0 = ap length e in absurd (omega (arith, none))

module _ {K X : Type 0} where
  parts : (es : List (K × X)) (i : ℕ) (e : K × X) → slice_get es i ≡ Some e → (slice_get (keys_of es) i ≡ Some e.0) × (slice_get (values_of es) i ≡ Some e.1)
  parts [] i e h = absurd (none_some e h)
  parts (d ∷ es) zero e h = let same = some_same d e h in (λ i. Some (same i).0, λ i. Some (same i).1)
  parts (d ∷ es) (suc i) e h = parts es i e h

  key_passes : (test : K → Bool) (k : K) (es : List (K × X)) → lookup_key test es ≡ Some k → test k ≡ true
  key_passes test k [] h = absurd (none_some k h)
  key_passes test k (e ∷ es) h = by_test (test e.0) refl h (key_passes test k es)
    where
      by_test : (b : Bool) → test e.0 ≡ b → cond b (Some e.0) (lookup_key test es) ≡ Some k → (lookup_key test es ≡ Some k → test k ≡ true) → test k ≡ true
      by_test true t h later = ap test (sym (some_same e.0 k h)) ∙ t
      by_test false t h later = later h

  set_there : (es : List (K × X)) (i : ℕ) (k : K) (v w : X) → slice_get es i ≡ Some (k, v) → slice_get (set_value_at es i w) i ≡ Some (k, w)
  set_there [] i k v w h = absurd (none_some (k, v) h)
  set_there (e ∷ es) zero k v w h = let same = some_same e (k, v) h in (λ i. Some ((same i).0, w))
  set_there (e ∷ es) (suc i) k v w h = set_there es i k v w h

module _ {K : Type 0} (eq : K → K → Bool) where
  -- the entry at the index of a name
  pub entry_of : {X S : Type 0} (m : IndexMap K X S) (n : K) (i : ℕ) (v : X) → index_of eq m n ≡ Some i → slice_get (values m) i ≡ Some v → (stored : K) × (slice_get m.entries i ≡ Some (stored, v)) × (eq n stored ≡ true) × (get eq m n ≡ Some v)
  entry_of m n i v p h =
      let found = Found-position (eq n) m.entries i p in
      let e = entry_within m.entries i found.within in
      let both = parts m.entries i e.0 e.1 in
      let value : e.0.1 ≡ v = some_same e.0.1 v (sym both.1 ∙ h) in
      (e.0.0, e.1 ∙ (λ j. Some (e.0.0, value j)), key_passes (eq n) e.0.0 m.entries (found.key ∙ both.0), found.value ∙ h)

  module _ {S : Type 0} (laws : IsEquivalence eq) (m : IndexMap K (SmallVec ℕ) S) (n stored : K) (i : ℕ) (unique : IsUnique eq m) (v w : SmallVec ℕ) (at : slice_get m.entries i ≡ Some (stored, v)) (alike : eq n stored ≡ true) where
    put_there : Updates eq m (with_value_at m i w) stored (Some w)
    put_there = updates-with_value_at m i w laws unique stored v at

    -- a write at the index of a name puts its list
    pub written : (t : K) → keys_under eq (with_value_at m i w) t ≡ cond (eq n t) w.items (keys_under eq m t)
    written t = ap (λ o. option_map_or (λ keys. keys.items) o []) (put_there.0 t) ∙ by_test (eq stored t) ∙ ap (λ b. cond b w.items (keys_under eq m t)) (sym (laws.congr n stored t alike))
      where
        by_test : (b : Bool) → option_map_or (λ (keys : SmallVec ℕ). keys.items) (cond b (Some w) (get eq m t)) [] ≡ cond b w.items (keys_under eq m t)
        by_test true = refl
        by_test false = refl

    -- and leaves all lists as they were where that one keeps its keys
    pub unwritten : get eq m n ≡ Some v → w.items ≡ v.items → (t : K) → keys_under eq (with_value_at m i w) t ≡ keys_under eq m t
    unwritten here same t = written t ∙ by_test (eq n t) refl
      where
        by_test : (b : Bool) → eq n t ≡ b → cond b w.items (keys_under eq m t) ≡ keys_under eq m t
        by_test true e = same ∙ sym (ap (λ o. option_map_or (λ keys. keys.items) o []) here) ∙ (λ j. option_map_or (λ keys. keys.items) (lookup (λ k. laws.congr n t k e j) m.entries) [])
        by_test false e = refl

    pub room : HasRoomFor w 1 → HasRoomUnder eq (with_value_at m i w) n (Some i)
    room r =
        let found : get eq (with_value_at m i w) n ≡ Some w = put_there.0 n ∙ ap (λ b. cond b (Some w) (get eq m n)) (sym (laws.symm n stored) ∙ alike) in
        (stored, w, set_there m.entries i stored v w at, alike, found, r)

  -- a name with no index has no list
  pub no_list : {X S : Type 0} (m : IndexMap K X S) (n : K) → None ≡ index_of eq m n → get eq m n ≡ None
  no_list m n none = (Missing-position (eq n) m.entries (sym none)).value

  -- the first key of a name goes to the only place
  pub begun : {S : Type 0} (old new : IndexMap K (SmallVec ℕ) S) (n : K) (place key : ℕ) → get eq old n ≡ None → place ≤ length (keys_under eq old n)
      → ((t : K) → keys_under eq new t ≡ cond (eq n t) (key ∷ []) (keys_under eq old t)) → (t : K) → keys_under eq new t ≡ cond (eq n t) (insert (keys_under eq old n) place key) (keys_under eq old t)
  begun old new n place key none within put t = put t ∙ ap (λ (ks : List ℕ). cond (eq n t) ks (keys_under eq old t)) (alone (keys_under eq old n) place key (ap (λ o. option_map_or (λ keys. keys.items) o []) none) within)

  -- a map with no list for a name has room for one after it is made
  pub room_for_list : {S : Type 0} (old new : IndexMap K (SmallVec ℕ) S) (n : K) → None ≡ index_of eq old n → new.entries ≡ old.entries → 0 < spare new → HasRoomUnder eq new n None
  room_for_list old new n none same more = (ap (lookup (eq n)) same ∙ no_list old n none, more)

  -- the name that is stored at an index has its list there
  pub listed_here : {S : Type 0} (laws : IsEquivalence eq) (m : IndexMap K (SmallVec ℕ) S) (n stored : K) (i : ℕ) (keys : SmallVec ℕ) → slice_get m.entries i ≡ Some (stored, keys) → get eq m stored ≡ Some keys → eq n stored ≡ true → HasListAt eq m n i
  listed_here laws m n stored i keys at here alike = (stored, keys, at, alike, (λ j. lookup (λ k. laws.congr n stored k alike j) m.entries) ∙ here)

  -- the list at the index of its name
  pub at_index : {S : Type 0} (m : IndexMap K (SmallVec ℕ) S) (n : K) (i : ℕ) (keys : SmallVec ℕ) → HasListAt eq m n i → slice_get (values m) i ≡ Some keys
      → (stored : K) × (slice_get m.entries i ≡ Some (stored, keys)) × (eq n stored ≡ true) × (keys_under eq m n ≡ keys.items)
  at_index m n i keys list at =
      let same : list.1 ≡ keys = some_same list.1 keys (sym (parts m.entries i (list.0, list.1) list.2).1 ∙ at) in
      (list.0, list.2 ∙ (λ j. Some (list.0, same j)), list.3, ap (λ o. option_map_or (λ keys. keys.items) o []) (list.4 ∙ ap Some same))

  pub list_at_index : {S : Type 0} (m : IndexMap K (SmallVec ℕ) S) (n : K) (i : ℕ) → HasListAt eq m n i → slice_get (values m) i ≡ None → ⊥
  list_at_index m n i list none = none_some list.1 (sym none ∙ (parts m.entries i (list.0, list.1) list.2).1)

  -- the list that has room
  pub roomy : {S : Type 0} (m : IndexMap K (SmallVec ℕ) S) (n : K) (i : ℕ) (keys : SmallVec ℕ) → HasRoomUnder eq m n (Some i) → slice_get (values m) i ≡ Some keys
      → (stored : K) × (slice_get m.entries i ≡ Some (stored, keys)) × (eq n stored ≡ true) × (keys_under eq m n ≡ keys.items) × HasRoomFor keys 1
  roomy m n i keys room at =
      let same : room.1 ≡ keys = some_same room.1 keys (sym (parts m.entries i (room.0, room.1) room.2).1 ∙ at) in
      (room.0, room.2 ∙ (λ j. Some (room.0, same j)), room.3, ap (λ o. option_map_or (λ keys. keys.items) o []) (room.4 ∙ ap Some same), subst (λ keys. HasRoomFor keys 1) same room.5)

  pub list_there : {S : Type 0} (m : IndexMap K (SmallVec ℕ) S) (n : K) (i : ℕ) → HasRoomUnder eq m n (Some i) → slice_get (values m) i ≡ None → ⊥
  list_there m n i room none = none_some room.1 (sym none ∙ (parts m.entries i (room.0, room.1) room.2).1)

pub OnTrue-to : (P : Type 0) (b : Bool) → (b ≡ true → P) → OnTrue b P
OnTrue-to P true f = f refl
OnTrue-to P false f = tt

pub OnOk-to : {A E : Type 0} (P Q : Type 0) (r : Result A E) → OnOk r P → (P → Q) → OnOk r Q
OnOk-to P Q (Ok x) p f = f p
OnOk-to P Q (Err x) p f = tt

pub OnErr-to : {A E : Type 0} (P Q : Type 0) (r : Result A E) → OnErr r P → (P → Q) → OnErr r Q
OnErr-to P Q (Ok x) p f = tt
OnErr-to P Q (Err x) p f = f p
