-- Ops put in order by file, also behind references. A stable sort of ops by file, behind references, is the insertion
-- of each after those of its file.
use Rattle.std.proofs.Common.{◌≡◌, ℕ, ◌+◌, Bool, not, cond, List, [], ◌∷◌, ◌++◌, Some, None, map, take, drop, nat_lt, refl, sym, ap, ◌∙◌, suc, ◌<◌, true, false, filter, fold, length, get_or, arith, subst, ◌⊎◌, inl, inr, append_assoc}
use Rattle.std.proofs.lemmas.{List.{map-append, take-map, drop-map, length-map, append-nil}, Bool.Decides.nat_tests}
use Rattle.std.proofs.lemmas.{Bool.{and_parts, true≢false}, Cmp.{upto, tied_itself, nat_list_cmp_total}}
use Rattle.std.proofs.lemmas.List.Sorted.{ranks_by, sorted_far}
use Rattle.std.specs.{List.{insert, prefix_len}, Option.unwrap_or, Ordering.{is_gt, is_lt, ordering_reverse}}
use Rattle.std.specs.{Prelude.{◌&&◌, ◌≤◌}, List.Sorted.{IsSortedByKey, IsStableByKey}, declared.cmp.Ordering.Ordering}
use Rattle.std.specs.declared.cmp.Ordering.TheVariants.{Less, Equal, Greater}
use Rattle.tq_store.specs.Copies.{name_cmp}
use Rattle.tq_evidence.specs.{declared.op.Op.Op, Evidence.{place_among, place_of, put_op}}
use Rattle.tq_shape.{specs.Journal.Has, proofs.Places.Has-filter}

module _ {X : Type 0} (now : X → Op) where
  prefix_len-now : (p : Op → Bool) (xs : List X) → prefix_len p (map now xs) ≡ prefix_len (λ x. p (now x)) xs
  prefix_len-now p [] = refl
  prefix_len-now p (x ∷ xs) = ap (λ n. cond (p (now x)) (1 + n) 0) (prefix_len-now p xs)

  place-now : (file : List ℕ) (xs : List X) → place_among now file xs ≡ place_of file (map now xs)
  place-now file xs =
      let places = sym (prefix_len-now (λ op. not (is_gt (name_cmp op.file file))) xs) in
      let lengths = sym (length-map xs now) in
      λ i. unwrap_or (cond (nat_lt (places i) (lengths i)) (Some (places i)) None) (lengths i)

  insert-now : (xs : List X) (place : ℕ) (x : X) → map now (insert xs place x) ≡ insert (map now xs) place (now x)
  insert-now xs place x =
      map-append now (take place xs) (x ∷ drop place xs)
      ∙ (λ i. sym (take-map now place xs) i ++ now x ∷ sym (drop-map now place xs) i)

  -- an op put in its place behind references
  pub put-now : (xs : List X) (x : X) → map now (insert xs (place_among now (now x).file xs) x) ≡ put_op (map now xs) (now x)
  put-now xs x = insert-now xs (place_among now (now x).file xs) x ∙ ap (λ place. insert (map now xs) place (now x)) (place-now (now x).file xs)

-- ---- stable sort

-- ---- the order of names

reversed_lt : (r : Ordering) → is_lt (ordering_reverse r) ≡ is_gt r
reversed_lt Less = refl
reversed_lt Equal = refl
reversed_lt Greater = refl

flip : (a b : List ℕ) → is_lt (name_cmp a b) ≡ is_gt (name_cmp b a)
flip a b = ap is_lt (nat_list_cmp_total.antisymm a b) ∙ reversed_lt (name_cmp b a)

not_both : (r : Ordering) → is_gt r ≡ true → is_lt r ≡ false
not_both Less h = sym h
not_both Equal h = refl
not_both Greater h = refl

not-false : (b : Bool) → not b ≡ true → b ≡ false
not-false true h = sym h
not-false false h = refl

cancel : {X : Type 0} (b : Bool) (x : X) (xs ys : List X) → cond b (x ∷ xs) xs ≡ cond b (x ∷ ys) ys → xs ≡ ys
cancel true x xs ys e = cc
cancel false x xs ys e = e

same_head : {X : Type 0} (x y : X) (xs ys : List X) → x ∷ xs ≡ y ∷ ys → x ≡ y
same_head x y xs ys e = cc

none_first : {X : Type 0} (x : X) (xs : List X) → [] ≡ x ∷ xs → ⊥
none_first x xs e = cc

split_place : (n l : ℕ) → n ≤ l → unwrap_or (cond (nat_lt n l) (Some n) None) l ≡ n
split_place n l le = by (nat_lt n l) refl
  where
    by : (b : Bool) → nat_lt n l ≡ b → unwrap_or (cond b (Some n) None) l ≡ n
    by true t = refl
    by false f = grind (arith, nat_tests)

prefix_len-most : {X : Type 0} (p : X → Bool) (xs : List X) → prefix_len p xs ≤ length xs
prefix_len-most p [] = omega arith
prefix_len-most p (x ∷ xs) = by (p x) (prefix_len-most p xs)
  where
    by : (b : Bool) → prefix_len p xs ≤ length xs → cond b (1 + prefix_len p xs) 0 ≤ length (x ∷ xs)
    by true le = omega arith
    by false le = omega arith

module _ {X : Type 0} (now : X → Op) where
  -- the one's file comes after the other's
  abbrev past : X → X → Bool
  past x y = is_gt (name_cmp (now x).file (now y).file)

  abbrev tie : X → X → Bool
  tie x y = not (is_lt (name_cmp (now x).file (now y).file)) && not (is_lt (name_cmp (now y).file (now x).file))

  tie-itself : (x : X) → tie x x ≡ true
  tie-itself x = let e = ap is_lt (tied_itself nat_list_cmp_total (now x).file) in λ i. not (e i) && not (e i)

  tie-from : (x y : X) → past x y ≡ false → past y x ≡ false → tie x y ≡ true
  tie-from x y h k = λ i. not ((flip (now x).file (now y).file ∙ k) i) && not ((flip (now y).file (now x).file ∙ h) i)

  tie-left : (x y : X) → tie x y ≡ true → past y x ≡ false
  tie-left x y t = sym (flip (now x).file (now y).file) ∙ not-false (is_lt (name_cmp (now x).file (now y).file)) (and_parts _ _ t).0

  tie-right : (x y : X) → tie x y ≡ true → past x y ≡ false
  tie-right x y t = sym (flip (now y).file (now x).file) ∙ not-false (is_lt (name_cmp (now y).file (now x).file)) (and_parts _ _ t).1

  through : (x y z : X) → past x y ≡ false → past y z ≡ false → past x z ≡ false
  through x y z = upto nat_list_cmp_total (now x).file (now y).file (now z).file

  past-back : (x y : X) → past x y ≡ true → past y x ≡ false
  past-back x y h = sym (flip (now x).file (now y).file) ∙ not_both (name_cmp (now x).file (now y).file) h

  -- ---- lists that rise by file

  abbrev Rises : List X → Type 0
  Rises [] = Unit {0}
  Rises (x ∷ xs) = ((y : X) → Has xs y → past x y ≡ false) × Rises xs

  first_least : (x : X) (xs : List X) (y : X) → Rises (x ∷ xs) → Has (x ∷ xs) y → past x y ≡ false
  first_least x xs y rise (inl e) = subst (λ (z : X). past x z ≡ false) e (ap is_gt (tied_itself nat_list_cmp_total (now x).file))
  first_least x xs y rise (inr h) = rise.0 y h

  kept : (z w : X) (ws : List X) → tie z w ≡ true → filter (tie z) (w ∷ ws) ≡ w ∷ filter (tie z) ws
  kept z w ws t = ap (λ b. cond b (w ∷ filter (tie z) ws) (filter (tie z) ws)) t

  -- two that rise, and have the same elements of each file in the same order, are equal
  unique : (xs ys : List X) → Rises xs → Rises ys → ((z : X) → filter (tie z) xs ≡ filter (tie z) ys) → xs ≡ ys
  unique [] [] rx ry h = refl
  unique [] (y ∷ ys) rx ry h = absurd (none_first y (filter (tie y) ys) (h y ∙ kept y y ys (tie-itself y)))
  unique (x ∷ xs) [] rx ry h = absurd (none_first x (filter (tie x) xs) (sym (h x) ∙ kept x x xs (tie-itself x)))
  unique (x ∷ xs) (y ∷ ys) rx ry h =
      let there : Has (y ∷ ys) x = (Has-filter (tie x) (y ∷ ys) x (subst (λ (l : List X). Has l x) (sym (kept x x xs (tie-itself x)) ∙ h x) (inl refl))).0 in
      let here : Has (x ∷ xs) y = (Has-filter (tie y) (x ∷ xs) y (subst (λ (l : List X). Has l y) (sym (kept y y ys (tie-itself y)) ∙ sym (h y)) (inl refl))).0 in
      let t : tie x y ≡ true = tie-from x y (first_least x xs y rx here) (first_least y ys x ry there) in
      let same : x ≡ y = same_head x y (filter (tie x) xs) (filter (tie x) ys) (sym (kept x x xs (tie-itself x)) ∙ h x ∙ kept x y ys t) in
      let rest : (z : X) → filter (tie z) xs ≡ filter (tie z) ys = λ z. cancel (tie z x) x (filter (tie z) xs) (filter (tie z) ys) (h z ∙ ap (λ w. filter (tie z) (w ∷ ys)) (sym same)) in
      λ i. same i ∷ unique xs ys rx.1 ry.1 rest i

  -- ---- insertion

  put : List X → X → List X
  put done x = insert done (place_among now (now x).file done) x

  ins : X → List X → List X
  ins x [] = x ∷ []
  ins x (y ∷ ys) = cond (past y x) (x ∷ y ∷ ys) (y ∷ ins x ys)

  insert-ins : (x : X) (ys : List X) → insert ys (prefix_len (λ y. not (past y x)) ys) x ≡ ins x ys
  unfolding ins
  insert-ins x [] = refl
  insert-ins x (y ∷ ys) = by (past y x) (insert-ins x ys)
    where
      by : (b : Bool) → insert ys (prefix_len (λ y. not (past y x)) ys) x ≡ ins x ys
          → insert (y ∷ ys) (cond (not b) (1 + prefix_len (λ y. not (past y x)) ys) 0) x ≡ cond b (x ∷ y ∷ ys) (y ∷ ins x ys)
      by true ih = refl
      by false ih =
          let next : 1 + prefix_len (λ y. not (past y x)) ys ≡ suc (prefix_len (λ y. not (past y x)) ys) = omega arith in
          ap (λ n. insert (y ∷ ys) n x) next ∙ ap (λ l. y ∷ l) ih

  put-ins : (done : List X) (x : X) → put done x ≡ ins x done
  unfolding put
  put-ins done x =
      ap (λ n. insert done n x) (split_place (prefix_len (λ y. not (past y x)) done) (length done) (prefix_len-most (λ y. not (past y x)) done))
      ∙ insert-ins x done

  Has-ins : (x : X) (ys : List X) (w : X) → Has (ins x ys) w → (x ≡ w) ⊎ Has ys w
  unfolding ins
  Has-ins x [] w h = h
  Has-ins x (y ∷ ys) w h = by (past y x) h (λ k. Has-ins x ys w k)
    where
      by : (b : Bool) → Has (cond b (x ∷ y ∷ ys) (y ∷ ins x ys)) w → (Has (ins x ys) w → (x ≡ w) ⊎ Has ys w) → (x ≡ w) ⊎ Has (y ∷ ys) w
      by true k ih = k
      by false (inl e) ih = inr (inl e)
      by false (inr k) ih = elim (ih k) [ inl e ↦ inl e | inr m ↦ inr (inr m) ]

  ins-Rises : (x : X) (ys : List X) → Rises ys → Rises (ins x ys)
  unfolding ins
  ins-Rises x [] rise = (λ y h. absurd h, tt)
  ins-Rises x (y ∷ ys) rise = by (past y x) refl (ins-Rises x ys rise.1)
    where
      later : past y x ≡ false → (w : X) → (x ≡ w) ⊎ Has ys w → past y w ≡ false
      later h w (inl e) = subst (λ (z : X). past y z ≡ false) e h
      later h w (inr k) = rise.0 w k

      by : (b : Bool) → past y x ≡ b → Rises (ins x ys) → Rises (cond b (x ∷ y ∷ ys) (y ∷ ins x ys))
      by true t ih = (λ w h. through x y w (past-back y x t) (first_least y ys w rise h), rise)
      by false f ih = (λ w h. later f w (Has-ins x ys w h), ih)

  -- ---- those of one file

  apart : (z x w : X) → tie z x ≡ true → past w x ≡ true → tie z w ≡ false
  apart z x w t h = by (tie z w) refl
    where
      by : (b : Bool) → tie z w ≡ b → b ≡ false
      by true k = absurd (true≢false (sym h ∙ through w z x (tie-left z w k) (tie-right z x t)))
      by false k = refl

  none_tied : (z x : X) (ws : List X) → tie z x ≡ true → ((w : X) → Has ws w → past w x ≡ true) → filter (tie z) ws ≡ []
  none_tied z x [] t above = refl
  none_tied z x (w ∷ ws) t above =
      ap (λ b. cond b (w ∷ filter (tie z) ws) (filter (tie z) ws)) (apart z x w t (above w (inl refl)))
      ∙ none_tied z x ws t (λ v h. above v (inr h))

  still_past : (x y w : X) → past y x ≡ true → past y w ≡ false → past w x ≡ true
  still_past x y w t le = by (past w x) refl
    where
      by : (b : Bool) → past w x ≡ b → b ≡ true
      by true k = refl
      by false k = absurd (true≢false (sym t ∙ through y w x le k))

  filter-ins : (z x : X) (ys : List X) → Rises ys → filter (tie z) (ins x ys) ≡ filter (tie z) ys ++ filter (tie z) (x ∷ [])
  unfolding ins
  filter-ins z x [] rise = refl
  filter-ins z x (y ∷ ys) rise = by (past y x) refl (filter-ins z x ys rise.1)
    where
      first : (b : Bool) → tie z x ≡ b → past y x ≡ true → cond b (x ∷ filter (tie z) (y ∷ ys)) (filter (tie z) (y ∷ ys)) ≡ filter (tie z) (y ∷ ys) ++ cond b (x ∷ []) []
      first true t h =
          let none : filter (tie z) (y ∷ ys) ≡ [] = none_tied z x (y ∷ ys) t (λ w k. still_past x y w h (first_least y ys w rise k)) in
          ap (λ l. x ∷ l) none ∙ sym (ap (λ l. l ++ x ∷ []) none)
      first false t h = sym (append-nil (filter (tie z) (y ∷ ys)))

      rest : (c : Bool) → filter (tie z) (ins x ys) ≡ filter (tie z) ys ++ filter (tie z) (x ∷ [])
          → cond c (y ∷ filter (tie z) (ins x ys)) (filter (tie z) (ins x ys)) ≡ cond c (y ∷ filter (tie z) ys) (filter (tie z) ys) ++ filter (tie z) (x ∷ [])
      rest true ih = ap (λ l. y ∷ l) ih
      rest false ih = ih

      by : (b : Bool) → past y x ≡ b → filter (tie z) (ins x ys) ≡ filter (tie z) ys ++ filter (tie z) (x ∷ [])
          → filter (tie z) (cond b (x ∷ y ∷ ys) (y ∷ ins x ys)) ≡ filter (tie z) (y ∷ ys) ++ filter (tie z) (x ∷ [])
      by true t ih = first (tie z x) refl t
      by false f ih = rest (tie z y) ih

  -- ---- all of them put in

  put-Rises : (done : List X) (x : X) → Rises done → Rises (put done x)
  put-Rises done x rise = subst Rises (sym (put-ins done x)) (ins-Rises x done rise)

  all-Rises : (done xs : List X) → Rises done → Rises (fold put done xs)
  all-Rises done [] rise = rise
  all-Rises done (x ∷ xs) rise = all-Rises (put done x) xs (put-Rises done x rise)

  joined : (z x : X) (xs : List X) → filter (tie z) (x ∷ []) ++ filter (tie z) xs ≡ filter (tie z) (x ∷ xs)
  joined z x xs = by (tie z x)
    where
      by : (b : Bool) → cond b (x ∷ []) [] ++ filter (tie z) xs ≡ cond b (x ∷ filter (tie z) xs) (filter (tie z) xs)
      by true = refl
      by false = refl

  filter-all : (z : X) (done xs : List X) → Rises done → filter (tie z) (fold put done xs) ≡ filter (tie z) done ++ filter (tie z) xs
  filter-all z done [] rise = sym (append-nil (filter (tie z) done))
  filter-all z done (x ∷ xs) rise =
      filter-all z (put done x) xs (put-Rises done x rise)
      ∙ ap (λ l. filter (tie z) l ++ filter (tie z) xs) (put-ins done x)
      ∙ ap (λ l. l ++ filter (tie z) xs) (filter-ins z x done rise)
      ∙ append_assoc (filter (tie z) done) (filter (tie z) (x ∷ [])) (filter (tie z) xs)
      ∙ ap (λ l. filter (tie z) done ++ l) (joined z x xs)

  map-all : (done xs : List X) → map now (fold put done xs) ≡ fold put_op (map now done) (map now xs)
  unfolding put
  map-all done [] = refl
  map-all done (x ∷ xs) = map-all (put done x) xs ∙ ap (λ l. fold put_op l (map now xs)) (put-now now done x)

  -- ---- what a sort by key ensures

  at_place : (xs : List X) (y d : X) → Has xs y → (j : ℕ) × (j < length xs) × (get_or xs j d ≡ y)
  at_place [] y d h = absurd h
  at_place (x ∷ xs) y d (inl e) = (0, omega arith, e)
  at_place (x ∷ xs) y d (inr h) = let r = at_place xs y d h in (suc r.0, (let lt = r.1 in omega arith), r.2)

  Rises-far : (xs : List X) → ((i j : ℕ) (d : X) → i ≤ j → j < length xs → is_lt (name_cmp (now (get_or xs j d)).file (now (get_or xs i d)).file) ≡ false) → Rises xs
  Rises-far [] far = tt
  Rises-far (x ∷ xs) far = (
    (λ y h.
        let r = at_place xs y x h in
        let lt = r.1 in
        let up : is_lt (name_cmp (now (get_or xs r.0 x)).file (now x).file) ≡ false = far 0 (suc r.0) x (omega arith) (omega arith) in
        sym (flip (now y).file (now x).file) ∙ ap (λ w. is_lt (name_cmp (now w).file (now x).file)) (sym r.2) ∙ up),
    Rises-far xs (λ i j d le lt. far (suc i) (suc j) d (omega arith) (omega arith)),
  )

  Rises-sorted : (xs : List X) → IsSortedByKey (λ x. (now x).file) name_cmp xs → Rises xs
  Rises-sorted xs up = Rises-far xs (sorted_far _ (ranks_by nat_list_cmp_total (λ x. (now x).file)) xs up)

  pub sorted-put : (old new : List X) → IsSortedByKey (λ x. (now x).file) name_cmp new → IsStableByKey (λ x. (now x).file) name_cmp old new
      → map now new ≡ fold put_op [] (map now old)
  sorted-put old new up stable =
      ap (map now) (unique new (fold put [] old) (Rises-sorted new up) (all-Rises [] old tt) (λ z. stable z ∙ sym (filter-all z [] old tt)))
      ∙ map-all [] old
