-- What follows where a slab and its indexes agree with a set of locks, and that they still do after a change.
use Rattle.std.proofs.Common.{◌≡◌, ◌≢◌, ℕ, zero, suc, Bool, true, false, cond, not, List, [], ◌∷◌, ◌++◌, map, filter, take, drop, Option, Some, None, refl, ap, sym, ◌∙◌, inl, inr, get_or}
use Rattle.std.proofs.lemmas.List.{map-append, map-id}
use lib.Dec.{T}
use mathlib.Core.Bool.{true≢false}
use Rattle.std.specs.FinMap.Entries.{put, find, where_key, is_sorted, is_sorted-where_key, find-where_key}
use Rattle.std.specs.{List.{insert, remove, take-map, drop-map, filter_map}, Ordering.eq_by_cmp, Cmp.eq_by_cmp_equiv}
use Rattle.std.specs.declared.cmp.Ordering.TheVariants.{Equal}
use Rattle.slab.specs.Slab.{Slab, get, Updates}
use Rattle.tq_shape.specs.Journal.{Has}
use Rattle.tq_locks.specs.{declared.mode.Lock.Lock, Locks.{LockKey, lock_cmp}, Keys.place, Kept.AreKeysOf}
use Rattle.tq_locks.proofs.{Found.{locks_total, locks_same, none_some, some_same}, Locked.same_key}
use Rattle.tq_locks.proofs.Placed.{insert-place, remove-place, where_key-put, where_key-swap, other_keys, revalued, put-revalued}

-- ---- lists

module _ {A : Type 0} where
  Has-step : (p : A → Bool) (x : A) (xs : List A) (y : A) (b : Bool) → p x ≡ b → Has (x ∷ xs) y → p y ≡ true → (Has xs y → Has (filter p xs) y) → Has (cond b (x ∷ filter p xs) (filter p xs)) y
  Has-step p x xs y true e (inl s) t next = inl s
  Has-step p x xs y true e (inr h) t next = inr (next h)
  Has-step p x xs y false e (inl s) t next = absurd (true≢false (sym t ∙ ap p (sym s) ∙ e))
  Has-step p x xs y false e (inr h) t next = next h

  pub filter-Has : (p : A → Bool) (xs : List A) (y : A) → Has xs y → p y ≡ true → Has (filter p xs) y
  filter-Has p [] y h t = absurd h
  filter-Has p (x ∷ xs) y h t = Has-step p x xs y (p x) refl h t (λ g. filter-Has p xs y g t)

  unfiltered_step : (p : A → Bool) (x : A) (xs : List A) (y : A) (b : Bool) → p x ≡ b → Has (cond b (x ∷ filter p xs) (filter p xs)) y → (Has (filter p xs) y → Has xs y × (p y ≡ true)) → Has (x ∷ xs) y × (p y ≡ true)
  unfiltered_step p x xs y true e (inl s) next = (inl s, ap p (sym s) ∙ e)
  unfiltered_step p x xs y true e (inr h) next = let r = next h in (inr r.0, r.1)
  unfiltered_step p x xs y false e h next = let r = next h in (inr r.0, r.1)

  pub Has-filter : (p : A → Bool) (xs : List A) (y : A) → Has (filter p xs) y → Has xs y × (p y ≡ true)
  Has-filter p [] y h = absurd h
  Has-filter p (x ∷ xs) y h = unfiltered_step p x xs y (p x) refl h (Has-filter p xs y)

  pub head_of : (x y : Option A) (xs ys : List (Option A)) → x ∷ xs ≡ y ∷ ys → x ≡ y
  head_of x y xs ys e = ap (λ zs. first_or zs) e
    where
      first_or : List (Option A) → Option A
      first_or [] = None
      first_or (z ∷ zs) = z

  pub tail_of : (x y : Option A) (xs ys : List (Option A)) → x ∷ xs ≡ y ∷ ys → xs ≡ ys
  tail_of x y xs ys e = ap (drop 1) e

  pub nil_cons : (x : Option A) (xs : List (Option A)) → [] ≡ x ∷ xs → ⊥
  nil_cons x xs e = true≢false (ap (λ zs. is_nil zs) e)
    where
      is_nil : List (Option A) → Bool
      is_nil [] = true
      is_nil (z ∷ zs) = false

  -- keys find what they found, each changed in the same way
  pub found_changed : (f g : ℕ → Option A) (h : A → A) (keys : List ℕ) (xs : List A) → map f keys ≡ map Some xs → ((k : ℕ) (x : A) → Has xs x → f k ≡ Some x → g k ≡ Some (h x)) → map g keys ≡ map Some (map h xs)
  found_changed f g h [] [] e told = refl
  found_changed f g h [] (x ∷ xs) e told = absurd (nil_cons (Some x) (map Some xs) e)
  found_changed f g h (k ∷ keys) [] e told = absurd (nil_cons (f k) (map f keys) (sym e))
  found_changed f g h (k ∷ keys) (x ∷ xs) e told =
      let rest = found_changed f g h keys xs (tail_of (f k) (Some x) (map f keys) (map Some xs) e) (λ j y m. told j y (inr m)) in
      λ i. told k x (inl refl) (head_of (f k) (Some x) (map f keys) (map Some xs) e) i ∷ rest i

  pub found_same : (f g : ℕ → Option A) (keys : List ℕ) (xs : List A) → map f keys ≡ map Some xs → ((k : ℕ) (x : A) → Has xs x → f k ≡ Some x → g k ≡ Some x) → map g keys ≡ map Some xs
  found_same f g keys xs e told = found_changed f g (λ x. x) keys xs e told ∙ ap (map Some) (map-id xs)

  -- an item is under some key
  pub key_of : (f : ℕ → Option A) (keys : List ℕ) (xs : List A) (x : A) → map f keys ≡ map Some xs → Has xs x → (k : ℕ) × Has keys k × (f k ≡ Some x)
  key_of f [] [] x e h = absurd h
  key_of f [] (y ∷ xs) x e h = absurd (nil_cons (Some y) (map Some xs) e)
  key_of f (k ∷ keys) [] x e h = absurd h
  key_of f (k ∷ keys) (y ∷ xs) x e (inl s) = (k, inl refl, head_of (f k) (Some y) (map f keys) (map Some xs) e ∙ ap Some s)
  key_of f (k ∷ keys) (y ∷ xs) x e (inr h) = let r = key_of f keys xs x (tail_of (f k) (Some y) (map f keys) (map Some xs) e) h in (r.0, inr r.1, r.2)

  -- a key finds an item
  pub item_of : (f : ℕ → Option A) (keys : List ℕ) (xs : List A) (k : ℕ) → map f keys ≡ map Some xs → Has keys k → (x : A) × Has xs x × (f k ≡ Some x)
  item_of f [] xs k e h = absurd h
  item_of f (j ∷ keys) [] k e h = absurd (nil_cons (f j) (map f keys) (sym e))
  item_of f (j ∷ keys) (y ∷ xs) k e (inl s) = (y, inl refl, ap f (sym s) ∙ head_of (f j) (Some y) (map f keys) (map Some xs) e)
  item_of f (j ∷ keys) (y ∷ xs) k e (inr h) = let r = item_of f keys xs k (tail_of (f j) (Some y) (map f keys) (map Some xs) e) h in (r.0, inr r.1, r.2)

  pub map-insert : {B : Type 0} (f : B → A) (xs : List B) (i : ℕ) (x : B) → map f (insert xs i x) ≡ insert (map f xs) i (f x)
  map-insert f xs i x = map-append f (take i xs) (x ∷ drop i xs) ∙ (λ j. sym (take-map f i xs) j ++ f x ∷ sym (drop-map f i xs) j)

  pub map-remove : {B : Type 0} (f : B → A) (xs : List B) (i : ℕ) → map f (remove xs i) ≡ remove (map f xs) i
  map-remove f xs i = map-append f (take i xs) (drop (suc i) xs) ∙ (λ j. sym (take-map f i xs) j ++ sym (drop-map f (suc i) xs) j)

  -- what is found under some key is a value, and the other way round
  pub Has-values : (slots : List (Option A)) (k : ℕ) (x : A) → get_or slots k None ≡ Some x → Has (filter_map (λ slot. slot) slots) x
  Has-values [] k x e = absurd (none_some x e)
  Has-values (None ∷ slots) zero x e = absurd (none_some x e)
  Has-values (None ∷ slots) (suc k) x e = Has-values slots k x e
  Has-values (Some y ∷ slots) zero x e = inl (some_same y x e)
  Has-values (Some y ∷ slots) (suc k) x e = inr (Has-values slots k x e)

  pub values-Has : (slots : List (Option A)) (x : A) → Has (filter_map (λ slot. slot) slots) x → (k : ℕ) × (get_or slots k None ≡ Some x)
  values-Has [] x h = absurd h
  values-Has (None ∷ slots) x h = let r = values-Has slots x h in (suc r.0, r.1)
  values-Has (Some y ∷ slots) x (inl s) = (0, ap Some s)
  values-Has (Some y ∷ slots) x (inr h) = let r = values-Has slots x h in (suc r.0, r.1)

-- ---- the entries of one name's list

abbrev Entry : Type 0
Entry = LockKey × Lock

pub itself : (q : LockKey) → eq_by_cmp lock_cmp q q ≡ true
itself q = (eq_by_cmp_equiv locks_total).refl q

pub apart : (q r : LockKey) → q ≢ r → eq_by_cmp lock_cmp q r ≡ false
apart q r h = by_test (eq_by_cmp lock_cmp q r) refl
  where
    by_test : (b : Bool) → eq_by_cmp lock_cmp q r ≡ b → b ≡ false
    by_test true e = absurd (h (same_key q r e))
    by_test false e = refl

pub differ : (q r : LockKey) → eq_by_cmp lock_cmp q r ≡ false → q ≢ r
differ q r e s = true≢false (sym (itself q) ∙ ap (eq_by_cmp lock_cmp q) s ∙ e)

pub alike : (p : LockKey → Bool) (q x : LockKey) → lock_cmp q x ≡ Equal → p x ≡ p q
alike p q x e = ap p (sym (locks_same q x e))

others_all : (q : LockKey) (xs : List Entry) → find lock_cmp q xs ≡ None → other_keys locks_total locks_same q xs ≡ xs
others_all q [] e = refl
others_all q (x ∷ xs) e = by_test (eq_by_cmp lock_cmp q x.0) refl e (others_all q xs)
  where
    by_test : (b : Bool) → eq_by_cmp lock_cmp q x.0 ≡ b → cond b (Some x.1) (find lock_cmp q xs) ≡ None → (find lock_cmp q xs ≡ None → other_keys locks_total locks_same q xs ≡ xs) → cond (not b) (x ∷ other_keys locks_total locks_same q xs) (other_keys locks_total locks_same q xs) ≡ x ∷ xs
    by_test true t f next = absurd (none_some x.1 (sym f))
    by_test false t f next = ap (λ ys. x ∷ ys) (next f)

-- a test of the keys, and new values
pub filter-valued : (p : LockKey → Bool) (g : Entry → Lock) (es : List Entry) → where_key lock_cmp p (map (λ e. (e.0, g e)) es) ≡ map (λ e. (e.0, g e)) (where_key lock_cmp p es)
filter-valued p g [] = refl
filter-valued p g (e ∷ es) = by_test (p e.0) (filter-valued p g es)
  where
    by_test : (b : Bool) → where_key lock_cmp p (map (λ e. (e.0, g e)) es) ≡ map (λ e. (e.0, g e)) (where_key lock_cmp p es)
        → cond b ((e.0, g e) ∷ where_key lock_cmp p (map (λ e. (e.0, g e)) es)) (where_key lock_cmp p (map (λ e. (e.0, g e)) es)) ≡ map (λ e. (e.0, g e)) (cond b (e ∷ where_key lock_cmp p es) (where_key lock_cmp p es))
    by_test true next = ap (λ ys. (e.0, g e) ∷ ys) next
    by_test false next = next

module _ (s t : Slab Entry) (p : LockKey → Bool) (es : List Entry) (keys later : List ℕ) (key : ℕ) (q : LockKey) (l : Lock) (listed : AreKeysOf s keys (where_key lock_cmp p es)) (sorted : T (is_sorted lock_cmp es)) where
  find_in : find lock_cmp q (where_key lock_cmp p es) ≡ cond (p q) (find lock_cmp q es) None
  find_in = find-where_key lock_cmp p q (alike p q) es

  pub put_listed : find lock_cmp q es ≡ None → get s key ≡ None → Updates s t key (Some (q, l)) → later ≡ cond (p q) (insert keys (place lock_cmp q (where_key lock_cmp p es)) key) keys → AreKeysOf t later (where_key lock_cmp p (put lock_cmp q l es))
  put_listed absent vacant u e =
      let stay : map (get t) keys ≡ map Some (where_key lock_cmp p es) = found_same (get s) (get t) keys (where_key lock_cmp p es) listed (λ k x h f. u.others k (λ same. none_some x (sym vacant ∙ ap (get s) (sym same) ∙ f)) ∙ f) in
      ap (map (get t)) e ∙ by_test (p q) refl stay ∙ ap (map Some) (sym (where_key-put locks_total locks_same p q l es sorted))
    where
      by_test : (b : Bool) → p q ≡ b → map (get t) keys ≡ map Some (where_key lock_cmp p es) → map (get t) (cond b (insert keys (place lock_cmp q (where_key lock_cmp p es)) key) keys) ≡ map Some (cond b (put lock_cmp q l (where_key lock_cmp p es)) (where_key lock_cmp p es))
      by_test true h stay =
          let place_is = place lock_cmp q (where_key lock_cmp p es) in
          map-insert (get t) keys place_is key
          ∙ (λ i. insert (stay i) place_is (u.changed i))
          ∙ sym (map-insert Some (where_key lock_cmp p es) place_is (q, l))
          ∙ ap (map Some) (insert-place locks_total locks_same q l (where_key lock_cmp p es) (find_in ∙ (λ i. cond (h i) (absent i) None)))
      by_test false h stay = stay

  pub set_listed : (m : Lock) → ((j k : ℕ) (x y : Entry) → get s j ≡ Some x → get s k ≡ Some y → x.0 ≡ y.0 → j ≡ k) → find lock_cmp q es ≡ Some m → get s key ≡ Some (q, m) → Updates s t key (Some (q, l)) → later ≡ keys → AreKeysOf t later (where_key lock_cmp p (put lock_cmp q l es))
  set_listed m once found at u e =
      ap (map (get t)) e
      ∙ found_changed (get s) (get t) (revalued locks_total locks_same q l) keys (where_key lock_cmp p es) listed (λ k x h f. by_test k x f (eq_by_cmp lock_cmp q x.0) refl)
      ∙ ap (map Some) (sym (filter-valued p (λ x. cond (eq_by_cmp lock_cmp q x.0) l x.1) es) ∙ ap (where_key lock_cmp p) (sym (put-revalued locks_total locks_same q l m es sorted found)))
    where
      by_test : (k : ℕ) (x : Entry) → get s k ≡ Some x → (b : Bool) → eq_by_cmp lock_cmp q x.0 ≡ b → get t k ≡ Some (x.0, cond b l x.1)
      by_test k x f true t_is =
          let name = same_key q x.0 t_is in
          let one : k ≡ key = once k key x (q, m) f at (sym name) in
          ap (get t) one ∙ u.changed ∙ (λ i. Some (name i, l))
      by_test k x f false t_is = u.others k (λ one. differ q x.0 t_is (ap (λ (y : Entry). y.0) (some_same (q, m) x (sym at ∙ ap (get s) (sym one) ∙ f)))) ∙ f

  pub remove_listed : find lock_cmp q es ≡ Some l → get s key ≡ Some (q, l) → Updates s t key None → later ≡ cond (p q) (remove keys (place lock_cmp q (where_key lock_cmp p es))) keys → AreKeysOf t later (where_key lock_cmp p (other_keys locks_total locks_same q es))
  remove_listed found at u e =
      let left = other_keys locks_total locks_same q (where_key lock_cmp p es) in
      let before : map (get s) later ≡ map Some left = ap (map (get s)) e ∙ by_test (p q) refl in
      found_same (get s) (get t) later left before (λ k x h f. u.others k (λ one. differ q x.0 (not_eq (eq_by_cmp lock_cmp q x.0) (Has-filter (λ (y : Entry). not (eq_by_cmp lock_cmp q y.0)) (where_key lock_cmp p es) x h).1) (ap (λ (y : Entry). y.0) (some_same (q, l) x (sym at ∙ ap (get s) (sym one) ∙ f)))) ∙ f)
      ∙ ap (map Some) (sym (where_key-swap locks_total locks_same p (λ k. not (eq_by_cmp lock_cmp q k)) es))
    where
      not_eq : (b : Bool) → not b ≡ true → b ≡ false
      not_eq true h = absurd (true≢false (sym h))
      not_eq false h = refl

      by_test : (b : Bool) → p q ≡ b → map (get s) (cond b (remove keys (place lock_cmp q (where_key lock_cmp p es))) keys) ≡ map Some (other_keys locks_total locks_same q (where_key lock_cmp p es))
      by_test true h =
          let place_is = place lock_cmp q (where_key lock_cmp p es) in
          map-remove (get s) keys place_is
          ∙ ap (λ ys. remove ys place_is) listed
          ∙ sym (map-remove Some (where_key lock_cmp p es) place_is)
          ∙ ap (map Some) (remove-place locks_total locks_same q l (where_key lock_cmp p es) (is_sorted-where_key lock_cmp p es sorted) (find_in ∙ (λ i. cond (h i) (found i) None)))
      by_test false h = listed ∙ ap (map Some) (sym (others_all q (where_key lock_cmp p es) (find_in ∙ (λ i. cond (h i) (find lock_cmp q es) None))))
