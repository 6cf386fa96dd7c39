-- Keys that a list has. Locks that are not stable are listed, after each change of a slab. A slab and lists of keys
-- that are clones hold the same.
use Rattle.std.proofs.Common.{◌≡◌, ◌++◌, ℕ, nat_eq, zero, suc, ◌+◌, ◌≤◌, drop, ◌||◌, Bool, false, ap, sym, length, Option, Some, None, true, List, [], ◌∷◌, refl, ◌∙◌, inl, inr, ◌⊎◌, arith, ◌≢◌, ◌==◌, cond, subst}
use Rattle.std.proofs.lemmas.{Bool.Decides.nat_tests, Bool.cases_eq}
use mathlib.Core.Bool.{true≢false}
use Rattle.std.specs.{List.{list_any, filter_map, cons_option, slice_get, AllZip}, Option.{option_map, option_map_or}}
use Rattle.std.specs.Map.{lookup}
use Rattle.tq_shape.specs.Journal.{Has}
use Rattle.tq_locks.proofs.Found.{none_some, some_same}
use Rattle.tq_locks.specs.{declared.mode.Lock.Lock, Locks.{LockKey, ListsLoose, room_with, with_lock}}
use Rattle.slab.specs.Slab.{Slab, get, slab_len, Updates}
use Rattle.smallvec.specs.SmallVec.{SmallVec}

pub Has-more : (xs ys : List ℕ) (k : ℕ) → Has xs k → Has (xs ++ ys) k
Has-more [] ys k h = absurd h
Has-more (x ∷ xs) ys k (inl e) = inl e
Has-more (x ∷ xs) ys k (inr h) = inr (Has-more xs ys k h)

pub Has-last : (xs : List ℕ) (k : ℕ) → Has (xs ++ k ∷ []) k
Has-last [] k = inl refl
Has-last (x ∷ xs) k = inr (Has-last xs k)

pub before_last : (xs : List ℕ) (last k : ℕ) → Has (xs ++ last ∷ []) k → Has xs k ⊎ (last ≡ k)
before_last [] last k (inl e) = inr e
before_last [] last k (inr h) = absurd h
before_last (x ∷ xs) last k (inl e) = inl (inl e)
before_last (x ∷ xs) last k (inr h) = elim (before_last xs last k h) [ inl g ↦ inl (inr g) | inr e ↦ inr e ]

pub equal : (m n : ℕ) → nat_eq m n ≡ true → m ≡ n
equal m n h = grind (arith, nat_tests)

-- what a test of each key finds
pub Has-any : (xs : List ℕ) (k : ℕ) → Has xs k → list_any (nat_eq k) xs ≡ true
Has-any [] k h = absurd h
Has-any (x ∷ xs) k (inl e) = ap (λ b. b || list_any (nat_eq k) xs) (same x k e)
  where
    same : (m n : ℕ) → m ≡ n → nat_eq n m ≡ true
    same m n e = grind (arith, nat_tests)
Has-any (x ∷ xs) k (inr h) = by_test (nat_eq k x) (Has-any xs k h)
  where
    by_test : (b : Bool) → list_any (nat_eq k) xs ≡ true → b || list_any (nat_eq k) xs ≡ true
    by_test true h = refl
    by_test false h = h

pub any-Has : (xs : List ℕ) (k : ℕ) → list_any (nat_eq k) xs ≡ true → Has xs k
any-Has [] k h = absurd (true≢false (sym h))
any-Has (x ∷ xs) k h = by_test (nat_eq k x) refl h (any-Has xs k)
  where
    by_test : (b : Bool) → nat_eq k x ≡ b → b || list_any (nat_eq k) xs ≡ true → (list_any (nat_eq k) xs ≡ true → Has xs k) → Has (x ∷ xs) k
    by_test true e h next = inl (sym (equal k x e))
    by_test false e h next = inr (next h)

-- what is told from a place on is what the key there tells, and what is told behind it
pub told-at : {B : Type 0} (f : ℕ → Option B) (keys : List ℕ) (at key : ℕ) → slice_get keys at ≡ Some key → filter_map f (drop at keys) ≡ cons_option (f key) (filter_map f (drop (at + 1) keys))
told-at f [] at key e = absurd (none_some key e)
told-at f (k ∷ keys) zero key e = ap (λ k. cons_option (f k) (filter_map f keys)) (some_same k key e)
told-at f (k ∷ keys) (suc at) key e =
    let next : suc (at + 1) ≡ suc at + 1 = omega arith in
    told-at f keys at key e ∙ ap (λ n. cons_option (f key) (filter_map f (drop n (k ∷ keys)))) next

-- no more are told of than are listed
pub told_most : {A B : Type 0} (f : A → Option B) (xs : List A) → length (filter_map f xs) ≤ length xs
told_most {B = B} f [] = omega arith
told_most {B = B} f (x ∷ xs) = by_look (f x) (told_most f xs)
  where
    by_look : (o : Option B) → length (filter_map f xs) ≤ length xs → length (cons_option o (filter_map f xs)) ≤ suc (length xs)
    by_look None h = omega (arith, h)
    by_look (Some y) h = omega (arith, h)

-- ---- loosened

abbrev Entry : Type 0
Entry = LockKey × Lock

-- where there is room, the next key is listed
pub vacant_listed : (slab : Slab Entry) (keys : List ℕ) → slab_len slab + 1 ≤ room_with slab keys → Has keys slab.vacant_key
vacant_listed slab keys room = by_test (list_any (nat_eq slab.vacant_key) keys) refl room
  where
    by_test : (b : Bool) → list_any (nat_eq slab.vacant_key) keys ≡ b → slab_len slab + 1 ≤ cond b slab.capacity (slab_len slab) → Has keys slab.vacant_key
    by_test true e r = any-Has keys slab.vacant_key e
    by_test false e r = absurd (omega (arith, r))

pub listed_room : (slab : Slab Entry) (keys : List ℕ) (key : ℕ) → key ≡ slab.vacant_key → Has keys key → slab_len slab + 1 ≤ slab.capacity → slab_len slab + 1 ≤ room_with slab keys
listed_room slab keys key is has room =
    subst (λ b. slab_len slab + 1 ≤ cond b slab.capacity (slab_len slab)) (sym (Has-any keys slab.vacant_key (subst (Has keys) is has))) room

-- one more lock, whose key is listed
pub inserted_lists : (old new : Slab Entry) (keys : List ℕ) (key : ℕ) (e : Entry) → ListsLoose old keys → Updates old new key (Some e) → Has keys key → ListsLoose new keys
inserted_lists old new keys key e lists u has k loose = elim (cases_eq k key) [
  | inl one ↦ subst (Has keys) (sym one) has
  | inr other ↦ lists k (loose.0, sym (u.others k other) ∙ loose.1, loose.2)
]

module _ (old new : Slab Entry) (key : ℕ) (lock : Lock) (put : (k : ℕ) → get new k ≡ with_lock old key lock k) where
  pub put_lists : (keys : List ℕ) → ListsLoose old keys → ((entry : Entry) → get old key ≡ Some entry → lock.stable ≡ entry.1.stable) → ListsLoose new keys
  put_lists keys lists as_stable k loose = elim (cases_eq k key) [
    | inl one ↦ by_look one (get old key) refl
    | inr other ↦ lists k (loose.0, sym (ap (λ b. cond b (option_map (λ (e : Entry). (e.0, lock)) (get old k)) (get old k)) (apart other)) ∙ sym (put k) ∙ loose.1, loose.2)
  ]
    where
      apart : k ≢ key → (k == key) ≡ false
      apart other = by_test (k == key) refl
        where
          by_test : (b : Bool) → (k == key) ≡ b → b ≡ false
          by_test false e = refl
          by_test true e = absurd (other (same e))
            where
              same : (k == key) ≡ true → k ≡ key
              same h = grind (arith, nat_tests)

      here : k ≡ key → get new k ≡ option_map (λ (e : Entry). (e.0, lock)) (get old key)
      here one = put k ∙ ap (λ n. cond (n == key) (option_map (λ (e : Entry). (e.0, lock)) (get old n)) (get old n)) one ∙ ap (λ b. cond b (option_map (λ (e : Entry). (e.0, lock)) (get old key)) (get old key)) (itself key)
        where
          itself : (n : ℕ) → (n == n) ≡ true
          itself n = grind (arith, nat_tests)

      by_look : k ≡ key → (o : Option Entry) → get old key ≡ o → Has keys k
      by_look one None at = absurd (none_some loose.0 (sym (here one ∙ ap (option_map (λ (e : Entry). (e.0, lock))) at) ∙ loose.1))
      by_look one (Some e) at =
          let is : (e.0, lock) ≡ loose.0 = some_same (e.0, lock) loose.0 (sym (here one ∙ ap (option_map (λ (x : Entry). (x.0, lock))) at) ∙ loose.1) in
          subst (Has keys) (sym one) (lists key (e, at, sym (as_stable e at) ∙ ap (λ (x : Entry). x.1.stable) is ∙ loose.2))

-- ---- copied

module _ {K : Type 0} (C : K → K → Type 0) (same : (x y : K) → C x y → y ≡ x) (test : K → Bool) where
  pub cloned_lists : (es fs : List (K × SmallVec ℕ)) → AllZip (λ p q. C p.0 q.0 × (q.1.items ≡ p.1.items)) es fs → option_map_or (λ keys. keys.items) (lookup test fs) [] ≡ option_map_or (λ keys. keys.items) (lookup test es) []
  cloned_lists [] [] z = refl
  cloned_lists [] (f ∷ fs) z = absurd z
  cloned_lists (e ∷ es) [] z = absurd z
  cloned_lists (e ∷ es) (f ∷ fs) z =
      ap (λ k. option_map_or (λ keys. keys.items) (cond (test k) (Some f.1) (lookup test fs)) []) (same e.0 f.0 z.0.0)
      ∙ by_test (test e.0) (cloned_lists es fs z.1)
    where
      by_test : (b : Bool) → option_map_or (λ keys. keys.items) (lookup test fs) [] ≡ option_map_or (λ keys. keys.items) (lookup test es) []
          → option_map_or (λ keys. keys.items) (cond b (Some f.1) (lookup test fs)) [] ≡ option_map_or (λ keys. keys.items) (cond b (Some e.1) (lookup test es)) []
      by_test true next = z.0.1
      by_test false next = next
