-- The locks of a transaction become stable. The entries of a slab, put in order, are those of the set of locks.
use Rattle.std.proofs.Common.{◌≡◌, ℕ, nat_eq, ◌==◌, Bool, true, false, cond, ◌||◌, List, [], ◌∷◌, map, Option, Some, None, refl, ap, sym, subst, ◌∙◌, inl, inr, arith, zero, suc, ◌<◌, ◌≤◌, length, ◌+◌, get_or, Contains}
use Rattle.std.proofs.lemmas.{Bool.Decides.nat_tests, Map.Keys.IsDistinct-IsPermutation}
use Rattle.std.proofs.lemmas.List.Sorted.{list_any-IsPermutation, Contains-permutation, IsPermutation-sym, ranks_by, sorted_far}
use lib.Dec.{T}
use mathlib.Core.Bool.{true≢false}
use Rattle.std.specs.FinMap as fin
use Rattle.std.specs.{FinMap.Entries.{where_key, same_entries, is_sorted, below_all}, Option.option_map}
use Rattle.std.specs.{List.{list_any, filter_map, AllByRecursion, IsDistinct}, Cmp.eq_by_cmp_equiv}
use Rattle.std.specs.{List.Sorted.{IsPermutation, IsSortedByKey}, Ordering.{is_lt, is_eq, eq_by_cmp}}
use Rattle.std.specs.declared.cmp.{Ordering.Ordering, Ordering.TheVariants.{Less, Equal, Greater}}
use Rattle.slab.specs.Slab.{Slab, get, entries_from, values}
use Rattle.tq_store.specs.Names.{same_name}
use Rattle.tq_shape.specs.Journal.{Has}
use Rattle.tq_locks.specs.{declared.{keyed.KeyedLocks.KeyedLocks, mode.Lock.Lock}, Keys.keys_under}
use Rattle.tq_locks.specs.Locks.{LockKey, Locks, lock_cmp, held_of, locks_after_keep, entry_after_keep, steady_entry, entry_after_steady}
use Rattle.tq_locks.{specs.Kept.{AreKeysOf, Agrees}, proofs.Found.{locks_total, locks_same, none_some, some_same, both}}
use Rattle.tq_locks.proofs.{Locked.get-kept, Placed.{sorted-valued, turned}, Changed.{key_of_lock, find-agreed}}
use Rattle.tq_locks.proofs.Agreed.{filter-valued, Has-filter, found_changed, item_of, apart, values-Has}

abbrev Entry : Type 0
Entry = LockKey × Lock

-- the first of the keys may go first
pub steadied-more : (old new : Slab Entry) (k : ℕ) (keys : List ℕ) → ((j : ℕ) → get new j ≡ entry_after_steady old (k ∷ []) j) → (j : ℕ) → entry_after_steady new keys j ≡ entry_after_steady old (k ∷ keys) j
steadied-more old new k keys changed j = by_test (j == k) keys (changed j)
  where
    same : (b : Bool) (o : Option Entry) → cond b (option_map steady_entry (option_map steady_entry o)) (option_map steady_entry o) ≡ option_map steady_entry o
    same true None = refl
    same true (Some x) = refl
    same false o = refl

    by_test : (b : Bool) (keys : List ℕ) → get new j ≡ cond b (option_map steady_entry (get old j)) (get old j) → entry_after_steady new keys j ≡ cond b (option_map steady_entry (get old j)) (entry_after_steady old keys j)
    by_test true [] e = e
    by_test false [] e = e
    by_test true (i ∷ keys) e = (λ n. cond (j == i) (option_map steady_entry (e n)) (by_test true keys e n)) ∙ same (j == i) (get old j)
    by_test false (i ∷ keys) e = λ n. cond (j == i) (option_map steady_entry (e n)) (by_test false keys e n)

-- whatever order the keys have
steadied-any : (slab : Slab Entry) (keys : List ℕ) (k : ℕ) → entry_after_steady slab keys k ≡ cond (list_any (λ j. k == j) keys) (option_map steady_entry (get slab k)) (get slab k)
steadied-any slab [] k = refl
steadied-any slab (j ∷ keys) k = by_test (k == j) (steadied-any slab keys k)
  where
    by_test : (b : Bool) → entry_after_steady slab keys k ≡ cond (list_any (λ j. k == j) keys) (option_map steady_entry (get slab k)) (get slab k) → cond b (option_map steady_entry (get slab k)) (entry_after_steady slab keys k) ≡ cond (b || list_any (λ j. k == j) keys) (option_map steady_entry (get slab k)) (get slab k)
    by_test true next = refl
    by_test false next = next

pub steadied-moved : (slab : Slab Entry) (keys moved : List ℕ) → IsPermutation keys moved → (k : ℕ) → entry_after_steady slab moved k ≡ entry_after_steady slab keys k
steadied-moved slab keys moved p k =
    steadied-any slab moved k
    ∙ ap (λ b. cond b (option_map steady_entry (get slab k)) (get slab k)) (sym (list_any-IsPermutation (λ j. k == j) keys moved p))
    ∙ sym (steadied-any slab keys k)

-- what becomes stable is the transaction's
marked : (e : Entry) (b : Bool) → Some (e.0, record { mode = e.1.mode; since = e.1.since; version = e.1.version; stable = e.1.stable || b }) ≡ cond b (Some (steady_entry e)) (Some e)
marked e b = by_test e.1.stable b
  where
    by_test : (s b : Bool) → Some (e.0, record { mode = e.1.mode; since = e.1.since; version = e.1.version; stable = s || b }) ≡ cond b (Some (steady_entry e)) (Some (e.0, record { mode = e.1.mode; since = e.1.since; version = e.1.version; stable = s }))
    by_test true true = refl
    by_test true false = refl
    by_test false true = refl
    by_test false false = refl

-- the lock under a key, which is among the keys where it's the transaction's
is_steadied : (slab : Slab Entry) (txn k : ℕ) (e : Entry) (keys : List ℕ) → get slab k ≡ Some e → (Has keys k → (e.0.1 == txn) ≡ true) → ((e.0.1 == txn) ≡ true → Has keys k) → entry_after_steady slab keys k ≡ Some (entry_after_keep txn e)
is_steadied slab txn k e [] f own all = f ∙ by_test (e.0.1 == txn) all ∙ sym (marked e (e.0.1 == txn))
  where
    by_test : (b : Bool) → (b ≡ true → ⊥) → Some e ≡ cond b (Some (steady_entry e)) (Some e)
    by_test true h = absurd (h refl)
    by_test false h = refl
is_steadied slab txn k e (j ∷ keys) f own all = by_test (k == j) refl (is_steadied slab txn k e keys f (λ h. own (inr h)))
  where
    by_test : (b : Bool) → (k == j) ≡ b → (((e.0.1 == txn) ≡ true → Has keys k) → entry_after_steady slab keys k ≡ Some (entry_after_keep txn e)) → cond b (option_map steady_entry (get slab k)) (entry_after_steady slab keys k) ≡ Some (entry_after_keep txn e)
    by_test true t next =
        let one : j ≡ k = grind (arith, nat_tests) in
        ap (option_map steady_entry) f ∙ sym (marked e (e.0.1 == txn) ∙ ap (λ b. cond b (Some (steady_entry e)) (Some e)) (own (inl one)))
    by_test false t next = next (λ h. elim (all h) [ inl one ↦ absurd (true≢false (sym (itself k) ∙ ap (λ n. k == n) (sym one) ∙ t)) | inr h ↦ h ])
      where
        itself : (n : ℕ) → (n == n) ≡ true
        itself n = grind (arith, nat_tests)

none_steadied : (slab : Slab Entry) (k : ℕ) (keys : List ℕ) → get slab k ≡ None → entry_after_steady slab keys k ≡ None
none_steadied slab k [] h = h
none_steadied slab k (j ∷ keys) h = by_test (k == j) (none_steadied slab k keys h)
  where
    by_test : (b : Bool) → entry_after_steady slab keys k ≡ None → cond b (option_map steady_entry (get slab k)) (entry_after_steady slab keys k) ≡ None
    by_test true next = ap (option_map steady_entry) h
    by_test false next = next

entries-kept : (locks : Locks) (txn : ℕ) → fin.entries (locks_after_keep locks txn) ≡ map (entry_after_keep txn) (fin.entries locks)
entries-kept locks txn =
    let es = map (entry_after_keep txn) (fin.entries locks) in
    same_entries lock_cmp locks_total locks_same (fin.entries (locks_after_keep locks txn)) es (fin.entries_sorted (locks_after_keep locks txn))
    (subst T (sym (sorted-valued locks_total locks_same (λ e. (entry_after_keep txn e).1) (fin.entries locks))) (fin.entries_sorted locks))
    (λ q. sym (fin.get-entries (locks_after_keep locks txn) q) ∙ fin.get-from_entries locks_total es q)

module _ (old new : KeyedLocks) (locks : Locks) (txn : ℕ) (a : Agrees old locks) (steady_now : (k : ℕ) → get new.entries k ≡ entry_after_steady old.entries (keys_under nat_eq old.by_txn txn) k) where
  each : (k : ℕ) (e : Entry) → get old.entries k ≡ Some e → get new.entries k ≡ Some (entry_after_keep txn e)
  each k e f =
      steady_now k
      ∙ is_steadied old.entries txn k e (keys_under nat_eq old.by_txn txn) f
      (λ h. let x = item_of (get old.entries) (keys_under nat_eq old.by_txn txn) (held_of locks txn) k (a.of_txn txn) h in
      ap (λ (y : Entry). y.0.1 == txn) (some_same e x.0 (sym f ∙ x.2)) ∙ (Has-filter (λ (y : Entry). y.0.1 == txn) (fin.entries locks) x.0 x.1).1)
      (λ t. let at = key_of_lock old locks a e.0 e.1 (a.sound k e f) in
      let own : e.0.1 ≡ txn = same_number e.0.1 t in
      subst (λ n. Has (keys_under nat_eq old.by_txn n) k) own (subst (Has (keys_under nat_eq old.by_txn e.0.1)) (a.once at.0 k e e at.2 f refl) at.1))
    where
      same_number : (n : ℕ) → (n == txn) ≡ true → n ≡ txn
      same_number n h = grind (arith, nat_tests)

  was_there : (k : ℕ) (e : Entry) → get new.entries k ≡ Some e → (x : Entry) × (get old.entries k ≡ Some x) × (entry_after_keep txn x ≡ e)
  was_there k e f = by_look (get old.entries k) refl
    where
      by_look : (o : Option Entry) → get old.entries k ≡ o → (x : Entry) × (get old.entries k ≡ Some x) × (entry_after_keep txn x ≡ e)
      by_look None h = absurd (none_some e (sym (steady_now k ∙ none_steadied old.entries k (keys_under nat_eq old.by_txn txn) h) ∙ f))
      by_look (Some x) h = (x, h, some_same (entry_after_keep txn x) e (sym (each k x h) ∙ f))

  listed : (p : LockKey → Bool) (keys : List ℕ) → AreKeysOf old.entries keys (where_key lock_cmp p (fin.entries locks)) → AreKeysOf new.entries keys (where_key lock_cmp p (fin.entries (locks_after_keep locks txn)))
  listed p keys h =
      found_changed (get old.entries) (get new.entries) (entry_after_keep txn) keys (where_key lock_cmp p (fin.entries locks)) h (λ k x m f. each k x f)
      ∙ ap (map Some) (sym (ap (where_key lock_cmp p) (entries-kept locks txn) ∙ filter-valued p (λ e. (entry_after_keep txn e).1) (fin.entries locks)))

  pub Agrees-kept : new.by_file ≡ old.by_file → new.by_txn ≡ old.by_txn → Agrees new (locks_after_keep locks txn)
  Agrees-kept files txns = record {
    sound = λ k e f. let x = was_there k e f in subst (λ (y : Entry). fin.get (locks_after_keep locks txn) y.0 ≡ Some y.1) x.2 (get-kept locks txn x.0.0 ∙ ap (option_map (λ lock. (entry_after_keep txn (x.0.0, lock)).1)) (a.sound k x.0 x.1));
    once = λ j k e f g h s. let x = was_there j e g in let y = was_there k f h in a.once j k x.0 y.0 x.1 y.1 (ap (λ (z : Entry). z.0) x.2 ∙ s ∙ sym (ap (λ (z : Entry). z.0) y.2));
    of_file = λ f. subst (λ lists. AreKeysOf new.entries (keys_under same_name lists f) (where_key lock_cmp (λ q. same_name f q.0) (fin.entries (locks_after_keep locks txn)))) (sym files) (listed (λ q. same_name f q.0) (keys_under same_name old.by_file f) (a.of_file f));
    of_txn = λ t. subst (λ lists. AreKeysOf new.entries (keys_under nat_eq lists t) (where_key lock_cmp (λ q. q.1 == t) (fin.entries (locks_after_keep locks txn)))) (sym txns) (listed (λ q. q.1 == t) (keys_under nat_eq old.by_txn t) (a.of_txn t));
  }

-- ---- in order

-- the values are what a walk of the slab gives
pub values-entries : {A : Type 0} (key : ℕ) (slots : List (Option A)) → map (λ (e : ℕ × A). e.1) (entries_from key slots) ≡ filter_map (λ slot. slot) slots
values-entries key [] = refl
values-entries key (None ∷ slots) = values-entries (key + 1) slots
values-entries key (Some x ∷ slots) = ap (λ xs. x ∷ xs) (values-entries (key + 1) slots)

module _ {A : Type 0} where
  Contains-Has : (xs : List A) (x : A) → Has xs x → Contains xs x
  Contains-Has [] x h = absurd h
  Contains-Has (y ∷ xs) x (inl s) = (0, omega arith, s)
  Contains-Has (y ∷ xs) x (inr h) = let r = Contains-Has xs x h in (suc r.0, omega (arith, r.1), r.2)

  Has-index : (xs : List A) (x : A) (k : ℕ) → k < length xs → get_or xs k x ≡ x → Has xs x
  Has-index [] x k l e = absurd (omega (arith, l))
  Has-index (y ∷ xs) x zero l e = inl e
  Has-index (y ∷ xs) x (suc k) l e = inr (Has-index xs x k (omega (arith, l)) e)

  Has-permutation : (xs ys : List A) (x : A) → IsPermutation xs ys → Has xs x → Has ys x
  Has-permutation xs ys x p h = let r = Contains-permutation xs ys x p (Contains-Has xs x h) in Has-index ys x r.0 r.1 r.2

  all-Has : (P : A → Type 0) (xs : List A) → ((x : A) → Has xs x → P x) → AllByRecursion P xs
  all-Has P [] told = tt
  all-Has P (x ∷ xs) told = (told x (inl refl), all-Has P xs (λ y h. told y (inr h)))

-- two entries are of the same file and transaction
abbrev is_alike : Entry → Entry → Bool
is_alike x y = eq_by_cmp lock_cmp x.0 y.0

-- where each is under one key of a slab, no two are
distinct_values : (slots : List (Option Entry)) → ((j k : ℕ) (x y : Entry) → get_or slots j None ≡ Some x → get_or slots k None ≡ Some y → x.0 ≡ y.0 → j ≡ k) → IsDistinct is_alike (filter_map (λ slot. slot) slots)
unfolding IsDistinct
distinct_values [] once = tt
distinct_values (None ∷ slots) once = distinct_values slots (λ j k x y f g s. let e = once (suc j) (suc k) x y f g s in omega (arith, e))
distinct_values (Some x ∷ slots) once = (
  all-Has _ _ (λ y h.
      let at = values-Has slots y h in
      apart x.0 y.0 (λ s. let e = once 0 (suc at.0) x y refl at.1 s in omega (arith, e))),
  distinct_values slots (λ j k x y f g s. let e = once (suc j) (suc k) x y f g s in omega (arith, e)),
)

-- one that is not alike and not above is below
below_it : (x y : Entry) (r : Ordering) → lock_cmp x.0 y.0 ≡ r → is_alike x y ≡ false → is_lt (lock_cmp y.0 x.0) ≡ false → T (is_lt r)
below_it x y Less e other above = tt
below_it x y Equal e other above = absurd (true≢false (sym (ap is_eq e) ∙ other))
below_it x y Greater e other above = absurd (true≢false (sym (ap is_lt (turned locks_total x.0 y.0 Greater e)) ∙ above))

all_below : (x : Entry) (xs : List Entry) → AllByRecursion (λ y. is_alike x y ≡ false) xs → ((j : ℕ) → j < length xs → is_lt (lock_cmp (get_or xs j x).0 x.0) ≡ false) → T (below_all lock_cmp x.0 xs)
all_below x [] other above = tt
all_below x (y ∷ xs) other above = both _ _ (below_it x y _ refl other.0 (above 0 (omega arith))) (all_below x xs other.1 (λ j l. above (suc j) (omega (arith, l))))

strictly : (xs : List Entry) → IsDistinct is_alike xs → ((i j : ℕ) (d : Entry) → i ≤ j → j < length xs → is_lt (lock_cmp (get_or xs j d).0 (get_or xs i d).0) ≡ false) → T (is_sorted lock_cmp xs)
unfolding IsDistinct
strictly [] other far = tt
strictly (x ∷ xs) other far = both _ _ (all_below x xs other.0 (λ j l. far 0 (suc j) x (omega arith) (omega (arith, l)))) (strictly xs other.1 (λ i j d le l. far (suc i) (suc j) d (omega (arith, le)) (omega (arith, l))))

-- the entries of the slab, sorted
pub sorted-agreed : (kept : KeyedLocks) (locks : Locks) → Agrees kept locks → (all : List Entry) → IsPermutation (values kept.entries) all → IsSortedByKey (λ (e : Entry). e.0) lock_cmp all → all ≡ fin.entries locks
sorted-agreed kept locks a all moved up =
    let distinct = IsDistinct-IsPermutation is_alike (λ x y. (eq_by_cmp_equiv locks_total).symm x.0 y.0) (values kept.entries) all moved (distinct_values kept.entries.slots a.once) in
    let rises = strictly all distinct (sorted_far _ (ranks_by locks_total (λ (e : Entry). e.0)) all up) in
    same_entries lock_cmp locks_total locks_same all (fin.entries locks) rises (fin.entries_sorted locks)
    (λ q.
    find-agreed kept locks a all (λ e. Has-permutation all (values kept.entries) e (IsPermutation-sym (values kept.entries) all moved)) (λ e. Has-permutation (values kept.entries) all e moved) q
    ∙ fin.get-entries locks q)
