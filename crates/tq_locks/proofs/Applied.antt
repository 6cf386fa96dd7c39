-- What the methods of the kept locks find and leave. What a new lock comes to, where the first lock of another
-- transaction on its file decides.
use Rattle.std.proofs.Common.{◌≡◌, ℕ, zero, suc, ◌==◌, Bool, true, false, cond, List, [], ◌∷◌, map, filter, length, Option, Some, None, IfNone, IfSome, Result, Ok, Err, OnErr, refl, ap, sym, subst, ◌∙◌, inl, inr, nat_eq, arith}
use Rattle.std.proofs.lemmas.{Bool.Decides.nat_tests, List.Sorted.{IsPermutation-map, length_permutation}}
use Rattle.std.proofs.lemmas.{Map.Keys.IsDistinct-IsPermutation, Cmp.tied_itself}
use lib.Dec.{T}
use mathlib.Core.Bool.{true≢false}
use Rattle.std.specs.FinMap as fin
use Rattle.std.specs.{List.Sorted.IsPermutation, Map.lookup, Option.{option_map, option_map_or}}
use Rattle.std.specs.FinMap.Entries.{find, is_sorted, below_all, is_sorted-where_key, find-where_key}
use Rattle.std.specs.List.{insert, remove, slice_get, filter_map, cons_option, AllByRecursion, IsDistinct}
use Rattle.std.specs.{Ordering.{is_lt, is_eq}, declared.cmp.Ordering.{Ordering, TheVariants.{Less, Equal, Greater}}}
use Rattle.slab.specs.Slab.{Slab, get, Updates}
use Rattle.tq_store.specs.Names.{same_name}
use Rattle.tq_shape.specs.Journal.{Has, state_at}
use Rattle.tq_locks.specs.declared.{keyed.KeyedLocks.KeyedLocks, mode.Mode.Mode, mode.Lock.Lock}
use Rattle.tq_locks.specs.{Locks.{LockKey, Locks, lock_cmp, held_of}, Keys.{place, keys_under, entries_of}}
use Rattle.tq_locks.specs.Kept.{first_blocker, on_file, lock_found, AreKeysOf, ListsKeysOf, HasOneKeyEach, Agrees, IsOf, RisesTo, locks_in}
use Rattle.tq_locks.proofs.Found.{locks_total, locks_same, none_some, some_same, first, second, less, below_each, Has-looked_up}
use Rattle.tq_locks.proofs.{Placed.turned, Agreed.{head_of, tail_of, nil_cons, item_of, Has-filter, alike}}
use Rattle.tq_locks.proofs.Changed.{Agrees-put, Agrees-remove, closed, locks_in-agreed}
use Rattle.tq_locks.proofs.Locked.{HasNoConflict-granted, decided-blocker, least_blocker, no_blocker}
use Rattle.tq_locks.specs.Locks as spec

abbrev Entry : Type 0
Entry = LockKey × Lock

pub sorted_on_file : (locks : Locks) (file : List ℕ) → T (is_sorted lock_cmp (on_file locks file))
sorted_on_file locks file = is_sorted-where_key lock_cmp (λ k. same_name file k.0) (fin.entries locks) (fin.entries_sorted locks)

pub sorted_held_of : (locks : Locks) (txn : ℕ) → T (is_sorted lock_cmp (held_of locks txn))
sorted_held_of locks txn = is_sorted-where_key lock_cmp (λ k. k.1 == txn) (fin.entries locks) (fin.entries_sorted locks)

-- the same entries under the same keys
pub Agrees-same : (old new : KeyedLocks) (locks : Locks) → Agrees old locks → new.entries.slots ≡ old.entries.slots
    → ((f : List ℕ) → keys_under same_name new.by_file f ≡ keys_under same_name old.by_file f) → ((t : ℕ) → keys_under nat_eq new.by_txn t ≡ keys_under nat_eq old.by_txn t) → Agrees new locks
Agrees-same old new locks a same files txns =
    let at : (k : ℕ) → get new.entries k ≡ get old.entries k = λ k. ap (λ (slots : List (Option Entry)). get (record { slots = slots; vacant_key = 0; capacity = 0 }) k) same in
    record {
      sound = λ k e f. a.sound k e (sym (at k) ∙ f);
      once = λ j k x y f g s. a.once j k x y (sym (at j) ∙ f) (sym (at k) ∙ g) s;
      of_file = λ f. (λ i. map (λ k. at k i) (files f i)) ∙ a.of_file f;
      of_txn = λ t. (λ i. map (λ k. at k i) (txns t i)) ∙ a.of_txn t;
    }

-- a place among keys, where the slots and the keys stay
pub RisesTo-same : (old new : Slab Entry) (keys later : List ℕ) (name : LockKey) (at : ℕ) → new.slots ≡ old.slots → later ≡ keys → RisesTo old keys name at → RisesTo new later name at
RisesTo-same old new keys later name at same is rises entries listed sorted =
    let value : (k : ℕ) → get old k ≡ get new k = λ k. ap (λ (slots : List (Option Entry)). get (record { slots = slots; vacant_key = 0; capacity = 0 }) k) (sym same) in
    rises entries ((λ i. map (λ k. value k i) (sym is i)) ∙ listed) sorted

-- what is under the key that a search found is the lock that the table has
pub found_lock : (kept : KeyedLocks) (locks : Locks) (name : LockKey) (found : Option ℕ) → Agrees kept locks → IfSome found (λ key. IsOf kept.entries key name) → IfNone found (fin.get locks name ≡ None) → lock_found kept.entries found ≡ fin.get locks name
found_lock kept locks name None a some none = sym none
found_lock kept locks name (Some key) a (lock, at) none = ap (λ e. option_map (λ (e : Entry). e.1) e) at ∙ sym (a.sound key (name, lock) at)

pub Agrees-empty : (new : KeyedLocks) → new.entries.slots ≡ [] → new.by_file.entries ≡ [] → new.by_txn.entries ≡ [] → Agrees new fin.empty
Agrees-empty new slots files txns =
    let vacant : (k : ℕ) → get new.entries k ≡ None = λ k. ap (λ (s : List (Option Entry)). get (record { slots = s; vacant_key = 0; capacity = 0 }) k) slots in
    let no_entries : fin.entries (fin.empty {X = Lock} {R = lock_cmp}) ≡ [] = empty_entries in
    record {
      sound = λ k e f. absurd (none_some e (sym (vacant k) ∙ f));
      once = λ j k x y f g s. absurd (none_some x (sym (vacant j) ∙ f));
      of_file = λ f. ap (λ es. map (get new.entries) (option_map_or (λ keys. keys.items) (lookup (same_name f) es) [])) files ∙ ap (λ es. map Some (filter (λ (e : Entry). same_name f e.0.0) es)) (sym no_entries);
      of_txn = λ t. ap (λ es. map (get new.entries) (option_map_or (λ keys. keys.items) (lookup (nat_eq t) es) [])) txns ∙ ap (λ es. map Some (filter (λ (e : Entry). e.0.1 == t) es)) (sym no_entries);
    }
  where
    empty_entries : fin.entries (fin.empty {X = Lock} {R = lock_cmp}) ≡ []
    empty_entries = ap fin.entries (fin.same_map locks_total locks_same (fin.empty {X = Lock} {R = lock_cmp}) (fin.from_sorted []) (λ q. fin.get-empty lock_cmp q ∙ sym (fin.get-from_sorted lock_cmp [] q tt))) ∙ fin.entries-from_sorted lock_cmp [] tt

module _ (old new : KeyedLocks) (locks : Locks) (a : Agrees old locks) (file : List ℕ) (txn : ℕ) (l : Lock) (in_file in_txn key : ℕ) (in_files in_txns : List ℕ)
    (file_keys : in_files ≡ keys_under same_name old.by_file file) (txn_keys : in_txns ≡ keys_under nat_eq old.by_txn txn)
    (file_place : RisesTo old.entries in_files (file, txn) in_file) (txn_place : RisesTo old.entries in_txns (file, txn) in_txn) where
  at_file : in_file ≡ place lock_cmp (file, txn) (on_file locks file)
  at_file = file_place (on_file locks file) (ap (map (get old.entries)) file_keys ∙ a.of_file file) (sorted_on_file locks file)

  at_txn : in_txn ≡ place lock_cmp (file, txn) (held_of locks txn)
  at_txn = txn_place (held_of locks txn) (ap (map (get old.entries)) txn_keys ∙ a.of_txn txn) (sorted_held_of locks txn)

  pub Agrees-inserted : fin.get locks (file, txn) ≡ None → get old.entries key ≡ None → Updates old.entries new.entries key (Some ((file, txn), l))
      → ((f : List ℕ) → keys_under same_name new.by_file f ≡ cond (same_name file f) (insert (keys_under same_name old.by_file file) in_file key) (keys_under same_name old.by_file f))
      → ((t : ℕ) → keys_under nat_eq new.by_txn t ≡ cond (txn == t) (insert (keys_under nat_eq old.by_txn txn) in_txn key) (keys_under nat_eq old.by_txn t))
      → Agrees new (fin.insert locks (file, txn) l)
  Agrees-inserted absent vacant u files txns =
      Agrees-put old new locks a (file, txn) l key absent vacant u
      (λ f. files f ∙ ap (λ p. cond (same_name file f) (insert (keys_under same_name old.by_file file) p key) (keys_under same_name old.by_file f)) at_file)
      (λ t. txns t ∙ ap (λ p. cond (txn == t) (insert (keys_under nat_eq old.by_txn txn) p key) (keys_under nat_eq old.by_txn t)) at_txn)

  pub Agrees-taken : get old.entries key ≡ Some ((file, txn), l) → Updates old.entries new.entries key None
      → ((f : List ℕ) → keys_under same_name new.by_file f ≡ cond (same_name file f) (remove (keys_under same_name old.by_file file) in_file) (keys_under same_name old.by_file f))
      → ((t : ℕ) → keys_under nat_eq new.by_txn t ≡ cond (txn == t) (remove (keys_under nat_eq old.by_txn txn) in_txn) (keys_under nat_eq old.by_txn t))
      → Agrees new (fin.remove locks (file, txn))
  Agrees-taken at u files txns =
      Agrees-remove old new locks a (file, txn) l key at u
      (λ f. files f ∙ ap (λ p. cond (same_name file f) (remove (keys_under same_name old.by_file file) p) (keys_under same_name old.by_file f)) at_file)
      (λ t. txns t ∙ ap (λ p. cond (txn == t) (remove (keys_under nat_eq old.by_txn txn) p) (keys_under nat_eq old.by_txn t)) at_txn)

-- the same of an entry whose file and transaction the lists are looked up by
module _ (old new : KeyedLocks) (locks : Locks) (a : Agrees old locks) (e : Entry) (file : List ℕ) (txn : ℕ) (is_file : file ≡ e.0.0) (is_txn : txn ≡ e.0.1) (in_file in_txn key : ℕ)
    (file_place : RisesTo old.entries (keys_under same_name old.by_file file) e.0 in_file) (txn_place : RisesTo old.entries (keys_under nat_eq old.by_txn txn) e.0 in_txn) where
  file_at : RisesTo old.entries (keys_under same_name old.by_file e.0.0) e.0 in_file
  file_at = subst (λ f. RisesTo old.entries (keys_under same_name old.by_file f) e.0 in_file) is_file file_place

  txn_at : RisesTo old.entries (keys_under nat_eq old.by_txn e.0.1) e.0 in_txn
  txn_at = subst (λ t. RisesTo old.entries (keys_under nat_eq old.by_txn t) e.0 in_txn) is_txn txn_place

  pub Agrees-left : get old.entries key ≡ Some e → Updates old.entries new.entries key None
      → ((f : List ℕ) → keys_under same_name new.by_file f ≡ cond (same_name file f) (remove (keys_under same_name old.by_file file) in_file) (keys_under same_name old.by_file f))
      → ((t : ℕ) → keys_under nat_eq new.by_txn t ≡ cond (txn == t) (remove (keys_under nat_eq old.by_txn txn) in_txn) (keys_under nat_eq old.by_txn t))
      → Agrees new (fin.remove locks e.0)
  Agrees-left at u files txns =
      Agrees-taken old new locks a e.0.0 e.0.1 e.1 in_file in_txn key (keys_under same_name old.by_file e.0.0) (keys_under nat_eq old.by_txn e.0.1) refl refl file_at txn_at at u
      (subst (λ name. (f : List ℕ) → keys_under same_name new.by_file f ≡ cond (same_name name f) (remove (keys_under same_name old.by_file name) in_file) (keys_under same_name old.by_file f)) is_file files)
      (subst (λ name. (t : ℕ) → keys_under nat_eq new.by_txn t ≡ cond (name == t) (remove (keys_under nat_eq old.by_txn name) in_txn) (keys_under nat_eq old.by_txn t)) is_txn txns)

-- ---- what a look-up finds

pub IfNone-any : {A : Type 0} (P : Type 0) (r : Option A) → P → IfNone r P
IfNone-any P None p = p
IfNone-any P (Some x) p = tt

-- the entry in the place of its key
entry_step : (q : LockKey) (l : Lock) (x : Entry) (xs : List Entry) (r : Ordering) → lock_cmp x.0 q ≡ r → T (is_sorted lock_cmp (x ∷ xs)) → find lock_cmp q (x ∷ xs) ≡ Some l
    → (T (is_sorted lock_cmp xs) → find lock_cmp q xs ≡ Some l → slice_get xs (place lock_cmp q xs) ≡ Some (q, l)) → slice_get (x ∷ xs) (place lock_cmp q (x ∷ xs)) ≡ Some (q, l)
entry_step q l x xs Less e t h next =
    let back : lock_cmp q x.0 ≡ Greater = turned locks_total x.0 q Less e in
    let rest : find lock_cmp q xs ≡ Some l = sym (ap (λ r. cond (is_eq r) (Some x.1) (find lock_cmp q xs)) back) ∙ h in
    ap (λ r. slice_get (x ∷ xs) (cond (is_lt r) (suc (place lock_cmp q xs)) 0)) e ∙ next (second _ (is_sorted lock_cmp xs) t) rest
entry_step q l x xs Equal e t h next =
    let back : lock_cmp q x.0 ≡ Equal = turned locks_total x.0 q Equal e in
    ap (λ r. slice_get (x ∷ xs) (cond (is_lt r) (suc (place lock_cmp q xs)) 0)) e
    ∙ (λ i. Some (locks_same x.0 q e i, some_same x.1 l (sym (ap (λ r. cond (is_eq r) (Some x.1) (find lock_cmp q xs)) back) ∙ h) i))
entry_step q l x xs Greater e t h next =
    let back : lock_cmp q x.0 ≡ Less = turned locks_total x.0 q Greater e in
    let rest : find lock_cmp q xs ≡ Some l = sym (ap (λ r. cond (is_eq r) (Some x.1) (find lock_cmp q xs)) back) ∙ h in
    let under = below_each locks_total locks_same x.0 xs (q, l) (first _ (is_sorted lock_cmp xs) t) (Has-looked_up locks_total locks_same xs q l rest) in
    absurd (true≢false (ap is_lt (sym under ∙ e)))

entry_at_place : (q : LockKey) (l : Lock) (xs : List Entry) → T (is_sorted lock_cmp xs) → find lock_cmp q xs ≡ Some l → slice_get xs (place lock_cmp q xs) ≡ Some (q, l)
entry_at_place q l [] t h = absurd (none_some l h)
entry_at_place q l (x ∷ xs) t h = entry_step q l x xs (lock_cmp x.0 q) refl t h (entry_at_place q l xs)

key_at : (f : ℕ → Option Entry) (keys : List ℕ) (xs : List Entry) (i : ℕ) (x : Entry) → map f keys ≡ map Some xs → slice_get xs i ≡ Some x → (k : ℕ) × (slice_get keys i ≡ Some k) × (f k ≡ Some x)
key_at f keys [] i x e h = absurd (none_some x h)
key_at f [] (y ∷ xs) i x e h = absurd (nil_cons (Some y) (map Some xs) e)
key_at f (k ∷ keys) (y ∷ xs) zero x e h = (k, refl, head_of (f k) (Some y) (map f keys) (map Some xs) e ∙ h)
key_at f (k ∷ keys) (y ∷ xs) (suc i) x e h = key_at f keys xs i x (tail_of (f k) (Some y) (map f keys) (map Some xs) e) h

pub Has-at : (keys : List ℕ) (i k : ℕ) → slice_get keys i ≡ Some k → Has keys k
Has-at [] i k e = absurd (none_some k e)
Has-at (j ∷ keys) zero k e = inl (some_same j k e)
Has-at (j ∷ keys) (suc i) k e = inr (Has-at keys i k e)

module _ (kept : KeyedLocks) (locks : Locks) (a : Agrees kept locks) (file : List ℕ) (txn : ℕ) (keys : List ℕ) (i : ℕ) (are : keys ≡ keys_under nat_eq kept.by_txn txn) (at : RisesTo kept.entries keys (file, txn) i) where
  listed : AreKeysOf kept.entries keys (held_of locks txn)
  listed = ap (map (get kept.entries)) are ∙ a.of_txn txn

  -- a lock of the transaction on the file is under the key in its place
  pub key_in_place : (l : Lock) → fin.get locks (file, txn) ≡ Some l → (k : ℕ) × (slice_get keys i ≡ Some k) × (get kept.entries k ≡ Some ((file, txn), l))
  key_in_place l h =
      let found : find lock_cmp (file, txn) (held_of locks txn) ≡ Some l =
      find-where_key lock_cmp (λ k. k.1 == txn) (file, txn) (alike (λ k. k.1 == txn) (file, txn)) (fin.entries locks)
      ∙ (λ j. cond (same_txn j) ((sym (fin.get-entries locks (file, txn)) ∙ h) j) None) in
      key_at (get kept.entries) keys (held_of locks txn) i ((file, txn), l) listed (ap (slice_get (held_of locks txn)) (at (held_of locks txn) listed (sorted_held_of locks txn)) ∙ entry_at_place (file, txn) l (held_of locks txn) (sorted_held_of locks txn) found)
    where
      same_txn : (txn == txn) ≡ true
      same_txn = grind (arith, nat_tests)

  -- where that key has no such entry there is no lock
  pub nothing_in_place : ((k : ℕ) (l : Lock) → slice_get keys i ≡ Some k → get kept.entries k ≡ Some ((file, txn), l) → ⊥) → fin.get locks (file, txn) ≡ None
  nothing_in_place other = by_look (fin.get locks (file, txn)) refl
    where
      by_look : (o : Option Lock) → fin.get locks (file, txn) ≡ o → o ≡ None
      by_look None e = refl
      by_look (Some l) e = let k = key_in_place l e in absurd (other k.0 l k.1 k.2)

  -- the entry under a key of the list is the transaction's
  pub txn_of_key : (k : ℕ) (e : Entry) → slice_get keys i ≡ Some k → get kept.entries k ≡ Some e → e.0.1 ≡ txn
  txn_of_key k e h f =
      let x = item_of (get kept.entries) keys (held_of locks txn) k listed (Has-at keys i k h) in
      let passed = (Has-filter (λ (y : Entry). y.0.1 == txn) (fin.entries locks) x.0 x.1).1 in
      ap (λ (y : Entry). y.0.1) (some_same e x.0 (sym f ∙ x.2)) ∙ same_number x.0.0.1 passed
    where
      same_number : (n : ℕ) → (n == txn) ≡ true → n ≡ txn
      same_number n h = grind (arith, nat_tests)

pub OnErr-any : {A E : Type 0} (P : Type 0) (r : Result A E) → P → OnErr r P
OnErr-any P (Ok x) p = tt
OnErr-any P (Err x) p = p

pub cond_same : {A : Type 0} (k : ℕ) (x y : A) → cond (k == k) x y ≡ x
cond_same k x y = ap (λ b. cond b x y) (itself_number k)
  where
    itself_number : (n : ℕ) → (n == n) ≡ true
    itself_number n = grind (arith, nat_tests)

-- keys find all entries of a list
pub told-listed : {A : Type 0} (f : ℕ → Option A) (keys : List ℕ) (xs : List A) → map f keys ≡ map Some xs → filter_map f keys ≡ xs
told-listed f [] [] e = refl
told-listed f [] (x ∷ xs) e = absurd (nil_cons (Some x) (map Some xs) e)
told-listed f (k ∷ keys) [] e = absurd (nil_cons (f k) (map f keys) (sym e))
told-listed f (k ∷ keys) (x ∷ xs) e = λ i. cons_option (head_of (f k) (Some x) (map f keys) (map Some xs) e i) (told-listed f keys xs (tail_of (f k) (Some x) (map f keys) (map Some xs) e) i)

-- the entries under the keys of a file say what the locks on it do
pub decided_on_file : (kept : KeyedLocks) (locks : Locks) → Agrees kept locks → (file : List ℕ) (txn : ℕ) (mode : Mode) → first_blocker txn mode (entries_of kept.entries (keys_under same_name kept.by_file file)) ≡ first_blocker txn mode (on_file locks file)
decided_on_file kept locks a file txn mode = ap (first_blocker txn mode) (told-listed (get kept.entries) (keys_under same_name kept.by_file file) (on_file locks file) (a.of_file file))

-- the entry under a key of a transaction's list
pub entry_of_key : (kept : KeyedLocks) (locks : Locks) → Agrees kept locks → (txn : ℕ) (keys : List ℕ) (i k : ℕ) → keys ≡ keys_under nat_eq kept.by_txn txn → slice_get keys i ≡ Some k → (e : Entry) × (e.0.1 ≡ txn) × (get kept.entries k ≡ Some e)
entry_of_key kept locks a txn keys i k are at =
    let x = item_of (get kept.entries) keys (held_of locks txn) k (ap (map (get kept.entries)) are ∙ a.of_txn txn) (Has-at keys i k at) in
    (x.0, same_number x.0.0.1 (Has-filter (λ (y : Entry). y.0.1 == txn) (fin.entries locks) x.0 x.1).1, x.2)
  where
    same_number : (n : ℕ) → (n == txn) ≡ true → n ≡ txn
    same_number n h = grind (arith, nat_tests)

pub empty_keys : (kept : KeyedLocks) (locks : Locks) → Agrees kept locks → (txn : ℕ) → keys_under nat_eq kept.by_txn txn ≡ [] → held_of locks txn ≡ []
empty_keys kept locks a txn e = by_list (held_of locks txn) (sym (ap (map (get kept.entries)) e) ∙ a.of_txn txn)
  where
    by_list : (xs : List Entry) → [] ≡ map Some xs → xs ≡ []
    by_list [] h = refl
    by_list (x ∷ xs) h = absurd (nil_cons (Some x) (map Some xs) h)

-- distinct entries are under distinct keys
all_other : (f : ℕ → Option Entry) (k : ℕ) (x : Entry) (keys : List ℕ) (xs : List Entry) → f k ≡ Some x → map f keys ≡ map Some xs → T (below_all lock_cmp x.0 xs) → AllByRecursion (λ j. nat_eq k j ≡ false) keys
all_other f k x [] xs e m t = tt
all_other f k x (j ∷ keys) [] e m t = absurd (nil_cons (f j) (map f keys) (sym m))
all_other f k x (j ∷ keys) (y ∷ xs) e m t =
    (by_test (nat_eq k j) refl, all_other f k x keys xs e (tail_of (f j) (Some y) (map f keys) (map Some xs) m) (second (is_lt (lock_cmp x.0 y.0)) (below_all lock_cmp x.0 xs) t))
  where
    by_test : (b : Bool) → nat_eq k j ≡ b → b ≡ false
    by_test false h = refl
    by_test true h =
        let one : k ≡ j = grind (arith, nat_tests) in
        let same : x ≡ y = some_same x y (sym e ∙ ap f one ∙ head_of (f j) (Some y) (map f keys) (map Some xs) m) in
        absurd (true≢false (ap is_lt (sym (less (lock_cmp x.0 y.0) (first (is_lt (lock_cmp x.0 y.0)) (below_all lock_cmp x.0 xs) t)) ∙ ap (λ (z : Entry). lock_cmp x.0 z.0) (sym same) ∙ tied_itself locks_total x.0)))

distinct_keys : (f : ℕ → Option Entry) (keys : List ℕ) (xs : List Entry) → map f keys ≡ map Some xs → T (is_sorted lock_cmp xs) → IsDistinct nat_eq keys
unfolding IsDistinct
distinct_keys f [] xs e t = tt
distinct_keys f (k ∷ keys) [] e t = absurd (nil_cons (f k) (map f keys) (sym e))
distinct_keys f (k ∷ keys) (x ∷ xs) e t = (
  all_other f k x keys xs (head_of (f k) (Some x) (map f keys) (map Some xs) e) (tail_of (f k) (Some x) (map f keys) (map Some xs) e) (first (below_all lock_cmp x.0 xs) (is_sorted lock_cmp xs) t),
  distinct_keys f keys xs (tail_of (f k) (Some x) (map f keys) (map Some xs) e) (second (below_all lock_cmp x.0 xs) (is_sorted lock_cmp xs) t),
)

as_many : (f : ℕ → Option Entry) (keys : List ℕ) (xs : List Entry) → map f keys ≡ map Some xs → length keys ≡ length xs
as_many f [] [] e = refl
as_many f [] (x ∷ xs) e = absurd (nil_cons (Some x) (map Some xs) e)
as_many f (k ∷ keys) [] e = absurd (nil_cons (f k) (map f keys) (sym e))
as_many f (k ∷ keys) (x ∷ xs) e = ap suc (as_many f keys xs (tail_of (f k) (Some x) (map f keys) (map Some xs) e))

-- keys in another order are those of the same entries, each once
pub lent : (slab : Slab Entry) (keys moved : List ℕ) (xs : List Entry) → IsPermutation keys moved → AreKeysOf slab keys xs → ListsKeysOf slab moved xs
lent slab keys moved xs p e = subst (λ found. IsPermutation found (map (get slab) moved)) e (IsPermutation-map (get slab) keys moved p)

pub lent_once : (slab : Slab Entry) (keys moved : List ℕ) (xs : List Entry) → IsPermutation keys moved → AreKeysOf slab keys xs → T (is_sorted lock_cmp xs) → HasOneKeyEach moved xs
lent_once slab keys moved xs p e t =
    (IsDistinct-IsPermutation nat_eq flips keys moved p (distinct_keys (get slab) keys xs e t), length_permutation keys moved p ∙ as_many (get slab) keys xs e)
  where
    flips : (m n : ℕ) → nat_eq m n ≡ nat_eq n m
    flips m n = grind (arith, nat_tests)

-- ---- asked

-- what is told of a request
pub is_told : (locks : spec.Locks) (file : List ℕ) (txn : ℕ) (mode : Mode) → spec.IsTold locks file txn mode (spec.outcome (spec.blocker locks file txn mode))
is_told locks file txn mode = by_blocker (spec.blocker locks file txn mode) refl
  where
    by_blocker : (o : Option ℕ) → spec.blocker locks file txn mode ≡ o → spec.IsTold locks file txn mode (spec.outcome o)
    by_blocker None e = no_blocker locks file txn mode e
    by_blocker (Some by) e = subst (λ o. IfSome o (spec.IsLeastBlocker locks file txn mode)) e (least_blocker locks file txn mode)

-- where the transaction holds one already, or nothing blocks it
module _ (old new : KeyedLocks) (locks : spec.Locks) (file : List ℕ) (txn : ℕ) (mode : Mode) (number version : ℕ) (found : Option ℕ) (had : Option Lock) (lock : Lock)
    (view : locks_in old ≡ locks) (h : Agrees old (locks_in old) × spec.HasNoConflict (locks_in old))
    (some : Agrees old (locks_in old) → IfSome found (λ key. IsOf old.entries key (file, txn))) (none : Agrees old (locks_in old) → IfNone found (fin.get (locks_in old) (file, txn) ≡ None))
    (looked : had ≡ lock_found old.entries found) (after : lock ≡ spec.lock_after had mode number version)
    (free : spec.blocker locks file txn mode ≡ None) (agreed : Agrees new (fin.insert (locks_in old) (file, txn) lock)) where
  held : had ≡ fin.get locks (file, txn)
  held = looked ∙ found_lock old (locks_in old) (file, txn) found h.0 (some h.0) (none h.0) ∙ ap (λ locks. fin.get locks (file, txn)) view

  put : Agrees new (spec.locks_after_grant locks file txn mode number version)
  put = subst (Agrees new) (λ i. fin.insert (view i) (file, txn) ((after ∙ ap (λ o. spec.lock_after o mode number version) held) i)) agreed

  no_conflict : spec.HasNoConflict (spec.locks_after_grant locks file txn mode number version)
  no_conflict = HasNoConflict-granted locks file txn mode number version (no_blocker locks file txn mode free) (subst spec.HasNoConflict view h.1)

  pub granted_whole : Agrees new (locks_in new) × spec.HasNoConflict (locks_in new)
  granted_whole = closed new (spec.locks_after_grant locks file txn mode number version) put no_conflict

  pub granted_value : locks_in new ≡ spec.locks_after_grant locks file txn mode number version
  granted_value = locks_in-agreed new (spec.locks_after_grant locks file txn mode number version) put

-- a new one, that is kept unless it is blocked
module _ (old new : KeyedLocks) (locks : spec.Locks) (file : List ℕ) (txn : ℕ) (mode : Mode) (number version : ℕ) (lock : Lock) (by : Option ℕ)
    (view : locks_in old ≡ locks) (h : Agrees old (locks_in old) × spec.HasNoConflict (locks_in old)) (absent : fin.get (locks_in old) (file, txn) ≡ None) (after : lock ≡ spec.lock_after None mode number version)
    (told : by ≡ first_blocker txn lock.mode (on_file (locks_in old) file)) (agreed : Agrees new (state_at by (locks_in old) (fin.insert (locks_in old) (file, txn) lock))) where
  -- who blocks it
  pub by_is : by ≡ spec.blocker locks file txn mode
  by_is =
      told
      ∙ ap (λ (l : Lock). first_blocker txn l.mode (on_file (locks_in old) file)) after
      ∙ decided-blocker (locks_in old) file txn mode h.1
      ∙ ap (λ m. spec.blocker m file txn mode) view

  lock_is : lock ≡ spec.lock_after (fin.get locks (file, txn)) mode number version
  lock_is = after ∙ ap (λ o. spec.lock_after o mode number version) (sym absent ∙ ap (λ m. fin.get m (file, txn)) view)

  kept : Agrees new (spec.locks_after_ask locks file txn mode number version)
  kept = subst (Agrees new) (λ i. state_at (by_is i) (view i) (fin.insert (view i) (file, txn) (lock_is i))) agreed

  agree : spec.HasNoConflict (spec.locks_after_ask locks file txn mode number version)
  agree = by_test (spec.blocker locks file txn mode) refl
    where
      none : spec.HasNoConflict locks
      none = subst spec.HasNoConflict view h.1

      by_test : (o : Option ℕ) → spec.blocker locks file txn mode ≡ o → spec.HasNoConflict (state_at o locks (spec.locks_after_grant locks file txn mode number version))
      by_test None e = HasNoConflict-granted locks file txn mode number version (no_blocker locks file txn mode e) none
      by_test (Some o) e = none

  pub asked_whole : Agrees new (locks_in new) × spec.HasNoConflict (locks_in new)
  asked_whole = closed new (spec.locks_after_ask locks file txn mode number version) kept agree

  pub asked_value : locks_in new ≡ spec.locks_after_ask locks file txn mode number version
  asked_value = locks_in-agreed new (spec.locks_after_ask locks file txn mode number version) kept
