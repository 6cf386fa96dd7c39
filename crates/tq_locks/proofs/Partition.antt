-- The place that a binary search finds among keys whose entries rise. The locks while the list of a transaction is out
-- of its index.
use Rattle.std.proofs.Common.{◌≡◌, ℕ, zero, suc, ◌≤◌, ◌<◌, ◌+◌, ◌-◌, ◌/◌, Bool, true, false, cond, List, [], ◌∷◌, map, length, Option, Some, ap, sym, subst, ◌∙◌, arith, ◌==◌, ◌++◌, None, refl, nat_eq}
use Rattle.std.proofs.{Math.Arith.half_le, lemmas.Cmp.tied_itself, lemmas.Bool.Decides.nat_tests}
use lib.Dec.{T}
use mathlib.Core.Bool.{true≢false}
use Rattle.std.specs.{Cmp.IsTotalOrder, FinMap.IsAntisymmetric, FinMap.Entries.{is_sorted, below_all}, Ordering.is_lt}
use Rattle.std.specs.{List.{slice_get, remove}, Option.option_map_or, declared.cmp.Ordering.Ordering}
use Rattle.std.specs.declared.cmp.Ordering.TheVariants.{Less}
use Rattle.tq_shape.specs.Journal.{Has}
use Rattle.slab.specs.Slab.{Slab, get, Updates}
use Rattle.tq_locks.specs.{declared.mode.Lock.Lock, Keys.{place, keys_under}, Kept.{RisesTo, Agrees, LeftFile}}
use Rattle.tq_locks.specs.{Locks.{LockKey, Locks}, declared.keyed.KeyedLocks.KeyedLocks}
use Rattle.tq_locks.proofs.Found.{some_same, none_some, first, second, less, below_each, locks_total, locks_same}
use Rattle.tq_locks.proofs.Agreed.{head_of, tail_of, nil_cons, item_of}
use Rattle.tq_locks.proofs.Applied.{Has-at, Agrees-same, Agrees-left, cond_same}
use Rattle.std.specs.FinMap as fin
use Rattle.indexmap.specs.IndexMap.{with_entries}
use Rattle.tq_store.specs.Names.{same_name}

less_test : (r : Ordering) → is_lt r ≡ true → r ≡ Less
less_test r h = less r (subst T (sym h) tt)

module _ {K X : Type 0} {R : K → K → Ordering} (o : IsTotalOrder R) (f : ℕ → Option (K × X)) (q : K) where
  -- the entry under a key is below q
  abbrev pub under : ℕ → Bool
  under k = option_map_or (λ (e : K × X). is_lt (R e.0 q)) (f k) false

  under_found : (k : ℕ) (x : K × X) → f k ≡ Some x → under k ≡ is_lt (R x.0 q)
  under_found k x e = ap (λ s. option_map_or (λ (e : K × X). is_lt (R e.0 q)) s false) e

  -- there is a key at this index, and its entry is below q
  abbrev pub under_at : List ℕ → ℕ → Bool
  under_at keys j = option_map_or under (slice_get keys j) false

  -- an entry before one that is below q is below q too
  all_under : (x : K) (keys : List ℕ) (xs : List (K × X)) (j : ℕ) → map f keys ≡ map Some xs → T (below_all R x xs) → under_at keys j ≡ true → R x q ≡ Less
  all_under x [] xs j e t u = absurd (true≢false (sym u))
  all_under x (k ∷ keys) [] j e t u = absurd (nil_cons (f k) (map f keys) (sym e))
  all_under x (k ∷ keys) (y ∷ xs) zero e t u =
      o.trans x y.0 q (less (R x y.0) (first (is_lt (R x y.0)) (below_all R x xs) t)) (less_test (R y.0 q) (sym (under_found k y (head_of (f k) (Some y) (map f keys) (map Some xs) e)) ∙ u))
  all_under x (k ∷ keys) (y ∷ xs) (suc j) e t u = all_under x keys xs j (tail_of (f k) (Some y) (map f keys) (map Some xs) e) (second (is_lt (R x y.0)) (below_all R x xs) t) u

  -- q's place is behind each entry that is below it
  pub behind_under : (keys : List ℕ) (xs : List (K × X)) (j : ℕ) → map f keys ≡ map Some xs → T (is_sorted R xs) → under_at keys j ≡ true → j < place R q xs
  behind_under [] xs j e t u = absurd (true≢false (sym u))
  behind_under (k ∷ keys) [] j e t u = absurd (nil_cons (f k) (map f keys) (sym e))
  behind_under (k ∷ keys) (y ∷ xs) zero e t u =
      let here : place R q (y ∷ xs) ≡ suc (place R q xs) = ap (λ b. cond b (suc (place R q xs)) 0) (sym (under_found k y (head_of (f k) (Some y) (map f keys) (map Some xs) e)) ∙ u) in
      omega (arith, here)
  behind_under (k ∷ keys) (y ∷ xs) (suc j) e t u =
      let listed = tail_of (f k) (Some y) (map f keys) (map Some xs) e in
      let here : place R q (y ∷ xs) ≡ suc (place R q xs) = ap (λ r. cond (is_lt r) (suc (place R q xs)) 0) (all_under y.0 keys xs j listed (first (below_all R y.0 xs) (is_sorted R xs) t) u) in
      let rest = behind_under keys xs j listed (second (below_all R y.0 xs) (is_sorted R xs) t) u in
      omega (arith, here, rest)

  one_more : (b : Bool) (n j : ℕ) → n ≤ j → cond b (suc n) 0 ≤ suc j
  one_more true n j le = omega (arith, le)
  one_more false n j le = omega arith

  -- and not behind one that isn't
  pub upto_other : (keys : List ℕ) (xs : List (K × X)) (j : ℕ) → map f keys ≡ map Some xs → j < length keys → under_at keys j ≡ false → place R q xs ≤ j
  upto_other [] xs j e l u = absurd (omega (arith, l))
  upto_other (k ∷ keys) [] j e l u = absurd (nil_cons (f k) (map f keys) (sym e))
  upto_other (k ∷ keys) (y ∷ xs) zero e l u =
      let here : place R q (y ∷ xs) ≡ 0 = ap (λ b. cond b (suc (place R q xs)) 0) (sym (under_found k y (head_of (f k) (Some y) (map f keys) (map Some xs) e)) ∙ u) in
      omega (arith, here)
  upto_other (k ∷ keys) (y ∷ xs) (suc j) e l u = one_more (is_lt (R y.0 q)) (place R q xs) j (upto_other keys xs j (tail_of (f k) (Some y) (map f keys) (map Some xs) e) (omega (arith, l)) u)

  -- nor behind them all
  pub place_most : (keys : List ℕ) (xs : List (K × X)) → map f keys ≡ map Some xs → place R q xs ≤ length keys
  place_most [] [] e = omega arith
  place_most [] (y ∷ xs) e = absurd (nil_cons (Some y) (map Some xs) e)
  place_most (k ∷ keys) [] e = absurd (nil_cons (f k) (map f keys) (sym e))
  place_most (k ∷ keys) (y ∷ xs) e = one_more (is_lt (R y.0 q)) (place R q xs) (length keys) (place_most keys xs (tail_of (f k) (Some y) (map f keys) (map Some xs) e))

  -- the key of the entry at q stands in q's place
  pub stands-in_place : IsAntisymmetric R → (l : X) (keys : List ℕ) (xs : List (K × X)) (n k : ℕ) → slice_get keys n ≡ Some k → f k ≡ Some (q, l) → map f keys ≡ map Some xs → T (is_sorted R xs) → n ≡ place R q xs
  stands-in_place same l [] xs n k at found e t = absurd (none_some k at)
  stands-in_place same l (j ∷ keys) [] n k at found e t = absurd (nil_cons (f j) (map f keys) (sym e))
  stands-in_place same l (j ∷ keys) (y ∷ xs) zero k at found e t =
      let here : y ≡ (q, l) = some_same y (q, l) (sym (head_of (f j) (Some y) (map f keys) (map Some xs) e) ∙ ap f (some_same j k at) ∙ found) in
      sym (ap (λ (z : K × X). cond (is_lt (R z.0 q)) (suc (place R q xs)) 0) here ∙ ap (λ r. cond (is_lt r) (suc (place R q xs)) 0) (tied_itself o q))
  stands-in_place same l (j ∷ keys) (y ∷ xs) (suc n) k at found e t =
      let listed = tail_of (f j) (Some y) (map f keys) (map Some xs) e in
      let item = item_of f keys xs k listed (Has-at keys n k at) in
      let later = subst (λ z. Has xs z) (some_same item.0 (q, l) (sym item.2 ∙ found)) item.1 in
      let before : R y.0 q ≡ Less = below_each o same y.0 xs (q, l) (first (below_all R y.0 xs) (is_sorted R xs) t) later in
      ap suc (stands-in_place same l keys xs n k at found listed (second (below_all R y.0 xs) (is_sorted R xs) t))
      ∙ sym (ap (λ r. cond (is_lt r) (suc (place R q xs)) 0) before)

-- no key is below a place
pub none_rises : (slab : Slab (LockKey × Lock)) (keys : List ℕ) (key : LockKey) → keys ≡ [] → RisesTo slab keys key 0
none_rises slab keys key none entries listed sorted =
    let most = place_most locks_total (get slab) key keys entries listed in
    let empty : length keys ≡ 0 = ap length none in
    omega (arith, most, empty)

-- the middle is between
pub middle : (low high : ℕ) → low < high → (low ≤ low + (high - low) / 2) × (low + (high - low) / 2 < high)
middle low high l =
    let half : (high - low) / 2 ≤ high - low - 1 = half_le {a = high - low} {n = high - low - 1} (omega (arith, l)) in
    (omega arith, omega (arith, l, half))

-- ---- taken out

-- the kept locks, with these keys under a transaction
abbrev pub with_list : KeyedLocks → ℕ → List ℕ → KeyedLocks
with_list kept txn keys = record { entries = kept.entries; by_file = kept.by_file; by_txn = with_entries kept.by_txn ((txn, record { items = keys; capacity = 0 }) ∷ kept.by_txn.entries); homes = kept.homes; last = kept.last; alloc = kept.alloc }

turned_test : (m n : ℕ) → nat_eq m n ≡ (n == m)
turned_test m n = grind (arith, nat_tests)

same_number : (m n : ℕ) → (m == n) ≡ true → m ≡ n
same_number m n h = grind (arith, nat_tests)

pub keys-with_list : (kept : KeyedLocks) (txn : ℕ) (keys : List ℕ) (t : ℕ) → keys_under nat_eq (with_list kept txn keys).by_txn t ≡ cond (txn == t) keys (keys_under nat_eq kept.by_txn t)
keys-with_list kept txn keys t = by_test (nat_eq t txn) refl ∙ ap (λ b. cond b keys (keys_under nat_eq kept.by_txn t)) (turned_test t txn)
  where
    by_test : (b : Bool) → nat_eq t txn ≡ b → keys_under nat_eq (with_list kept txn keys).by_txn t ≡ cond (nat_eq t txn) keys (keys_under nat_eq kept.by_txn t)
    by_test true e = rw e refl
    by_test false e = rw e refl

pub own-with_list : (kept : KeyedLocks) (txn : ℕ) (keys : List ℕ) → keys_under nat_eq (with_list kept txn keys).by_txn txn ≡ keys
own-with_list kept txn keys = keys-with_list kept txn keys txn ∙ cond_same txn keys (keys_under nat_eq kept.by_txn txn)

-- the list is taken out
pub Agrees-out : (old new : KeyedLocks) (locks : Locks) (txn : ℕ) (keys : List ℕ) → Agrees old locks → new.entries ≡ old.entries → new.by_file ≡ old.by_file → keys ≡ keys_under nat_eq old.by_txn txn
    → ((t : ℕ) → keys_under nat_eq new.by_txn t ≡ cond (txn == t) [] (keys_under nat_eq old.by_txn t)) → Agrees (with_list new txn keys) locks
Agrees-out old new locks txn keys a entries files own txns =
    Agrees-same old (with_list new txn keys) locks a (ap (λ (s : Slab (LockKey × Lock)). s.slots) entries) (λ f. ap (λ lists. keys_under same_name lists f) files) (λ t. keys-with_list new txn keys t ∙ by_test t (txn == t) refl (txns t))
  where
    by_test : (t : ℕ) (b : Bool) → (txn == t) ≡ b → keys_under nat_eq new.by_txn t ≡ cond b [] (keys_under nat_eq old.by_txn t) → cond b keys (keys_under nat_eq new.by_txn t) ≡ keys_under nat_eq old.by_txn t
    by_test t true e h = own ∙ ap (keys_under nat_eq old.by_txn) (same_number txn t e)
    by_test t false e h = h

-- and is put back with no key
pub Agrees-back : (kept : KeyedLocks) (locks : Locks) (txn : ℕ) → Agrees (with_list kept txn []) locks → keys_under nat_eq kept.by_txn txn ≡ [] → Agrees kept locks
Agrees-back kept locks txn a none = Agrees-same (with_list kept txn []) kept locks a refl (λ f. refl) (λ t. sym (keys-with_list kept txn [] t ∙ by_test t (txn == t) refl))
  where
    by_test : (t : ℕ) (b : Bool) → (txn == t) ≡ b → cond b [] (keys_under nat_eq kept.by_txn t) ≡ keys_under nat_eq kept.by_txn t
    by_test t true e = sym none ∙ ap (keys_under nat_eq kept.by_txn) (same_number txn t e)
    by_test t false e = refl

pub at_last : (rest : List ℕ) (key : ℕ) → slice_get (rest ++ key ∷ []) (length rest) ≡ Some key
at_last [] key = refl
at_last (k ∷ rest) key = at_last rest key

without_last : (rest : List ℕ) (key : ℕ) → remove (rest ++ key ∷ []) (length rest) ≡ rest
without_last [] key = refl
without_last (k ∷ rest) key = ap (λ ks. k ∷ ks) (without_last rest key)

-- the last key of the list goes, with its entry
pub Agrees-popped : (old new : KeyedLocks) (locks : Locks) (txn : ℕ) (keys rest : List ℕ) (key : ℕ) (entry : LockKey × Lock) → Agrees (with_list old txn keys) locks → keys ≡ rest ++ key ∷ []
    → entry.0.1 ≡ txn → get old.entries key ≡ Some entry → LeftFile old new entry.0 → Updates old.entries new.entries key None → new.by_txn ≡ old.by_txn → Agrees (with_list new txn rest) (fin.remove locks entry.0)
Agrees-popped old new locks txn keys rest key entry a popped is_txn found left u txns =
    Agrees-left (with_list old txn keys) (with_list new txn rest) locks a entry entry.0.0 txn refl (sym is_txn) left.place (length rest) key left.stood
    (λ entries listed sorted. stands-in_place locks_total (get old.entries) entry.0 locks_same entry.1 (keys_under nat_eq (with_list old txn keys).by_txn txn) entries (length rest) key (ap (λ ks. slice_get ks (length rest)) (own ∙ popped) ∙ at_last rest key) found listed sorted)
    found u left.files
    (λ t. keys-with_list new txn rest t ∙ by_test t (txn == t) ∙ (λ i. cond (txn == t) (remove (sym own i) (length rest)) (sym (keys-with_list old txn keys t) i)))
  where
    own : keys_under nat_eq (with_list old txn keys).by_txn txn ≡ keys
    own = own-with_list old txn keys

    by_test : (t : ℕ) (b : Bool) → cond b rest (keys_under nat_eq new.by_txn t) ≡ cond b (remove keys (length rest)) (cond b keys (keys_under nat_eq old.by_txn t))
    by_test t true = sym (ap (λ ks. remove ks (length rest)) popped ∙ without_last rest key)
    by_test t false = ap (λ lists. keys_under nat_eq lists t) txns
