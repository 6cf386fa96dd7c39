-- A slab and its indexes still agree with the set of locks after a change of one entry.
use Rattle.std.proofs.Common.{◌≡◌, ◌≢◌, ℕ, nat_eq, ◌==◌, Bool, true, false, cond, not, List, [], ◌∷◌, map, filter, Option, Some, None, refl, ap, sym, subst, ◌∙◌, ◌⊎◌, inl, inr, arith}
use Rattle.std.proofs.lemmas.{Bool.cases_eq, Bool.Decides.nat_tests}
use mathlib.Core.Bool.{true≢false}
use Rattle.std.specs.{Cmp.eq_by_cmp_equiv, Cmp.Lexicographic.{same_text, nat_list_eq_equiv}, List.{insert, remove}}
use Rattle.std.specs.{FinMap.Entries.{find, is_sorted-where_key, find-where_key, same_entries}, Option.option_map_or}
use Rattle.std.specs.Ordering.{eq_by_cmp}
use Rattle.std.specs.FinMap as fin
use Rattle.slab.specs.Slab.{get, values, Updates}
use Rattle.tq_store.specs.Names.{same_name}
use Rattle.tq_shape.specs.Journal.{Has}
use Rattle.tq_locks.specs.{declared.keyed.KeyedLocks.KeyedLocks, declared.mode.Lock.Lock, Keys.{place, keys_under}}
use Rattle.tq_locks.specs.Locks.{LockKey, Locks, lock_cmp, held_of, locks_after_release, only_stable, HasNoConflict}
use Rattle.tq_locks.specs.Kept.{locks_in, on_file, Agrees}
use Rattle.tq_locks.proofs.Found.{locks_total, locks_same, none_some, some_same, Has-looked_up, entry_of}
use Rattle.tq_locks.proofs.{Locked.{same_key, get-released, get-only_stable}, Placed.other_keys}
use Rattle.tq_locks.proofs.Agreed.{put_listed, set_listed, remove_listed, filter-Has, key_of, Has-values, values-Has, itself, apart, alike}

abbrev Entry : Type 0
Entry = LockKey × Lock

-- ---- the set of locks that agrees is the one that the slab holds

found_none : (es : List Entry) (q : LockKey) (l : Lock) → Has es (q, l) → fin.find lock_cmp q es ≡ None → ⊥
found_none [] q l h e = h
found_none (x ∷ es) q l (inl s) e = none_some x.1 (sym e ∙ ap (λ b. cond b (Some x.1) (fin.find lock_cmp q es)) (ap (λ (y : Entry). eq_by_cmp lock_cmp q y.0) s ∙ itself q))
found_none (x ∷ es) q l (inr h) e = by_test (eq_by_cmp lock_cmp q x.0) e (found_none es q l h)
  where
    by_test : (b : Bool) → cond b (Some x.1) (fin.find lock_cmp q es) ≡ None → (fin.find lock_cmp q es ≡ None → ⊥) → ⊥
    by_test true f next = none_some x.1 (sym f)
    by_test false f next = next f

module _ (kept : KeyedLocks) (locks : Locks) (a : Agrees kept locks) where
  -- a lock of the set is under some key
  pub key_of_lock : (q : LockKey) (l : Lock) → fin.get locks q ≡ Some l → (key : ℕ) × Has (keys_under nat_eq kept.by_txn q.1) key × (get kept.entries key ≡ Some (q, l))
  key_of_lock q l f =
      key_of (get kept.entries) (keys_under nat_eq kept.by_txn q.1) (held_of locks q.1) (q, l) (a.of_txn q.1)
      (filter-Has (λ (e : Entry). e.0.1 == q.1) (fin.entries locks) (q, l) (entry_of locks_total locks_same locks q l f) (grind (arith, nat_tests)))

  -- a list of the slab's entries has the look-ups of the set
  pub find-agreed : (es : List Entry) → ((e : Entry) → Has es e → Has (values kept.entries) e) → ((e : Entry) → Has (values kept.entries) e → Has es e) → (q : LockKey) → fin.find lock_cmp q es ≡ fin.get locks q
  find-agreed es from all q = by_look (fin.find lock_cmp q es) refl (fin.get locks q) refl
    where
      by_look : (o : Option Lock) → fin.find lock_cmp q es ≡ o → (p : Option Lock) → fin.get locks q ≡ p → o ≡ p
      by_look (Some l) e p f =
          let at = values-Has kept.entries.slots (q, l) (from (q, l) (Has-looked_up locks_total locks_same es q l e)) in
          sym (a.sound at.0 (q, l) at.1) ∙ f
      by_look None e None f = refl
      by_look None e (Some l) f =
          let at = key_of_lock q l f in
          absurd (found_none es q l (all (q, l) (Has-values kept.entries.slots at.0 (q, l) at.2)) e)

  pub locks_in-agreed : locks_in kept ≡ locks
  locks_in-agreed = fin.same_map locks_total locks_same (locks_in kept) locks (λ q. fin.get-from_entries locks_total (values kept.entries) q ∙ find-agreed (values kept.entries) (λ e h. h) (λ e h. h) q)

entries-remove : (locks : Locks) (q : LockKey) → fin.entries (fin.remove locks q) ≡ other_keys locks_total locks_same q (fin.entries locks)
entries-remove locks q =
    let others = λ (k : LockKey). not (eq_by_cmp lock_cmp q k) in
    same_entries lock_cmp locks_total locks_same _ _ (fin.entries_sorted (fin.remove locks q)) (is_sorted-where_key lock_cmp others (fin.entries locks) (fin.entries_sorted locks))
    (λ r.
    sym (fin.get-entries (fin.remove locks q) r)
    ∙ fin.get-remove locks_total locks q r
    ∙ turned (eq_by_cmp lock_cmp r q) (fin.get locks r)
    ∙ (λ i. cond (not ((eq_by_cmp_equiv locks_total).symm r q i)) (fin.get-entries locks r i) None)
    ∙ sym (find-where_key lock_cmp others r (alike others r) (fin.entries locks)))
  where
    turned : (b : Bool) (o : Option Lock) → cond b None o ≡ cond (not b) o None
    turned true o = refl
    turned false o = refl

-- ---- the changes

get-put_same : (locks : Locks) (q : LockKey) (l : Lock) → fin.get (fin.insert locks q l) q ≡ Some l
get-put_same locks q l = fin.get-insert locks_total locks q l q ∙ ap (λ b. cond b (Some l) (fin.get locks q)) (itself q)

get-put_other : (locks : Locks) (q : LockKey) (l : Lock) (r : LockKey) → r ≢ q → fin.get (fin.insert locks q l) r ≡ fin.get locks r
get-put_other locks q l r h = fin.get-insert locks_total locks q l r ∙ ap (λ b. cond b (Some l) (fin.get locks r)) (apart r q h)

get-cut_other : (locks : Locks) (q r : LockKey) → r ≢ q → fin.get (fin.remove locks q) r ≡ fin.get locks r
get-cut_other locks q r h = fin.get-remove locks_total locks q r ∙ ap (λ b. cond b None (fin.get locks r)) (apart r q h)

abbrev file_test : List ℕ → LockKey → Bool
file_test file k = same_name file k.0

module _ (old new : KeyedLocks) (locks : Locks) (a : Agrees old locks) (q : LockKey) (l : Lock) (key : ℕ) where
  -- a key that has an entry after the change: the one that changed, or one that was there
  was_there : (slot : Option Entry) → Updates old.entries new.entries key slot → (k : ℕ) (e : Entry) → get new.entries k ≡ Some e → ((k ≡ key) × (slot ≡ Some e)) ⊎ ((k ≢ key) × (get old.entries k ≡ Some e))
  was_there slot u k e f =
      elim (cases_eq k key) [
        | inl one ↦ inl (one, sym u.changed ∙ ap (get new.entries) (sym one) ∙ f)
        | inr other ↦ inr (other, sym (u.others k other) ∙ f)
      ]

  by_file_put : (f : List ℕ) (old_at new_at : List ℕ → List ℕ) → new_at f ≡ cond (same_name q.0 f) (insert (old_at q.0) (place lock_cmp q (on_file locks q.0)) key) (old_at f)
      → new_at f ≡ cond (same_name f q.0) (insert (old_at f) (place lock_cmp q (on_file locks f)) key) (old_at f)
  by_file_put f old_at new_at h = h ∙ ap (λ b. cond b (insert (old_at q.0) (place lock_cmp q (on_file locks q.0)) key) (old_at f)) (nat_list_eq_equiv.symm q.0 f) ∙ by_test (same_name f q.0) refl
    where
      by_test : (b : Bool) → same_name f q.0 ≡ b → cond b (insert (old_at q.0) (place lock_cmp q (on_file locks q.0)) key) (old_at f) ≡ cond b (insert (old_at f) (place lock_cmp q (on_file locks f)) key) (old_at f)
      by_test true e = ap (λ g. insert (old_at g) (place lock_cmp q (on_file locks g)) key) (sym (same_text f q.0 (sym e)))
      by_test false e = refl

  by_file_cut : (f : List ℕ) (old_at new_at : List ℕ → List ℕ) → new_at f ≡ cond (same_name q.0 f) (remove (old_at q.0) (place lock_cmp q (on_file locks q.0))) (old_at f)
      → new_at f ≡ cond (same_name f q.0) (remove (old_at f) (place lock_cmp q (on_file locks f))) (old_at f)
  by_file_cut f old_at new_at h = h ∙ ap (λ b. cond b (remove (old_at q.0) (place lock_cmp q (on_file locks q.0))) (old_at f)) (nat_list_eq_equiv.symm q.0 f) ∙ by_test (same_name f q.0) refl
    where
      by_test : (b : Bool) → same_name f q.0 ≡ b → cond b (remove (old_at q.0) (place lock_cmp q (on_file locks q.0))) (old_at f) ≡ cond b (remove (old_at f) (place lock_cmp q (on_file locks f))) (old_at f)
      by_test true e = ap (λ g. remove (old_at g) (place lock_cmp q (on_file locks g))) (sym (same_text f q.0 (sym e)))
      by_test false e = refl

  by_txn_put : (t : ℕ) (old_at new_at : ℕ → List ℕ) → new_at t ≡ cond (q.1 == t) (insert (old_at q.1) (place lock_cmp q (held_of locks q.1)) key) (old_at t)
      → new_at t ≡ cond (q.1 == t) (insert (old_at t) (place lock_cmp q (held_of locks t)) key) (old_at t)
  by_txn_put t old_at new_at h = h ∙ by_test (q.1 == t) refl
    where
      by_test : (b : Bool) → (q.1 == t) ≡ b → cond b (insert (old_at q.1) (place lock_cmp q (held_of locks q.1)) key) (old_at t) ≡ cond b (insert (old_at t) (place lock_cmp q (held_of locks t)) key) (old_at t)
      by_test true e =
          let one : q.1 ≡ t = grind (arith, nat_tests) in
          ap (λ g. insert (old_at g) (place lock_cmp q (held_of locks g)) key) one
      by_test false e = refl

  by_txn_cut : (t : ℕ) (old_at new_at : ℕ → List ℕ) → new_at t ≡ cond (q.1 == t) (remove (old_at q.1) (place lock_cmp q (held_of locks q.1))) (old_at t)
      → new_at t ≡ cond (q.1 == t) (remove (old_at t) (place lock_cmp q (held_of locks t))) (old_at t)
  by_txn_cut t old_at new_at h = h ∙ by_test (q.1 == t) refl
    where
      by_test : (b : Bool) → (q.1 == t) ≡ b → cond b (remove (old_at q.1) (place lock_cmp q (held_of locks q.1))) (old_at t) ≡ cond b (remove (old_at t) (place lock_cmp q (held_of locks t))) (old_at t)
      by_test true e =
          let one : q.1 ≡ t = grind (arith, nat_tests) in
          ap (λ g. remove (old_at g) (place lock_cmp q (held_of locks g))) one
      by_test false e = refl

  -- a new entry
  pub Agrees-put : fin.get locks q ≡ None → get old.entries key ≡ None → Updates old.entries new.entries key (Some (q, l))
      → ((f : List ℕ) → keys_under same_name new.by_file f ≡ cond (same_name q.0 f) (insert (keys_under same_name old.by_file q.0) (place lock_cmp q (on_file locks q.0)) key) (keys_under same_name old.by_file f))
      → ((t : ℕ) → keys_under nat_eq new.by_txn t ≡ cond (q.1 == t) (insert (keys_under nat_eq old.by_txn q.1) (place lock_cmp q (held_of locks q.1)) key) (keys_under nat_eq old.by_txn t))
      → Agrees new (fin.insert locks q l)
  Agrees-put absent vacant u files txns = record {
    sound = λ k e f. elim (was_there (Some (q, l)) u k e f) [
      | inl c ↦ subst (λ (x : Entry). fin.get (fin.insert locks q l) x.0 ≡ Some x.1) (some_same (q, l) e c.1) (get-put_same locks q l)
      | inr c ↦ get-put_other locks q l e.0 (new_key k e c.1) ∙ a.sound k e c.1
    ];
    once = λ j k x y f g s. elim (was_there (Some (q, l)) u j x f) [
      | inl c ↦ elim (was_there (Some (q, l)) u k y g) [
        | inl d ↦ c.0 ∙ sym d.0
        | inr d ↦ absurd (new_key k y d.1 (sym s ∙ ap (λ (z : Entry). z.0) (sym (some_same (q, l) x c.1))))
      ]
      | inr c ↦ elim (was_there (Some (q, l)) u k y g) [
        | inl d ↦ absurd (new_key j x c.1 (s ∙ ap (λ (z : Entry). z.0) (sym (some_same (q, l) y d.1))))
        | inr d ↦ a.once j k x y c.1 d.1 s
      ]
    ];
    of_file = λ f. put_listed old.entries new.entries (file_test f) (fin.entries locks) (keys_under same_name old.by_file f) (keys_under same_name new.by_file f) key q l (a.of_file f) (fin.entries_sorted locks) not_in vacant u (by_file_put f (keys_under same_name old.by_file) (keys_under same_name new.by_file) (files f))
        ∙ ap (λ es. map Some (filter (λ (e : Entry). same_name f e.0.0) es)) (sym (fin.entries-insert locks_total locks q l));
    of_txn = λ t. put_listed old.entries new.entries (λ k. k.1 == t) (fin.entries locks) (keys_under nat_eq old.by_txn t) (keys_under nat_eq new.by_txn t) key q l (a.of_txn t) (fin.entries_sorted locks) not_in vacant u (by_txn_put t (keys_under nat_eq old.by_txn) (keys_under nat_eq new.by_txn) (txns t))
        ∙ ap (λ es. map Some (filter (λ (e : Entry). e.0.1 == t) es)) (sym (fin.entries-insert locks_total locks q l));
  }
    where
      new_key : (k : ℕ) (e : Entry) → get old.entries k ≡ Some e → e.0 ≢ q
      new_key k e f s = none_some e.1 (sym absent ∙ ap (fin.get locks) (sym s) ∙ a.sound k e f)

      not_in : find lock_cmp q (fin.entries locks) ≡ None
      not_in = sym (fin.get-entries locks q) ∙ absent

  -- a new lock in an entry that is there
  pub Agrees-set : (m : Lock) → get old.entries key ≡ Some (q, m) → Updates old.entries new.entries key (Some (q, l))
      → ((f : List ℕ) → keys_under same_name new.by_file f ≡ keys_under same_name old.by_file f) → ((t : ℕ) → keys_under nat_eq new.by_txn t ≡ keys_under nat_eq old.by_txn t) → Agrees new (fin.insert locks q l)
  Agrees-set m at u files txns = record {
    sound = λ k e f. elim (was_there (Some (q, l)) u k e f) [
      | inl c ↦ subst (λ (x : Entry). fin.get (fin.insert locks q l) x.0 ≡ Some x.1) (some_same (q, l) e c.1) (get-put_same locks q l)
      | inr c ↦ get-put_other locks q l e.0 (λ s. c.0 (a.once k key e (q, m) c.1 at s)) ∙ a.sound k e c.1
    ];
    once = λ j k x y f g s. elim (was_there (Some (q, l)) u j x f) [
      | inl c ↦ elim (was_there (Some (q, l)) u k y g) [
        | inl d ↦ c.0 ∙ sym d.0
        | inr d ↦ absurd (d.0 (a.once k key y (q, m) d.1 at (sym s ∙ ap (λ (z : Entry). z.0) (sym (some_same (q, l) x c.1)))))
      ]
      | inr c ↦ elim (was_there (Some (q, l)) u k y g) [
        | inl d ↦ absurd (c.0 (a.once j key x (q, m) c.1 at (s ∙ ap (λ (z : Entry). z.0) (sym (some_same (q, l) y d.1)))))
        | inr d ↦ a.once j k x y c.1 d.1 s
      ]
    ];
    of_file = λ f. set_listed old.entries new.entries (file_test f) (fin.entries locks) (keys_under same_name old.by_file f) (keys_under same_name new.by_file f) key q l (a.of_file f) (fin.entries_sorted locks) m a.once is_in at u (files f)
        ∙ ap (λ es. map Some (filter (λ (e : Entry). same_name f e.0.0) es)) (sym (fin.entries-insert locks_total locks q l));
    of_txn = λ t. set_listed old.entries new.entries (λ k. k.1 == t) (fin.entries locks) (keys_under nat_eq old.by_txn t) (keys_under nat_eq new.by_txn t) key q l (a.of_txn t) (fin.entries_sorted locks) m a.once is_in at u (txns t)
        ∙ ap (λ es. map Some (filter (λ (e : Entry). e.0.1 == t) es)) (sym (fin.entries-insert locks_total locks q l));
  }
    where
      is_in : find lock_cmp q (fin.entries locks) ≡ Some m
      is_in = sym (fin.get-entries locks q) ∙ a.sound key (q, m) at

  -- without an entry
  pub Agrees-remove : get old.entries key ≡ Some (q, l) → Updates old.entries new.entries key None
      → ((f : List ℕ) → keys_under same_name new.by_file f ≡ cond (same_name q.0 f) (remove (keys_under same_name old.by_file q.0) (place lock_cmp q (on_file locks q.0))) (keys_under same_name old.by_file f))
      → ((t : ℕ) → keys_under nat_eq new.by_txn t ≡ cond (q.1 == t) (remove (keys_under nat_eq old.by_txn q.1) (place lock_cmp q (held_of locks q.1))) (keys_under nat_eq old.by_txn t))
      → Agrees new (fin.remove locks q)
  Agrees-remove at u files txns = record {
    sound = λ k e f. let c = still k e f in get-cut_other locks q e.0 (λ s. c.0 (a.once k key e (q, l) c.1 at s)) ∙ a.sound k e c.1;
    once = λ j k x y f g s. a.once j k x y (still j x f).1 (still k y g).1 s;
    of_file = λ f. remove_listed old.entries new.entries (file_test f) (fin.entries locks) (keys_under same_name old.by_file f) (keys_under same_name new.by_file f) key q l (a.of_file f) (fin.entries_sorted locks) is_in at u (by_file_cut f (keys_under same_name old.by_file) (keys_under same_name new.by_file) (files f))
        ∙ ap (λ es. map Some (filter (λ (e : Entry). same_name f e.0.0) es)) (sym (entries-remove locks q));
    of_txn = λ t. remove_listed old.entries new.entries (λ k. k.1 == t) (fin.entries locks) (keys_under nat_eq old.by_txn t) (keys_under nat_eq new.by_txn t) key q l (a.of_txn t) (fin.entries_sorted locks) is_in at u (by_txn_cut t (keys_under nat_eq old.by_txn) (keys_under nat_eq new.by_txn) (txns t))
        ∙ ap (λ es. map Some (filter (λ (e : Entry). e.0.1 == t) es)) (sym (entries-remove locks q));
  }
    where
      is_in : find lock_cmp q (fin.entries locks) ≡ Some l
      is_in = sym (fin.get-entries locks q) ∙ a.sound key (q, l) at

      still : (k : ℕ) (e : Entry) → get new.entries k ≡ Some e → (k ≢ key) × (get old.entries k ≡ Some e)
      still k e f = elim (was_there None u k e f) [ inl c ↦ absurd (none_some e c.1) | inr c ↦ c ]

-- ---- what changes of one entry come to

pub closed : (kept : KeyedLocks) (locks : Locks) → Agrees kept locks → HasNoConflict locks → Agrees kept (locks_in kept) × HasNoConflict (locks_in kept)
closed kept locks a h = let e = sym (locks_in-agreed kept locks a) in (subst (Agrees kept) e a, subst HasNoConflict e h)

pub agreed_self : (kept : KeyedLocks) (locks : Locks) → Agrees kept locks → Agrees kept (locks_in kept)
agreed_self kept locks a = subst (Agrees kept) (sym (locks_in-agreed kept locks a)) a

same_sets : (m n : Locks) → ((q : LockKey) → fin.get m q ≡ fin.get n q) → m ≡ n
same_sets = fin.same_map locks_total locks_same

cut_same : (test c : Bool) (o : Option Lock) → (c ≡ true → test ≡ false) → cond test (cond c None o) None ≡ cond test o None
cut_same true true o h = absurd (true≢false (h refl))
cut_same true false o h = refl
cut_same false c o h = refl

-- one of the locks that are to go may go first
pub released-remove : (locks : Locks) (q : LockKey) → locks_after_release (fin.remove locks q) q.1 ≡ locks_after_release locks q.1
released-remove locks q = same_sets _ _ (λ r.
    get-released (fin.remove locks q) q.1 r
    ∙ ap (λ o. cond (not (r.1 == q.1)) o None) (fin.get-remove locks_total locks q r)
    ∙ cut_same (not (r.1 == q.1)) (eq_by_cmp lock_cmp r q) (fin.get locks r) (λ h. ap (λ (k : LockKey). not (k.1 == q.1)) (same_key r q h) ∙ ap not (itself_number q.1))
    ∙ sym (get-released locks q.1 r))
  where
    itself_number : (n : ℕ) → (n == n) ≡ true
    itself_number n = grind (arith, nat_tests)

nothing_held : (locks : Locks) (txn : ℕ) → held_of locks txn ≡ [] → (q : LockKey) (l : Lock) → (q.1 == txn) ≡ true → fin.get locks q ≡ Some l → ⊥
nothing_held locks txn e q l t f = subst (λ es. Has es (q, l)) e (filter-Has (λ (x : Entry). x.0.1 == txn) (fin.entries locks) (q, l) (entry_of locks_total locks_same locks q l f) t)

-- where a transaction holds nothing there is nothing to release
pub released-none : (locks : Locks) (txn : ℕ) → held_of locks txn ≡ [] → locks_after_release locks txn ≡ locks
released-none locks txn e = same_sets _ _ (λ q. get-released locks txn q ∙ by_look q (q.1 == txn) refl (fin.get locks q) refl)
  where
    by_look : (q : LockKey) (b : Bool) → (q.1 == txn) ≡ b → (o : Option Lock) → fin.get locks q ≡ o → cond (not b) o None ≡ o
    by_look q true t None f = refl
    by_look q true t (Some l) f = absurd (nothing_held locks txn e q l t f)
    by_look q false t o f = refl

pub only_stable-remove : (locks : Locks) (q : LockKey) (l : Lock) → fin.get locks q ≡ Some l → l.stable ≡ false → only_stable (fin.remove locks q) ≡ only_stable locks
only_stable-remove locks q l f h = same_sets _ _ (λ r.
    get-only_stable (fin.remove locks q) r
    ∙ ap (λ o. cond (option_map_or (λ (x : Lock). x.stable) o false) o None) (fin.get-remove locks_total locks q r)
    ∙ by_test r (eq_by_cmp lock_cmp r q) refl
    ∙ sym (get-only_stable locks r))
  where
    by_test : (r : LockKey) (b : Bool) → eq_by_cmp lock_cmp r q ≡ b → cond (option_map_or (λ (x : Lock). x.stable) (cond b None (fin.get locks r)) false) (cond b None (fin.get locks r)) None ≡ cond (option_map_or (λ (x : Lock). x.stable) (fin.get locks r) false) (fin.get locks r) None
    by_test r true e = sym (ap (λ o. cond (option_map_or (λ (x : Lock). x.stable) o false) o None) (ap (fin.get locks) (same_key r q e) ∙ f) ∙ ap (λ b. cond b (Some l) None) h)
    by_test r false e = refl

-- where each lock is stable, all are kept
pub only_stable-all : (locks : Locks) → ((q : LockKey) (l : Lock) → fin.get locks q ≡ Some l → l.stable ≡ true) → only_stable locks ≡ locks
only_stable-all locks all = same_sets _ _ (λ q. get-only_stable locks q ∙ by_look q (fin.get locks q) refl)
  where
    by_look : (q : LockKey) (o : Option Lock) → fin.get locks q ≡ o → cond (option_map_or (λ (x : Lock). x.stable) o false) o None ≡ o
    by_look q None f = refl
    by_look q (Some l) f = ap (λ b. cond b (Some l) None) (all q l f)
