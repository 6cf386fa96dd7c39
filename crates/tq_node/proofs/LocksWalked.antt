-- The locks that a vote keeps: those that it lists, and their versions. Where a walk of a transaction's locks comes to
-- one for each write, it holds them all exclusively.
use Rattle.std.proofs.Common.{◌≡◌, ℕ, List, [], ◌∷◌, map, refl, ap, ◌==◌, ◌&&◌, Bool, true, false, cond, not, length, Option, Some, None, sym, ◌∙◌, inl, inr}
use Rattle.std.proofs.lemmas.Bool.{eq-eqb, eqb-true, false≢true}
use Rattle.std.specs.{Cmp.Lexicographic.same_text, List.find, Option.{option_map, option_map_or}}
use Rattle.tq_intents.specs.Sharing.{kept_each}
use Rattle.tq_locks.specs.{Locks.{LockKey, is_exclusive, held_of, holds_nothing}, declared.mode.Lock.Lock}
use Rattle.tq_locks.proofs.Found.{locks_total, locks_same, entry_of, get-entry_of, none_some}
use Rattle.tq_node.specs.{Records.{held_lock, kept_lock, Records, holds_exclusively, not_locked}, Telling.all_held}
use Rattle.std.specs.FinMap as fin
use Rattle.tq_shape.{specs.Journal.{Has, is_empty}, proofs.Places.{Has-filter, filter-Has}}
use Rattle.tq_store.specs.{Names.same_name, declared.write.Write.Write}

abbrev pub version_of : LockKey × Lock → ℕ
version_of entry = entry.1.version

pub kept_each-map : (entries : List (LockKey × Lock)) → kept_each (map held_lock entries) (map version_of entries) ≡ map kept_lock entries
kept_each-map [] = refl
kept_each-map (entry ∷ entries) = ap (λ rest. kept_lock entry ∷ rest) (kept_each-map entries)

-- ---- locks walked

module _ (old : Records) (txn : ℕ) where
  abbrev free : Write → Bool
  free write = not (holds_exclusively old txn write.file)

  -- a lock of the transaction, on the file of a write
  held_here : (entry : LockKey × Lock) (write : Write) → Has (held_of old.locks txn) entry → same_name entry.0.0 write.file ≡ true → is_exclusive entry.1.mode ≡ true → free write ≡ false
  held_here entry write has name exclusive =
      let of = Has-filter (λ (e : LockKey × Lock). e.0.1 == txn) (fin.entries old.locks) entry has in
      let key : entry.0 ≡ (write.file, txn) = λ i. (same_text entry.0.0 write.file (sym name) i, eqb-true entry.0.1 txn of.1 i) in
      let there : fin.get old.locks (write.file, txn) ≡ Some entry.1 = ap (fin.get old.locks) (sym key) ∙ get-entry_of locks_total locks_same old.locks entry of.0 in
      ap not (ap (λ (o : Option Lock). option_map_or (λ (lock : Lock). is_exclusive lock.mode) o false) there ∙ exclusive)

  none_free : (walk : List (LockKey × Lock)) (writes : List Write) → ((entry : LockKey × Lock) → Has walk entry → Has (held_of old.locks txn) entry) → all_held walk writes ≡ true → find free writes ≡ None
  none_free walk [] from h = refl
  none_free [] (write ∷ writes) from h = absurd (false≢true h)
  none_free (entry ∷ walk) (write ∷ writes) from h =
      by_name (same_name entry.0.0 write.file) refl (is_exclusive entry.1.mode) refl h (none_free walk writes (λ e m. from e (inr m))) (none_free walk (write ∷ writes) (λ e m. from e (inr m)))
    where
      by_name : (b : Bool) → same_name entry.0.0 write.file ≡ b → (c : Bool) → is_exclusive entry.1.mode ≡ c → cond b (c && all_held walk writes) (all_held walk (write ∷ writes)) ≡ true
          → (all_held walk writes ≡ true → find free writes ≡ None) → (all_held walk (write ∷ writes) ≡ true → find free (write ∷ writes) ≡ None) → find free (write ∷ writes) ≡ None
      by_name true name true mode t here later = ap (λ b. cond b (Some write) (find free writes)) (held_here entry write (from entry (inl refl)) name mode) ∙ here t
      by_name true name false mode t here later = absurd (false≢true t)
      by_name false name c mode t here later = later t

  pub all_locked : (writes : List Write) → all_held (held_of old.locks txn) writes ≡ true → not_locked old txn writes ≡ None
  all_locked writes h = ap (option_map (λ (w : Write). w.file)) (none_free (held_of old.locks txn) writes (λ e m. m) h)

  something_there : (entry : LockKey × Lock) (all : List (LockKey × Lock)) → Has all entry → is_empty all ≡ false
  something_there entry [] h = absurd h
  something_there entry (first ∷ rest) h = refl

  held_one : (write : Write) (found : Option Lock) → fin.get old.locks (write.file, txn) ≡ found → option_map_or (λ (lock : Lock). is_exclusive lock.mode) found false ≡ true → holds_nothing old.locks txn ≡ false
  held_one write None at h = absurd (false≢true h)
  held_one write (Some lock) at h =
      something_there ((write.file, txn), lock) (held_of old.locks txn)
      (filter-Has (λ (e : LockKey × Lock). e.0.1 == txn) (fin.entries old.locks) ((write.file, txn), lock) (entry_of locks_total locks_same old.locks (write.file, txn) lock at) (eq-eqb txn txn refl))

  -- who holds the file of a write exclusively holds something
  pub holds_some : (writes : List Write) → (length writes == 0) ≡ false → not_locked old txn writes ≡ None → holds_nothing old.locks txn ≡ false
  holds_some [] some h = absurd (false≢true (sym some))
  holds_some (write ∷ writes) some h = by_lock (holds_exclusively old txn write.file) refl h
    where
      by_lock : (b : Bool) → holds_exclusively old txn write.file ≡ b → option_map (λ (w : Write). w.file) (cond (not b) (Some write) (find free writes)) ≡ None → holds_nothing old.locks txn ≡ false
      by_lock true e n = held_one write (fin.get old.locks (write.file, txn)) refl e
      by_lock false e n = absurd (none_some write.file (sym n))
