-- The locks of a server, a finite map from a file and a transaction to a lock. Locks under keys, and the keys of those
-- that aren't stable.
use Rattle.std.specs.Prelude.{◌≡◌, ◌≢◌, ◌≤◌, ℕ, Bool, true, false, not, ◌&&◌, ◌||◌, ◌==◌, List, map, filter, Option, Some, None, if◌then◌else◌, refl, codes, [], ◌∷◌, nat_eq}
use Rattle.std.specs.{Coded.{Coded, code_by, coded×, coded_list, coded_ℕ, coded_bool}, List.{find, list_any}}
use Rattle.std.specs.{Option.{option_map, option_map_or}, Ordering.{nat_cmp, ordering_then}}
use Rattle.std.specs.declared.cmp.Ordering.{Ordering}
use Rattle.std.specs.FinMap as fin
use Rattle.tq_store.specs.{Copies.name_cmp, Names.same_name}
use Rattle.tq_locks.specs.declared.mode.{Mode.Mode, Mode.TheVariants.{Shared, Exclusive}, Lock.Lock}
use Rattle.tq_locks.specs.declared.table.{LockOutcome.LockOutcome, LockOutcome.TheVariants.{Granted, Held}}
use Rattle.tq_shape.specs.Journal.{state_at, is_empty, Has}
use Rattle.slab.specs.Slab.{Slab, slab_code, get, slab_len, Updates}

-- a file and a transaction
abbrev pub LockKey : Type 0
LockKey = List ℕ × ℕ

-- by file, and then by transaction
abbrev pub lock_cmp : LockKey → LockKey → Ordering
lock_cmp a b = ordering_then (name_cmp a.0 b.0) (nat_cmp a.1 b.1)

-- the set of locks: at most one for a file and a transaction
abbrev pub Locks : Type 0
Locks = fin.FinMap lock_cmp Lock

-- shared agrees with shared only
abbrev pub conflicts : Mode → Mode → Bool
conflicts Shared Shared = false
conflicts Shared Exclusive = true
conflicts Exclusive other = true

abbrev pub stronger : Mode → Mode → Mode
stronger Exclusive other = Exclusive
stronger Shared other = other

abbrev pub is_exclusive : Mode → Bool
is_exclusive Exclusive = true
is_exclusive Shared = false

-- the word for a mode
abbrev pub mode_text : Mode → List ℕ
mode_text Shared = codes "shared"
mode_text Exclusive = codes "exclusive"

-- another transaction's lock on the file that conflicts with the mode
abbrev pub blocks : List ℕ → ℕ → Mode → LockKey × Lock → Bool
blocks file txn mode entry = same_name file entry.0.0 && not (txn == entry.0.1) && conflicts mode entry.1.mode

-- the least transaction with a lock that conflicts: the entries of a file rise by transaction
abbrev pub blocker : Locks → List ℕ → ℕ → Mode → Option ℕ
blocker locks file txn mode = option_map (λ entry. entry.0.1) (find (blocks file txn mode) (fin.entries locks))

-- another transaction has a lock on the file that conflicts with the mode
pub record Blocks (locks : Locks) (file : List ℕ) (txn : ℕ) (mode : Mode) (by : ℕ) : Type 0 where
  pub other : by ≢ txn
  pub lock : Lock
  pub is_there : fin.get locks (file, by) ≡ Some lock
  pub conflict : conflicts mode lock.mode ≡ true

-- it blocks the request, and no transaction of a smaller number does
pub record IsLeastBlocker (locks : Locks) (file : List ℕ) (txn : ℕ) (mode : Mode) (by : ℕ) : Type 0 where
  pub blocks : Blocks locks file txn mode by
  pub least : (other : ℕ) → Blocks locks file txn mode other → by ≤ other

-- no transaction blocks the request
abbrev pub IsFree : Locks → List ℕ → ℕ → Mode → Type 0
IsFree locks file txn mode = (by : ℕ) → ¬ Blocks locks file txn mode by

-- the lock after a grant: one that is held keeps `since`, and the stronger mode
abbrev pub lock_after : Option Lock → Mode → ℕ → ℕ → Lock
lock_after None mode number version = record { mode = mode; since = number; version = version; stable = false }
lock_after (Some lock) mode number version = record { mode = stronger lock.mode mode; since = lock.since; version = lock.version; stable = lock.stable }

abbrev pub locks_after_grant : Locks → List ℕ → ℕ → Mode → ℕ → ℕ → Locks
locks_after_grant locks file txn mode number version = fin.insert locks (file, txn) (lock_after (fin.get locks (file, txn)) mode number version)

-- what a request for a lock gets, by the transaction that blocks it
abbrev pub outcome : Option ℕ → LockOutcome
outcome None = Granted
outcome (Some by) = Held by

-- granted where nothing blocks the request, and else the least that blocks it is named
abbrev pub IsTold : Locks → List ℕ → ℕ → Mode → LockOutcome → Type 0
IsTold locks file txn mode Granted = IsFree locks file txn mode
IsTold locks file txn mode (Held by) = IsLeastBlocker locks file txn mode by

-- the locks after a request: one that is blocked leaves them as they were
abbrev pub locks_after_ask : Locks → List ℕ → ℕ → Mode → ℕ → ℕ → Locks
locks_after_ask locks file txn mode number version = state_at (blocker locks file txn mode) locks (locks_after_grant locks file txn mode number version)

-- the locks of a transaction, ascending by file
abbrev pub held_of : Locks → ℕ → List (LockKey × Lock)
held_of locks txn = filter (λ entry. entry.0.1 == txn) (fin.entries locks)

-- the transaction holds no lock
abbrev pub holds_nothing : Locks → ℕ → Bool
holds_nothing locks txn = is_empty (held_of locks txn)

-- without the locks of a transaction
abbrev pub locks_after_release : Locks → ℕ → Locks
locks_after_release locks txn = fin.retain_keys locks (λ key. not (key.1 == txn))

-- without the locks that aren't stable
abbrev pub only_stable : Locks → Locks
only_stable locks = fin.retain_keys locks (λ key. option_map_or (λ lock. lock.stable) (fin.get locks key) false)

-- stable from now on, where it is the transaction's
abbrev pub entry_after_keep : ℕ → LockKey × Lock → LockKey × Lock
entry_after_keep txn entry = (entry.0, record { mode = entry.1.mode; since = entry.1.since; version = entry.1.version; stable = entry.1.stable || entry.0.1 == txn })

-- with the locks of a transaction stable
abbrev pub locks_after_keep : Locks → ℕ → Locks
locks_after_keep locks txn = fin.from_entries (map (entry_after_keep txn) (fin.entries locks))

-- no two locks of the set are in conflict
abbrev pub HasNoConflict : Locks → Type 0
HasNoConflict locks = (file : List ℕ) (s t : ℕ) (a b : Lock) → s ≢ t → fin.get locks (file, s) ≡ Some a → fin.get locks (file, t) ≡ Some b → conflicts a.mode b.mode ≡ false

-- codes, by which a proof tells values apart
abbrev pub mode_code : Coded Mode
mode_code = code_by Bool coded_bool is_exclusive (λ b. if b then Exclusive else Shared) (λ mode. elim mode as (λ m. (if is_exclusive m then Exclusive else Shared) ≡ m) [ Shared ↦ refl | Exclusive ↦ refl ])

abbrev pub lock_code : Coded Lock
lock_code = code_by (Mode × (ℕ × (ℕ × Bool))) (coded× mode_code (coded× coded_ℕ (coded× coded_ℕ coded_bool))) (λ l. (l.mode, (l.since, (l.version, l.stable)))) (λ p. record { mode = p.0; since = p.1.0; version = p.1.1.0; stable = p.1.1.1 }) (λ _. refl)

abbrev pub locks_code : Coded Locks
locks_code = fin.code (coded× (coded_list coded_ℕ) coded_ℕ) lock_code

abbrev pub lock_entry_code : Coded (LockKey × Lock)
lock_entry_code = coded× (coded× (coded_list coded_ℕ) coded_ℕ) lock_code

-- what contracts see of a table: the set of locks, and the slab that has each of them under its key
pub record LocksView : Type 0 where
  pub locks : Locks
  pub slab : Slab (LockKey × Lock)

abbrev pub view_code : Coded LocksView
view_code = code_by (Locks × Slab (LockKey × Lock)) (coded× locks_code (slab_code lock_entry_code)) (λ v. (v.locks, v.slab)) (λ p. record { locks = p.0; slab = p.1 }) (λ _. refl)

-- the entry is a lock of the set
abbrev pub IsAmong : Locks → LockKey × Lock → Type 0
IsAmong locks entry = fin.get locks entry.0 ≡ Some entry.1

-- the lock is granted, and no other has changed
abbrev pub IsGranted : LocksView → LocksView → List ℕ → ℕ → Mode → ℕ → ℕ → Type 0
IsGranted old new file txn mode number version = new.locks ≡ locks_after_grant old.locks file txn mode number version

-- the lock is granted unless a transaction blocks it, and no other has changed
abbrev pub IsAsked : LocksView → LocksView → List ℕ → ℕ → Mode → ℕ → ℕ → Type 0
IsAsked old new file txn mode number version = new.locks ≡ locks_after_ask old.locks file txn mode number version

-- ---- loose

-- the lock under a key, if there is one, is stable
abbrev pub IsStableAt : Slab (LockKey × Lock) → ℕ → Type 0
IsStableAt slab key = (entry : LockKey × Lock) → get slab key ≡ Some entry → entry.1.stable ≡ true

-- there is a lock under a key, and it isn't stable
abbrev pub IsLooseAt : Slab (LockKey × Lock) → ℕ → Type 0
IsLooseAt slab key = (entry : LockKey × Lock) × (get slab key ≡ Some entry) × (entry.1.stable ≡ false)

-- each lock is stable
abbrev pub AreStable : Slab (LockKey × Lock) → Type 0
AreStable slab = (key : ℕ) → IsStableAt slab key

-- the key of each lock that isn't stable is in the list
abbrev pub ListsLoose : Slab (LockKey × Lock) → List ℕ → Type 0
ListsLoose slab keys = (key : ℕ) → IsLooseAt slab key → Has keys key

-- how many locks fit with no allocation, where these keys are listed: none but those that are there, unless the next key is
abbrev pub room_with : Slab (LockKey × Lock) → List ℕ → ℕ
room_with slab keys = if list_any (nat_eq slab.vacant_key) keys then slab.capacity else slab_len slab

-- the same locks, with that room
abbrev pub with_room : Slab (LockKey × Lock) → List ℕ → Slab (LockKey × Lock)
with_room slab keys = record { slots = slab.slots; vacant_key = slab.vacant_key; capacity = room_with slab keys }

-- the lock is as stable as the one under a key
abbrev pub IsAsStable : Slab (LockKey × Lock) → ℕ → Lock → Type 0
IsAsStable slab key lock = (entry : LockKey × Lock) → get slab key ≡ Some entry → lock.stable ≡ entry.1.stable

-- the entry under a key, if there is one, has this lock from now on, and each other is as it was
abbrev pub PutsLock : Slab (LockKey × Lock) → Slab (LockKey × Lock) → ℕ → Lock → Type 0
PutsLock old new key lock = (entry : LockKey × Lock) → get old key ≡ Some entry → Updates old new key (Some (entry.0, lock))

-- the same lock, stable
abbrev pub steady : Lock → Lock
steady lock = record { mode = lock.mode; since = lock.since; version = lock.version; stable = true }

-- the same entry, with its lock stable
abbrev pub steady_entry : LockKey × Lock → LockKey × Lock
steady_entry entry = (entry.0, steady entry.1)

-- the entry under a key, where the locks under these keys become stable
abbrev pub entry_after_steady : Slab (LockKey × Lock) → List ℕ → ℕ → Option (LockKey × Lock)
entry_after_steady slab [] key = get slab key
entry_after_steady slab (k ∷ keys) key = if key == k then option_map steady_entry (get slab key) else entry_after_steady slab keys key

-- the entry under a key, where another lock comes into one of them
abbrev pub with_lock : Slab (LockKey × Lock) → ℕ → Lock → ℕ → Option (LockKey × Lock)
with_lock slab k lock key = if key == k then option_map (λ entry. (entry.0, lock)) (get slab key) else get slab key
