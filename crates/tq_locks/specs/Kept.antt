-- The locks of a table as it keeps them: entries under keys, and the keys of each file and of each transaction.
use Rattle.std.specs.Prelude.{◌≡◌, ◌≤◌, ◌==◌, ◌+◌, ℕ, T, Bool, IfSome, IfNone, IsSome, slice_get, List, [], ◌∷◌, Option, length, map, filter, Some, None, false, nat_eq, if◌then◌else◌}
use Rattle.std.specs.{List.{IsDistinct, remove}, List.Sorted.IsPermutation, Ordering.is_lt}
use Rattle.std.specs.Option.{option_map, option_map_or, option_and_then}
use Rattle.std.specs.FinMap as fin
use Rattle.tq_shape.specs.Journal.{state_at}
use Rattle.slab.specs.Slab.{Slab, get, slab_len, values}
use Rattle.tq_store.specs.Names.{same_name}
use Rattle.tq_locks.specs.declared.{keyed.KeyedLocks.KeyedLocks, mode.Mode.Mode, mode.Lock.Lock, index.Spot.Spot}
use Rattle.tq_locks.specs.{Locks.{LockKey, Locks, lock_cmp, conflicts, held_of}, Keys.{keys_under, place, entries_of}}
use Rattle.indexmap.specs.IndexMap.{index_of}

-- the entries that are kept, as a set of locks
abbrev pub locks_in : KeyedLocks → Locks
locks_in kept = fin.from_entries (values kept.entries)

-- the locks on a file, ascending by transaction
abbrev pub on_file : Locks → List ℕ → List (LockKey × Lock)
on_file locks file = filter (λ entry. same_name file entry.0.0) (fin.entries locks)

-- what the first lock of another transaction says: its transaction blocks, or none does
abbrev pub first_blocker : ℕ → Mode → List (LockKey × Lock) → Option ℕ
first_blocker txn mode [] = None
first_blocker txn mode (e ∷ es) = if e.0.1 == txn then first_blocker txn mode es else (if conflicts mode e.1.mode then Some e.0.1 else None)

-- the lock under a key, where one was found
abbrev pub lock_found : Slab (LockKey × Lock) → Option ℕ → Option Lock
lock_found slab found = option_map (λ entry. entry.1) (option_and_then (get slab) found)

-- the keys of a file's locks
abbrev pub file_keys : KeyedLocks → List ℕ → List ℕ
file_keys kept file = keys_under same_name kept.by_file file

-- the index of the list of a file's keys, if there is one
abbrev pub file_index : KeyedLocks → List ℕ → Option ℕ
file_index kept file = index_of same_name kept.by_file file

-- the locks on a file, by its keys
abbrev pub told_on : KeyedLocks → List ℕ → List (LockKey × Lock)
told_on kept file = entries_of kept.entries (file_keys kept file)

-- the transaction that blocks a request for the lock on this file, by the first lock there of another one
abbrev pub decided_on : KeyedLocks → LockKey → Mode → Option ℕ
decided_on kept name mode = first_blocker name.1 mode (on_file (locks_in kept) name.0)

-- the keys are those of these entries, in this order
abbrev pub AreKeysOf : Slab (LockKey × Lock) → List ℕ → List (LockKey × Lock) → Type 0
AreKeysOf slab keys entries = map (get slab) keys ≡ map Some entries

-- the keys are those of exactly these entries, in any order
abbrev pub ListsKeysOf : Slab (LockKey × Lock) → List ℕ → List (LockKey × Lock) → Type 0
ListsKeysOf slab keys entries = IsPermutation (map Some entries) (map (get slab) keys)

-- the slab and both indexes keep the same locks
pub record Agrees (kept : KeyedLocks) (locks : Locks) : Type 0 where
  -- each entry of the slab is a lock of the set, and no other key has it
  pub sound : (key : ℕ) (entry : LockKey × Lock) → get kept.entries key ≡ Some entry → fin.get locks entry.0 ≡ Some entry.1
  pub once : (key other : ℕ) (entry twin : LockKey × Lock) → get kept.entries key ≡ Some entry → get kept.entries other ≡ Some twin → entry.0 ≡ twin.0 → key ≡ other
  -- each index has the keys of all the locks of a file, and of a transaction
  pub of_file : (file : List ℕ) → AreKeysOf kept.entries (keys_under same_name kept.by_file file) (on_file locks file)
  pub of_txn : (txn : ℕ) → AreKeysOf kept.entries (keys_under nat_eq kept.by_txn txn) (held_of locks txn)

-- the entry under a key comes before a place in the set
abbrev pub is_under : Slab (LockKey × Lock) → LockKey → ℕ → Bool
is_under slab name key = option_map_or (λ entry. is_lt (lock_cmp entry.0 name)) (get slab key) false

-- there is a key at this index, and the entry under it comes before a place in the set
abbrev pub is_under_at : Slab (LockKey × Lock) → LockKey → List ℕ → ℕ → Bool
is_under_at slab name keys at = option_map_or (is_under slab name) (slice_get keys at) false

-- where the entries of the keys rise, so many of them are below a key of the set
abbrev pub RisesTo : Slab (LockKey × Lock) → List ℕ → LockKey → ℕ → Type 0
RisesTo slab keys key count = (entries : List (LockKey × Lock)) → AreKeysOf slab keys entries → T (fin.is_sorted lock_cmp entries) → count ≡ place lock_cmp key entries

-- these are the keys of a transaction, and the key of its lock on a file stands or goes at the place
pub record IsPlaceUnder (kept : KeyedLocks) (name : LockKey) (keys : List ℕ) (place : ℕ) : Type 0 where
  pub all : keys ≡ keys_under nat_eq kept.by_txn name.1
  pub within : place ≤ length keys
  pub rises : RisesTo kept.entries keys name place

-- the spot has the index of the transaction's keys, and the place of its lock on a file
abbrev pub IsSpotOf : KeyedLocks → LockKey → Spot → Type 0
IsSpotOf kept name spot = (spot.index ≡ index_of nat_eq kept.by_txn name.1) × IsPlaceUnder kept name (keys_under nat_eq kept.by_txn name.1) spot.place

-- the entry under a key is the lock of this file and transaction
abbrev pub IsOf : Slab (LockKey × Lock) → ℕ → LockKey → Type 0
IsOf slab key name = (lock : Lock) × (get slab key ≡ Some (name, lock))

-- where slab and indexes agree, a key that was found is that of this file and transaction
abbrev pub FindsOwn : KeyedLocks → LockKey → Option ℕ → Type 0
FindsOwn kept name found = Agrees kept (locks_in kept) → IfSome found (λ key. IsOf kept.entries key name)

-- where they agree and no key was found, this transaction has no lock on this file
abbrev pub FindsNone : KeyedLocks → LockKey → Option ℕ → Type 0
FindsNone kept name found = Agrees kept (locks_in kept) → IfNone found (fin.get (locks_in kept) name ≡ None)

-- where these are the keys of a transaction, a key that was found at the place is that of its lock on the file
abbrev pub FindsOwnAt : KeyedLocks → List ℕ → List ℕ → ℕ → Option ℕ → Type 0
FindsOwnAt kept file keys place found = (txn : ℕ) → IsPlaceUnder kept (file, txn) keys place → FindsOwn kept (file, txn) found

-- where these are the keys of a transaction and none was found at the place, it has no lock on the file
abbrev pub FindsNoneAt : KeyedLocks → List ℕ → List ℕ → ℕ → Option ℕ → Type 0
FindsNoneAt kept file keys place found = (txn : ℕ) → IsPlaceUnder kept (file, txn) keys place → FindsNone kept (file, txn) found

-- the place of this file and transaction among the keys of the file
abbrev pub IsPlaceInFile : KeyedLocks → LockKey → ℕ → Type 0
IsPlaceInFile kept name place = RisesTo kept.entries (file_keys kept name.0) name place

-- with one more lock, where no transaction blocks it
abbrev pub IsInserted : KeyedLocks → KeyedLocks → LockKey → Lock → Option ℕ → Type 0
IsInserted old new name lock by = Agrees new (state_at by (locks_in old) (fin.insert (locks_in old) name lock))

-- the lock of the entry under a key is this one from now on
abbrev pub SetsLock : KeyedLocks → KeyedLocks → ℕ → Lock → Type 0
SetsLock old new key lock = (name : LockKey) → IsOf old.entries key name → Agrees new (fin.insert (locks_in old) name lock)

-- the lock of the entry under a key is there no more
abbrev pub EndsLock : KeyedLocks → KeyedLocks → ℕ → Type 0
EndsLock old new key = (name : LockKey) → IsOf old.entries key name → Agrees new (fin.remove (locks_in old) name)

-- where there is an entry under the key, there is one entry fewer from now on
abbrev pub HasOneFewer : Slab (LockKey × Lock) → Slab (LockKey × Lock) → ℕ → Type 0
HasOneFewer old new key = IsSome (get old key) → slab_len new + 1 ≡ slab_len old

-- the key of this file and transaction has left the keys of the file, where it stood in its place
pub record LeftFile (old new : KeyedLocks) (name : LockKey) : Type 0 where
  pub place : ℕ
  pub stood : RisesTo old.entries (keys_under same_name old.by_file name.0) name place
  pub files : (file : List ℕ) → keys_under same_name new.by_file file ≡ (if same_name name.0 file then remove (keys_under same_name old.by_file name.0) place else keys_under same_name old.by_file file)

-- the entry under a key has left the keys of its file
abbrev pub LeavesFile : KeyedLocks → KeyedLocks → ℕ → Type 0
LeavesFile old new key = (name : LockKey) → IsOf old.entries key name → LeftFile old new name

-- no key stands twice, and there are as many as entries
abbrev pub HasOneKeyEach : List ℕ → List (LockKey × Lock) → Type 0
HasOneKeyEach keys entries = IsDistinct nat_eq keys × (length keys ≡ length entries)
