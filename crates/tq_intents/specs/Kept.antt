-- What a list of stable records stands for: copies, open votes and their locks. The open votes by transaction, and
-- what contracts see of a server's log. What changes in a server's log, and in the index of its open votes.
use Rattle.std.specs.Prelude.{◌≡◌, ℕ, Bool, true, false, ◌&&◌, ◌==◌, ◌<◌, nat_lt, nat_le, max, ⊤, List, [], ◌∷◌, ◌++◌, map, filter, take, Option, Some, None, if◌then◌else◌, refl}
use Rattle.std.specs.{List.{AllByRecursion, find, list_any, filter_map, flat_map}, Ordering.nat_cmp, BTreeMap.is_at}
use Rattle.std.specs.{Option.{option_and_then, option_map, option_map_or}, List.Sorted.IsStrictlySortedBy, Global.Vec}
use Rattle.std.specs.{Coded.{Coded, code_by, coded×, coded_list, coded_ℕ}, Map.{keys_of, lookup}}
use Rattle.std.specs.FinMap as fin
use Rattle.tq_store.specs.Copies.{Files, copy_at, copy_in, copy_of, copies_after_install, installed_all, is_newer}
use Rattle.tq_store.specs.{declared.write.Write.Write, Names.same_name}
use Rattle.tq_locks.specs.{Locks.{Locks, LockKey}, declared.mode.Lock.Lock}
use Rattle.tq_intents.specs.declared.record.{KeptLock.KeptLock, OpenVote.OpenVote, Record.Record}
use Rattle.tq_intents.specs.declared.record.Record.TheVariants.{Copy, Intent, Keep, Prepared, Gone}
use Rattle.tq_shape.specs.Journal.{Has}

-- the open votes, by transaction
abbrev pub Votes : Type 0
Votes = fin.FinMap nat_cmp OpenVote

-- the vote's end
abbrev pub ends_vote : ℕ → ℕ → Record → Bool
ends_vote txn number (Gone t n) = txn == t && number == n
ends_vote txn number other = false

abbrev pub write_of : ℕ → ℕ → Record → Option Write
write_of txn number (Intent t n write) = if txn == t && number == n then Some write else None
write_of txn number other = None

abbrev pub lock_of : ℕ → ℕ → Record → Option KeptLock
lock_of txn number (Keep t n lock) = if txn == t && number == n then Some lock else None
lock_of txn number other = None

-- a vote with the writes and the locks that the list has for it
abbrev pub vote_of : List Record → ℕ → ℕ → OpenVote
vote_of list txn number = record { number = number; writes = filter_map (write_of txn number) list; locks = filter_map (lock_of txn number) list }

-- a vote is open where its `Prepared` is in the list and its `Gone` isn't
abbrev pub opened_vote : List Record → Record → Option (ℕ × OpenVote)
opened_vote list (Prepared txn number) = if list_any (ends_vote txn number) list then None else Some (txn, vote_of list txn number)
opened_vote list other = None

abbrev pub open_votes : List Record → List (ℕ × OpenVote)
open_votes list = filter_map (opened_vote list) list

abbrev pub kept_votes : List Record → Votes
kept_votes list = fin.from_entries (open_votes list)

-- each open vote is the one that its transaction has
abbrev pub HasOneVoteEach : List Record → Type 0
HasOneVoteEach list = AllByRecursion (λ entry. fin.get (kept_votes list) entry.0 ≡ Some entry.1) (open_votes list)

-- the open vote of a transaction, where there is one
abbrev pub vote_at : Votes → ℕ → OpenVote
vote_at votes txn = option_map_or (λ vote. vote) (fin.get votes txn) (record { number = 0; writes = []; locks = [] })

abbrev pub IsBelow : ℕ → Record → Type 0
IsBelow number (Copy write) = ⊤
IsBelow number (Intent txn n write) = n < number
IsBelow number (Keep txn n lock) = n < number
IsBelow number (Prepared txn n) = n < number
IsBelow number (Gone txn n) = n < number

-- the number is above all in the records
abbrev pub IsAbove : ℕ → List Record → Type 0
IsAbove number list = AllByRecursion (IsBelow number) list

-- the records of a vote, in order
abbrev pub vote_records : ℕ → ℕ → List Write → List KeptLock → List Record
vote_records txn number writes locks = map (Intent txn number) writes ++ (map (Keep txn number) locks ++ Prepared txn number ∷ [])

-- an intent or a lock of the vote of this number
abbrev pub is_dead : ℕ → Record → Bool
is_dead number (Intent txn n write) = n == number
is_dead number (Keep txn n lock) = n == number
is_dead number other = false

abbrev pub AreDead : ℕ → List Record → Type 0
AreDead number records = (written : Record) → Has records written → is_dead number written ≡ true

-- the first records of a vote that was not given to its end: its number is above all in the list, and its `Prepared` is missing
pub record IsUnfinished (list records : List Record) : Type 0 where
  pub number : ℕ
  pub newest : IsAbove number list
  pub dead : AreDead number records

-- before the later ones comes a copy of a version above 0 and no less than theirs: the first of the greatest version counts
abbrev pub with_copy : Write → Files → Files
with_copy write later =
    if nat_lt 0 write.version && nat_le (copy_of later write.file).version write.version
    then fin.insert later write.file (record { version = write.version; content = write.content })
    else later

-- the copy of a file is the first of its `Copy` records with the greatest version above 0
abbrev pub kept_copies : List Record → Files
kept_copies [] = fin.empty
kept_copies (Copy write ∷ later) = with_copy write (kept_copies later)
kept_copies (other ∷ later) = kept_copies later

-- what a `Copy` record of the file writes
abbrev pub copy_to : List ℕ → Record → Option Write
copy_to file (Copy write) = if same_name file write.file then Some write else None
copy_to file other = None

-- the greatest version of the writes, 0 where there is none
abbrev pub greatest_version : List Write → ℕ
greatest_version [] = 0
greatest_version (write ∷ writes) = max write.version (greatest_version writes)

-- the first of the writes that has their greatest version, where that is above 0
abbrev pub newest : List Write → Option Write
newest writes = find (λ write. nat_lt 0 write.version && write.version == greatest_version writes) writes

-- each file's copy is the first of its `Copy` records with the greatest version above 0; version 0 and no content where there is none
abbrev pub KeepsNewest : List Record → Type 0
KeepsNewest list = (file : List ℕ) → copy_of (kept_copies list) file ≡ copy_at (option_map copy_in (newest (filter_map (copy_to file) list)))

-- a lock of a vote, as the table has it
abbrev pub as_lock : KeptLock → Lock
as_lock lock = record { mode = lock.mode; since = lock.since; version = lock.version; stable = true }

-- the same under its file and its transaction
abbrev pub stable_lock : ℕ → KeptLock → LockKey × Lock
stable_lock txn lock = ((lock.file, txn), as_lock lock)

-- the lock of a file in a vote
abbrev pub lock_in : List ℕ → OpenVote → Option Lock
lock_in file vote = option_map as_lock (find (λ lock. same_name file lock.file) vote.locks)

-- the lock of a file in the open vote of a transaction
abbrev pub lock_of_votes : Votes → List ℕ → ℕ → Option Lock
lock_of_votes votes file txn = option_and_then (lock_in file) (fin.get votes txn)

-- the locks of the open votes
abbrev pub kept_locks : List Record → Locks
kept_locks list = fin.from_entries (flat_map (λ vote. map (stable_lock vote.0) vote.1.locks) (open_votes list))

-- the lock kept at a file and a transaction is that of the file in the transaction's open vote
abbrev pub HoldsVotesLocks : List Record → Type 0
HoldsVotesLocks list = (file : List ℕ) (txn : ℕ) → fin.get (kept_locks list) (file, txn) ≡ lock_of_votes (kept_votes list) file txn

-- the copies after one more record: a `Copy` record's copy is installed
abbrev pub with_record : Files → Record → Files
with_record files (Copy write) = copies_after_install files write.file (copy_in write)
with_record files other = files

-- those of the first writes, so many, that are above the copies
abbrev pub newer_first : ℕ → Files → List Write → List Write
newer_first count files writes = filter (is_newer files) (take count writes)

-- ---- index

-- what the entries have of each transaction is its open vote
abbrev pub HasEachVote : List Record → List (ℕ × OpenVote) → Type 0
HasEachVote records entries = (txn : ℕ) → lookup (is_at (nat_cmp txn)) entries ≡ fin.get (kept_votes records) txn

-- the votes of an index: the one that is alone, or else those of the map
abbrev pub votes_in : Option (ℕ × OpenVote) → List (ℕ × OpenVote) → List (ℕ × OpenVote)
votes_in (Some vote) others = vote ∷ []
votes_in None others = others

-- the vote that these have of a transaction
abbrev pub vote_in : List (ℕ × OpenVote) → ℕ → Option OpenVote
vote_in votes txn = lookup (is_at (nat_cmp txn)) votes

-- they ascend by transaction
abbrev pub AreInOrder : List (ℕ × OpenVote) → Type 0
AreInOrder votes = IsStrictlySortedBy nat_cmp (keys_of votes)

-- the entries are the open votes, one for a transaction
pub record IsIndex (records : List Record) (entries : List (ℕ × OpenVote)) : Type 0 where
  pub one_each : HasOneVoteEach records
  pub each : HasEachVote records entries

-- the records, and how many more fit with no memory asked for
pub record LogView : Type 0 where
  pub records : List Record
  pub room : ℕ

abbrev pub log_code : Coded Record → Coded LogView
log_code record_code = code_by (List Record × ℕ) (coded× (coded_list record_code) coded_ℕ) (λ v. (v.records, v.room)) (λ p. record { records = p.0; room = p.1 }) (λ _. refl)

-- ---- changes

-- the copies that the records keep are those from before with this write installed
abbrev pub KeepsCopy : LogView → LogView → Write → Type 0
KeepsCopy old new write = kept_copies new.records ≡ copies_after_install (kept_copies old.records) write.file (copy_in write)

-- the copies that the records keep are those from before with these writes installed
abbrev pub KeepsCopies : LogView → LogView → List Write → Type 0
KeepsCopies old new writes = kept_copies new.records ≡ installed_all (kept_copies old.records) writes

-- the records of a vote stand behind those from before
abbrev pub WritesVote : LogView → LogView → ℕ → ℕ → List Write → List KeptLock → Type 0
WritesVote old new txn number writes locks = new.records ≡ old.records ++ vote_records txn number writes locks

-- the votes that the records keep open are those from before and this one
abbrev pub OpensVote : LogView → LogView → ℕ → ℕ → List Write → List KeptLock → Type 0
OpensVote old new txn number writes locks =
    kept_votes new.records ≡ fin.insert (kept_votes old.records) txn (record { number = number; writes = writes; locks = locks })

-- the records with the end of the open vote of a transaction behind them
abbrev pub with_end : List Record → ℕ → List Record
with_end list txn = list ++ Gone txn (vote_at (kept_votes list) txn).number ∷ []

-- the records of a vote stand behind those from before, in the log's list
abbrev pub AddsVote : Vec Record → Vec Record → ℕ → ℕ → List Write → List KeptLock → Type 0
AddsVote old new txn number writes locks = new.items ≡ old.items ++ vote_records txn number writes locks

-- the same of an open vote
abbrev pub AddsOpenVote : Vec Record → Vec Record → ℕ → OpenVote → Type 0
AddsOpenVote old new txn vote = AddsVote old new txn vote.number vote.writes vote.locks

-- the index has this vote of the transaction, and of others what it had
abbrev pub Indexes : List (ℕ × OpenVote) → List (ℕ × OpenVote) → ℕ → OpenVote → Type 0
Indexes old new txn vote = (other : ℕ) → lookup (is_at (nat_cmp other)) new ≡ (if is_at (nat_cmp txn) other then Some vote else lookup (is_at (nat_cmp other)) old)

-- the index has no vote of the transaction, and of others what it had
abbrev pub IsWithout : List (ℕ × OpenVote) → List (ℕ × OpenVote) → ℕ → Type 0
IsWithout old new txn = (other : ℕ) → vote_in new other ≡ (if is_at (nat_cmp txn) other then None else vote_in old other)
