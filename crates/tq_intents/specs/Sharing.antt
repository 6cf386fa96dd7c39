-- What contracts see of writes and of locks that others share.
use Rattle.std.specs.Prelude.{◌<◌, ℕ, List, [], ◌∷◌, length, get_or}
use Rattle.tq_asks.specs.declared.ask.{HeldLock.HeldLock, WorkAsk.WorkAsk, WorkAsk.TheVariants.Refresh}
use Rattle.tq_locks.specs.declared.mode.Mode.TheVariants.{Shared}
use Rattle.tq_store.specs.declared.write.Write.{Write}
use Rattle.tq_intents.specs.declared.{record.KeptLock.KeptLock, shared_write.Source.Source}
use Rattle.tq_intents.specs.declared.shared_write.Source.TheVariants.{Listed, Told, Alone}

-- the write of no file
abbrev pub no_write : Write
no_write = record { file = []; version = 0; content = [] }

-- the write at a place of a list
abbrev pub write_at : List Write → ℕ → Write
write_at writes place = get_or writes place no_write

-- the write that an ask to refresh tells
abbrev pub told_write : WorkAsk → Write
told_write (Refresh file version content from) = record { file = file; version = version; content = content }
told_write other = no_write

-- the ask is one to refresh
abbrev pub IsRefresh : WorkAsk → Type 0
IsRefresh (Refresh file version content from) = Unit {0}
IsRefresh other = ⊥

abbrev pub write_of_source : Source → Write
write_of_source (Listed writes place) = write_at writes place
write_of_source (Told ask) = told_write ask
write_of_source (Alone write) = write

-- a place is one of the list
abbrev pub IsSource : Source → Type 0
IsSource (Listed writes place) = place < length writes
IsSource (Told ask) = IsRefresh ask
IsSource (Alone write) = Unit {0}

-- the lock of no file
abbrev pub no_lock : HeldLock
no_lock = record { file = []; mode = Shared; since = 0 }

-- a lock as a vote keeps it: with the version of its file's copy
abbrev pub lock_of_vote : HeldLock → ℕ → KeptLock
lock_of_vote held version = record { file = held.file; mode = held.mode; since = held.since; version = version }

-- the lock at a place of a list, with its version
abbrev pub lock_at : List HeldLock → ℕ → ℕ → KeptLock
lock_at held place version = lock_of_vote (get_or held place no_lock) version

-- locks, each with its version
abbrev pub kept_each : List HeldLock → List ℕ → List KeptLock
kept_each [] versions = []
kept_each (lock ∷ held) [] = []
kept_each (lock ∷ held) (version ∷ versions) = lock_of_vote lock version ∷ kept_each held versions
