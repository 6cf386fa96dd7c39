-- What is known of devices. What is known where a call over devices ends by a fault.
use Rattle.std.specs.Prelude.{◌≡◌, ℕ, ◌+◌, Bool, false, List, [], ◌++◌, Option, Result, Ok, Err, take}
use Rattle.std.specs.Io.KnownBytes.{Appends, Consumes}
use Rattle.tq_devices.specs.declared.fault.{RunFault.RunFault, RunFault.TheVariants.{Memory, Read, Write, TooLong}}

-- a call that failed raises the count by one, and no other changes it
abbrev pub Counts : {T E : Type 0} → Result T E → ℕ → ℕ → Type 0
Counts (Ok x) old new = new ≡ old
Counts (Err e) old new = new ≡ old + 1

-- so many of the bytes came behind those that are known
abbrev pub AppendsFront : Option (List ℕ) → Option (List ℕ) → List ℕ → ℕ → Type 0
AppendsFront old new bytes count = Appends old new (take count bytes)

-- so many of the bytes were taken off the front of those that are known
abbrev pub ConsumesFront : Option (List ℕ) → Option (List ℕ) → List ℕ → ℕ → Type 0
ConsumesFront old new bytes count = Consumes old new (take count bytes)

-- a source of known bytes: those that it has given and those that are left, its calls so far, and the call that fails
pub record KnownSource : Type 0 where
  pub given : List ℕ
  pub left : List ℕ
  pub is_ended : Bool
  pub calls : ℕ
  pub fails_at : Option ℕ
  pub failed : ℕ

-- one that has given nothing yet
abbrev pub new_source : List ℕ → Option ℕ → KnownSource
new_source bytes fails_at =
    record { given = []; left = bytes; is_ended = false; calls = 0; fails_at = fails_at; failed = 0 }

-- it gave so many of the bytes
abbrev pub GivesFront : KnownSource → KnownSource → List ℕ → ℕ → Type 0
GivesFront old new bytes count = new.given ≡ old.given ++ take count bytes

-- so many of the bytes were the first that it had left
abbrev pub LeavesRest : KnownSource → KnownSource → List ℕ → ℕ → Type 0
LeavesRest old new bytes count = old.left ≡ take count bytes ++ new.left

-- a sink that keeps its bytes: those that it has taken, its calls so far, and the call that fails
pub record KnownSink : Type 0 where
  pub taken : List ℕ
  pub calls : ℕ
  pub fails_at : Option ℕ
  pub failed : ℕ

-- one that has taken nothing yet
abbrev pub new_sink : Option ℕ → KnownSink
new_sink fails_at = record { taken = []; calls = 0; fails_at = fails_at; failed = 0 }

-- it took so many of the bytes
abbrev pub TakesFront : KnownSink → KnownSink → List ℕ → ℕ → Type 0
TakesFront old new bytes count = new.taken ≡ old.taken ++ take count bytes

-- a source over a reader: the bytes that the reader has left, where they are known
pub record OuterSource : Type 0 where
  pub left : Option (List ℕ)
  pub is_ended : Bool
  pub failed : ℕ

-- a sink over a writer: the bytes that the writer holds, where they are known
pub record OuterSink : Type 0 where
  pub taken : Option (List ℕ)
  pub failed : ℕ

-- ---- faults

-- failures of the source before and after, and of the sink
abbrev pub IsRunCount : {T : Type 0} → Result T RunFault → ℕ → ℕ → ℕ → ℕ → Type 0
IsRunCount (Ok done) reads reads_after writes writes_after = (reads_after ≡ reads) × (writes_after ≡ writes)
IsRunCount (Err Memory) reads reads_after writes writes_after = (reads_after ≡ reads) × (writes_after ≡ writes)
IsRunCount (Err Read) reads reads_after writes writes_after = (reads_after ≡ reads + 1) × (writes_after ≡ writes)
IsRunCount (Err Write) reads reads_after writes writes_after = (reads_after ≡ reads) × (writes_after ≡ writes + 1)
IsRunCount (Err TooLong) reads reads_after writes writes_after = (reads_after ≡ reads) × (writes_after ≡ writes)

-- all the bytes are written, or a front of them and the sink failed
abbrev pub IsWritten : {T : Type 0} → Result T RunFault → List ℕ → Option (List ℕ) → Option (List ℕ) → ℕ → ℕ → Type 0
IsWritten (Ok done) bytes taken taken_after failed failed_after = Appends taken taken_after bytes × (failed_after ≡ failed)
IsWritten (Err Write) bytes taken taken_after failed failed_after =
    (count : ℕ) × Appends taken taken_after (take count bytes) × (failed_after ≡ failed + 1)
IsWritten (Err Memory) bytes taken taken_after failed failed_after = ⊥
IsWritten (Err Read) bytes taken taken_after failed failed_after = ⊥
IsWritten (Err TooLong) bytes taken taken_after failed failed_after = ⊥
