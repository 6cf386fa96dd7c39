-- What a host did up to its end.
use Rattle.std.specs.Prelude.{◌≡◌, ◌⊎◌, ◌<◌, ◌≤◌, ◌^◌, ⊤, ℕ, ◌+◌, List, ◌++◌, Option, Result, Ok, Err, length}
use Rattle.std.specs.Io.KnownBytes.{Appends}
use Rattle.tq_shape.specs.{declared.part.Entry.Entry, Agrees.Standing}
use Rattle.tq_host.specs.{Lines.{HasNoFeed, IsLogOf}, declared.fault.HostFault.HostFault}
use Rattle.tq_host.specs.Told.{Exchange, AreTold, asked_text, logged_text, answered_text, standing_after, Batched}
use Rattle.tq_host.specs.declared.fault.HostFault.TheVariants.{Memory, Read, Write, TooLong, Log}

-- failures of the source, the sink and the log, before and after
abbrev pub IsHostCount : {T : Type 0} → Result T HostFault → ℕ → ℕ → ℕ → ℕ → ℕ → ℕ → Type 0
IsHostCount (Ok done) reads reads_now writes writes_now logs logs_now = (reads_now ≡ reads) × (writes_now ≡ writes) × (logs_now ≡ logs)
IsHostCount (Err Memory) reads reads_now writes writes_now logs logs_now = (reads_now ≡ reads) × (writes_now ≡ writes) × (logs_now ≡ logs)
IsHostCount (Err Read) reads reads_now writes writes_now logs logs_now = (reads_now ≡ reads + 1) × (writes_now ≡ writes) × (logs_now ≡ logs)
IsHostCount (Err Write) reads reads_now writes writes_now logs logs_now = (reads_now ≡ reads) × (writes_now ≡ writes + 1) × (logs_now ≡ logs)
IsHostCount (Err TooLong) reads reads_now writes writes_now logs logs_now = (reads_now ≡ reads) × (writes_now ≡ writes) × (logs_now ≡ logs)
IsHostCount (Err Log) reads reads_now writes writes_now logs logs_now = (reads_now ≡ reads) × (writes_now ≡ writes) × (logs_now ≡ logs + 1)

module _ {S A R : Type 0} (reply : S → ℕ → A → R) (after : S → ℕ → A → S) (reads : S → List ℕ → Option (Entry A R) → Type 0) (entry_line : A → R → List ℕ) where
  -- a log that leads to the start leads, with the entries of these lines behind it, to the part behind them
  abbrev pub Restarts : Standing S A R → List (Exchange A R) → Type 0
  Restarts start all =
      (opening : Standing S A R) (text : List ℕ) → IsLogOf reply after reads opening text start
      → IsLogOf reply after reads opening (text ++ logged_text entry_line all) (standing_after after start all)

-- where a line is too long, more than 64 MiB of it came and no line feed; or 2^63 bytes came, and more than there are turns for
abbrev pub IsLong : HostFault → List ℕ → List ℕ → Type 0
IsLong TooLong bytes rest = (HasNoFeed rest × (67108864 < length rest)) ⊎ (2 ^ 63 ≤ length bytes)
IsLong fault bytes rest = ⊤

module _ {S A R : Type 0} (reply : S → ℕ → A → R) (after : S → ℕ → A → S) (reads_ask : List ℕ → Option A → Type 0) (reads : S → List ℕ → Option (Entry A R) → Type 0) (entry_line : A → R → List ℕ) (told_line : ℕ → R → List ℕ) where
  -- the lines of older are answered, their entries synced and their answers written; those of newer are answered, and no
  -- entry and no answer of theirs went out
  pub record IsServing (start : Standing S A R) (kept kept_now synced_now taken taken_now : Option (List ℕ)) (newer older : List (Exchange A R)) (batch : Batched S A R) : Type 0 where
    pub told : AreTold reply after reads_ask reads entry_line start (newer ++ older)
    pub standing : batch.standing ≡ standing_after after start (newer ++ older)
    pub entries : logged_text entry_line older ++ batch.entries ≡ logged_text entry_line (newer ++ older)
    pub answers : answered_text after told_line start older ++ batch.answers ≡ answered_text after told_line start (newer ++ older)
    pub logged : Appends kept kept_now (logged_text entry_line older)
    pub synced : synced_now ≡ kept_now
    pub written : Appends taken taken_now (answered_text after told_line start older)

  -- the end of the source came: each line of it is answered, the log has each entry, and all is synced and written
  pub record IsAllServed (start : Standing S A R) (kept kept_now synced_now taken taken_now : Option (List ℕ)) (bytes : List ℕ) : Type 0 where
    pub all : List (Exchange A R)
    pub told : AreTold reply after reads_ask reads entry_line start all
    pub rest : List ℕ
    pub read : bytes ≡ asked_text all ++ rest
    pub torn : HasNoFeed rest
    pub logged : Appends kept kept_now (logged_text entry_line all)
    pub synced : synced_now ≡ kept_now
    pub written : Appends taken taken_now (answered_text after told_line start all)
    pub restarts : Restarts reply after reads entry_line start all

  -- a fault came: what is written is a front of the answers to older lines, whose entries are synced, and the log keeps a front
  -- of the entries of all
  pub record IsCutOff (start : Standing S A R) (kept kept_now synced_now taken taken_now : Option (List ℕ)) (bytes : List ℕ) : Type 0 where
    pub newer : List (Exchange A R)
    pub older : List (Exchange A R)
    pub told : AreTold reply after reads_ask reads entry_line start (newer ++ older)
    pub rest : List ℕ
    pub read : bytes ≡ asked_text (newer ++ older) ++ rest
    pub entries : List ℕ
    pub entries_left : List ℕ
    pub logged : Appends kept kept_now entries
    pub of_all : entries ++ entries_left ≡ logged_text entry_line (newer ++ older)
    pub synced : Appends kept synced_now (logged_text entry_line older)
    pub text : List ℕ
    pub text_left : List ℕ
    pub written : Appends taken taken_now text
    pub of_older : text ++ text_left ≡ answered_text after told_line start older
    pub restarts : Restarts reply after reads entry_line start older

  abbrev pub IsServed : {T : Type 0} → Result T HostFault → Standing S A R → Option (List ℕ) → Option (List ℕ) → Option (List ℕ) → Option (List ℕ) → Option (List ℕ) → List ℕ → Type 0
  IsServed (Ok done) start kept kept_now synced_now taken taken_now bytes = IsAllServed start kept kept_now synced_now taken taken_now bytes
  IsServed (Err fault) start kept kept_now synced_now taken taken_now bytes =
      (cut : IsCutOff start kept kept_now synced_now taken taken_now bytes) × IsLong fault bytes cut.rest
