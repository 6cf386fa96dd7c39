-- What a host did that starts from the lines of a log.
use Rattle.std.specs.Prelude.{◌≡◌, ◌⊎◌, ℕ, List, [], ◌∷◌, ◌++◌, Option, Result, Ok, Err, codes, decimal}
use Rattle.std.specs.Io.KnownBytes.{Appends}
use Rattle.tq_shape.specs.{declared.part.Entry.Entry, Agrees.Standing}
use Rattle.tq_host.specs.{Lines.{BeginsWith, IsLogOf, IsReplayFault}, Served.IsServed}
use Rattle.tq_host.specs.declared.fault.{HostFault.HostFault, ReplayFault.ReplayFault}
use Rattle.tq_host.specs.declared.fault.ReplayFault.TheVariants.{Memory, Wrong, Unreadable}

-- the line that tells why the lines of a log lead to no part; where memory was refused, none
abbrev pub fault_line : ReplayFault → List ℕ
fault_line Memory = []
fault_line (Wrong number) = codes "wrong entry " ++ decimal number ++ 10 ∷ []
fault_line (Unreadable number) = codes "unreadable entry " ++ decimal number ++ 10 ∷ []

abbrev pub fault_status : ReplayFault → ℕ
fault_status Memory = 1
fault_status (Wrong number) = 3
fault_status (Unreadable number) = 4

-- the line is written, or a front of it
pub record IsFront (text : List ℕ) (taken taken_now : Option (List ℕ)) : Type 0 where
  pub front : List ℕ
  pub rest : List ℕ
  pub whole : front ++ rest ≡ text
  pub written : Appends taken taken_now front

abbrev pub IsFaultTold : Result ℕ HostFault → ReplayFault → Option (List ℕ) → Option (List ℕ) → Type 0
IsFaultTold (Ok status) fault taken taken_now = (status ≡ fault_status fault) × Appends taken taken_now (fault_line fault)
IsFaultTold (Err cause) fault taken taken_now = IsFront (fault_line fault) taken taken_now

-- at the end of the source
abbrev pub IsDoneAt : Result ℕ HostFault → Result (Unit {0}) HostFault → Type 0
IsDoneAt (Ok status) (Ok done) = status ≡ 0
IsDoneAt (Err cause) (Err fault) = cause ≡ fault
IsDoneAt (Ok status) (Err fault) = ⊥
IsDoneAt (Err cause) (Ok done) = ⊥

module _ {S A R : Type 0} (reply : S → ℕ → A → R) (after : S → ℕ → A → S) (reads_ask : List ℕ → Option A → Type 0) (reads : S → List ℕ → Option (Entry A R) → Type 0) (entry_line : A → R → List ℕ) (told_line : ℕ → R → List ℕ) where
  -- the lines lead to a part, which served the asks that were read
  pub record HasServed (result : Result ℕ HostFault) (opening : Standing S A R) (text : List ℕ) (kept kept_now synced_now taken taken_now : Option (List ℕ)) (bytes : List ℕ) : Type 0 where
    pub start : Standing S A R
    pub lines : List ℕ
    pub begins : BeginsWith text lines
    pub leads : IsLogOf reply after reads opening lines start
    pub done : Result (Unit {0}) HostFault
    pub so : IsDoneAt result done
    pub served : IsServed reply after reads_ask reads entry_line told_line done start kept kept_now synced_now taken taken_now bytes

  -- the lines lead to none, and that is told: no ask is read, and the log is as it was
  pub record HasRefused (result : Result ℕ HostFault) (opening : Standing S A R) (text : List ℕ) (kept kept_now synced_now taken taken_now : Option (List ℕ)) (bytes : List ℕ) : Type 0 where
    pub fault : ReplayFault
    pub fails : IsReplayFault reply after reads opening text fault
    pub unread : bytes ≡ []
    pub same : (kept_now ≡ kept) × (synced_now ≡ kept)
    pub told : IsFaultTold result fault taken taken_now

  abbrev pub IsHosted : Result ℕ HostFault → Standing S A R → List ℕ → Option (List ℕ) → Option (List ℕ) → Option (List ℕ) → Option (List ℕ) → Option (List ℕ) → List ℕ → Type 0
  IsHosted result opening text kept kept_now synced_now taken taken_now bytes =
      HasServed result opening text kept kept_now synced_now taken taken_now bytes
      ⊎ HasRefused result opening text kept kept_now synced_now taken taken_now bytes
