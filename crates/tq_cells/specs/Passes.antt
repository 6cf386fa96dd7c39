-- What a caller of a cell was told.
use Rattle.std.specs.Prelude.{◌≡◌, ◌≤◌, ◌⊎◌, ◌-◌, ◌+◌, ℕ, zero, suc, List, [], ◌∷◌, ◌++◌, slice_get, Some}
use Rattle.tq_shape.specs.{declared.part.Entry.Entry, declared.part.Part.Part, Journal.{IsLegalFrom, entry}}
use Rattle.tq_cells.specs.declared.{cell.Untaken.Untaken, settings.Replies.Replies}
use Rattle.tq_cells.specs.declared.cell.Untaken.TheVariants as untaken

-- a receipt: the part that was asked, the number of the entry, the ask and the reply
pub record Told (A R : Type 0) : Type 0 where
  pub part : Part
  pub number : ℕ
  pub ask : A
  pub reply : R

abbrev pub told_reply : {A R : Type 0} → Part → ℕ → A → R → Told A R
told_reply part number ask reply = record { part = part; number = number; ask = ask; reply = reply }

-- one caller's receipts at one cell, in the order of its calls, and the greatest number that it was told
pub record Seen (A R : Type 0) : Type 0 where
  pub receipts : List (Told A R)
  pub seen : ℕ

abbrev pub seen_by : {A R : Type 0} → List (Told A R) → ℕ → Seen A R
seen_by receipts seen = record { receipts = receipts; seen = seen }

-- the number of the last of so many entries behind a number, 0 where there are none: with it the greatest number that one was
-- told rises to it, or stays
abbrev pub last_behind : ℕ → ℕ → ℕ
last_behind number zero = 0
last_behind number (suc more) = number + suc more

-- why the ask was not taken: memory was refused, or the journal is full, and this ask is given back
abbrev pub IsUntaken : {A : Type 0} → A → Untaken A → Type 0
IsUntaken ask fault = (fault ≡ untaken.Memory) ⊎ (fault ≡ untaken.JournalFull ask)

-- the reply is told three times
abbrev pub IsThrice : {R : Type 0} → R → Replies R → Type 0
IsThrice reply told = (told.entered ≡ reply) × (told.kept ≡ reply) × (told.told ≡ reply)

-- the receipts of the passes, pass by pass
abbrev pub receipts_of : {A R : Type 0} → List (Seen A R) → List (Told A R)
receipts_of [] = []
receipts_of (p ∷ ps) = p.receipts ++ receipts_of ps

-- a legal journal of some part of this kind has this entry at this number
abbrev pub IsToldBy : {S A R : Type 0} → (S → ℕ → A → R) → (S → ℕ → A → S) → (S → S) → ℕ → A → R → Type 0
IsToldBy {S} {A} {R} reply after opening number ask answer =
    (s : S) × (journal : List (Entry A R)) × IsLegalFrom reply after (opening s) 1 journal × (1 ≤ number) × (slice_get journal (number - 1) ≡ Some (entry ask answer))

-- it is a part of those settings
abbrev pub IsToldByOneOf : {S A R : Type 0} → (S → Type 0) → (S → ℕ → A → R) → (S → ℕ → A → S) → (S → S) → ℕ → A → R → Type 0
IsToldByOneOf {S} {A} {R} are_of reply after opening number ask answer =
    (s : S) × are_of s × (journal : List (Entry A R)) × IsLegalFrom reply after (opening s) 1 journal × (1 ≤ number) × (slice_get journal (number - 1) ≡ Some (entry ask answer))
