-- A part beside its journal.
use Rattle.std.specs.Prelude.{◌≡◌, ◌≤◌, ℕ, ◌+◌, List, [], ◌∷◌, ◌++◌, length}
use Rattle.tq_shape.specs.{declared.part.Entry.Entry, Journal.{entry, state_from, IsLegalFrom}}
use Rattle.tq_shape.specs.declared.journaled.Answered.{Answered}

-- a part, its journal, the oldest entry first, and how many entries the journal may have
pub record Standing (S A R : Type 0) : Type 0 where
  pub part : S
  pub journal : List (Entry A R)
  pub limit : ℕ

-- a part with its journal and the journal's limit
abbrev pub standing_part : {S A R : Type 0} → S → List (Entry A R) → ℕ → Standing S A R
standing_part part journal limit = record { part = part; journal = journal; limit = limit }

-- the number of the next ask
abbrev pub next_number : {S A R : Type 0} → Standing S A R → ℕ
next_number old = length old.journal + 1

-- the journal has as many entries as it may have
abbrev pub IsFull : {S A R : Type 0} → Standing S A R → Type 0
IsFull old = length old.journal ≡ old.limit

-- what the asker of the next ask is told: its number, and the part's reply to it
abbrev pub answer_to : {S A R : Type 0} → (S → ℕ → A → R) → Standing S A R → A → Answered R
answer_to reply old ask = record { number = next_number old; reply = reply old.part (next_number old) ask }

-- after an ask under that number: the part is what the ask makes of it, and the ask is entered last, with its reply
abbrev pub state_after_entry : {S A R : Type 0} → (S → ℕ → A → S) → Standing S A R → ℕ → A → R → Standing S A R
state_after_entry after old number ask reply =
    standing_part (after old.part number ask) (old.journal ++ entry ask reply ∷ []) old.limit

-- the journal is legal, the part is its replay, it may be asked the next number, and the journal fits its limit
pub record Agrees {S A R : Type 0} (opening : S → S) (is_ready : S → ℕ → Type 0) (reply : S → ℕ → A → R) (after : S → ℕ → A → S) (part : S) (journal : List (Entry A R)) (limit : ℕ) : Type 0 where
  pub legal : IsLegalFrom reply after (opening part) 1 journal
  pub replays : part ≡ state_from after (opening part) 1 journal
  pub ready : is_ready part (length journal + 1)
  pub room : length journal ≤ limit
