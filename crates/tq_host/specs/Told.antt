-- Lines that a host answered, and what each was told. A part with the text that did not go out yet, and what happens
-- where it goes out.
use Rattle.std.specs.Prelude.{◌≡◌, ◌<◌, ◌≤◌, ⊤, ℕ, List, [], ◌∷◌, ◌++◌, Option, Some, None, length, codes, ◌⊎◌}
use Rattle.std.specs.Io.KnownBytes.{Appends}
use Rattle.tq_shape.specs.{declared.part.Entry.Entry, Agrees.{Standing, next_number, state_after_entry}}
use Rattle.tq_host.specs.Lines.{IsLine}
use Rattle.tq_devices.specs.Devices.{AppendsFront}

-- an entry was made, or none: the line is no ask, the journal is full, or memory was refused
pub data Told (A R : Type 0) : Type 0 where
  entered : Entry A R → Told A R
  bad : Told A R
  full : Told A R
  memory : Told A R

-- a line, and what it was told
pub record Exchange (A R : Type 0) : Type 0 where
  pub line : List ℕ
  pub told : Told A R

-- the lines one behind another, the newest first in the list
abbrev pub asked_text : {A R : Type 0} → List (Exchange A R) → List ℕ
asked_text [] = []
asked_text (x ∷ earlier) = asked_text earlier ++ x.line

abbrev pub bad_text : List ℕ
bad_text = codes "{\"bad\":\"ask\"}" ++ 10 ∷ []

abbrev pub full_text : List ℕ
full_text = codes "{\"full\":true}" ++ 10 ∷ []

abbrev pub memory_text : List ℕ
memory_text = codes "{\"memory\":true}" ++ 10 ∷ []

-- the part behind an answer: with the entry where one was made
module _ {S A R : Type 0} (after : S → ℕ → A → S) where
  abbrev pub goes_on : Standing S A R → Told A R → Standing S A R
  goes_on before (entered e) = state_after_entry after before (next_number before) e.ask e.reply
  goes_on before bad = before
  goes_on before full = before
  goes_on before memory = before

  -- the part behind all of them
  abbrev pub standing_after : Standing S A R → List (Exchange A R) → Standing S A R
  standing_after start [] = start
  standing_after start (x ∷ earlier) = goes_on (standing_after start earlier) x.told

-- the line of the entry, where one was made, and of all of them
module _ {A R : Type 0} (entry_line : A → R → List ℕ) where
  abbrev pub log_line : Told A R → List ℕ
  log_line (entered e) = entry_line e.ask e.reply
  log_line bad = []
  log_line full = []
  log_line memory = []

  abbrev pub logged_text : List (Exchange A R) → List ℕ
  logged_text [] = []
  logged_text (x ∷ earlier) = logged_text earlier ++ log_line x.told

-- the line of the answer, and of all of them
module _ {S A R : Type 0} (after : S → ℕ → A → S) (told_line : ℕ → R → List ℕ) where
  abbrev pub answer_line : Standing S A R → Told A R → List ℕ
  answer_line before (entered e) = told_line (next_number before) e.reply
  answer_line before bad = bad_text
  answer_line before full = full_text
  answer_line before memory = memory_text

  abbrev pub answered_text : Standing S A R → List (Exchange A R) → List ℕ
  answered_text start [] = []
  answered_text start (x ∷ earlier) = answered_text start earlier ++ answer_line (standing_after after start earlier) x.told

-- the entry's line is a line, and is read as it
abbrev pub IsKept : {S A R : Type 0} → (S → List ℕ → Option (Entry A R) → Type 0) → (A → R → List ℕ) → Standing S A R → Entry A R → Type 0
IsKept reads entry_line before e = IsLine (entry_line e.ask e.reply) × reads before.part (entry_line e.ask e.reply) (Some e)

module _ {S A R : Type 0} (reply : S → ℕ → A → R) (after : S → ℕ → A → S) (reads_ask : List ℕ → Option A → Type 0) (reads : S → List ℕ → Option (Entry A R) → Type 0) (entry_line : A → R → List ℕ) where
  -- an entry is the ask that the line is with the reply of the part, and its line in the log is read as it
  pub record IsEntered (before : Standing S A R) (line : List ℕ) (e : Entry A R) : Type 0 where
    pub asked : reads_ask line (Some e.ask)
    pub room : length before.journal < before.limit
    pub legal : e.reply ≡ reply before.part (next_number before) e.ask
    pub kept : IsKept reads entry_line before e

  abbrev pub IsTold : Standing S A R → List ℕ → Told A R → Type 0
  IsTold before line (entered e) = IsEntered before line e
  IsTold before line bad = reads_ask line None
  IsTold before line full = before.limit ≤ length before.journal
  IsTold before line memory = ⊤

  -- each was told what the part says there
  abbrev pub AreTold : Standing S A R → List (Exchange A R) → Type 0
  AreTold start [] = ⊤
  AreTold start (x ∷ earlier) = AreTold start earlier × IsLine x.line × IsTold (standing_after after start earlier) x.line x.told

-- ---- kept

-- a part, the entries that the log does not have yet, and the answers that are not written yet
pub record Batched (S A R : Type 0) : Type 0 where
  pub standing : Standing S A R
  pub entries : List ℕ
  pub answers : List ℕ

-- one that answered all
abbrev pub nothing_left : {S A R : Type 0} → Standing S A R → Batched S A R
nothing_left standing = record { standing = standing; entries = []; answers = [] }

module _ {S A R : Type 0} (after : S → ℕ → A → S) (entry_line : A → R → List ℕ) (told_line : ℕ → R → List ℕ) where
  -- the same behind an answer
  abbrev pub with_told : Batched S A R → Told A R → Batched S A R
  with_told old told = record {
    standing = goes_on after old.standing told;
    entries = old.entries ++ log_line entry_line told;
    answers = old.answers ++ answer_line after told_line old.standing told;
  }

-- the log keeps a front of the entries, and no more is synced; or it has all and they are synced, and a front of the answers
-- is written
abbrev pub IsHalfOut : List ℕ → List ℕ → Option (List ℕ) → Option (List ℕ) → Option (List ℕ) → Option (List ℕ) → Option (List ℕ) → Option (List ℕ) → Type 0
IsHalfOut entries answers kept kept_now synced synced_now taken taken_now =
    ((count : ℕ) × AppendsFront kept kept_now entries count × (synced_now ≡ synced) × (taken_now ≡ taken))
    ⊎ (Appends kept kept_now entries × (synced_now ≡ kept_now) × ((count : ℕ) × AppendsFront taken taken_now answers count))

-- a log in memory: what it keeps and what is synced, its calls so far, and the call that fails
pub record KnownLog : Type 0 where
  pub kept : List ℕ
  pub synced : List ℕ
  pub calls : ℕ
  pub fails_at : Option ℕ
  pub failed : ℕ

-- one that keeps nothing yet
abbrev pub new_log : Option ℕ → KnownLog
new_log fails_at = record { kept = []; synced = []; calls = 0; fails_at = fails_at; failed = 0 }
