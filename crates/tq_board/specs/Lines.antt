-- What is put behind a text. Texts that are read as journals. Values as lines of bytes: an entry, and the answer to an
-- ask. Text that goes to a sink as it comes.
use Rattle.std.specs.Prelude.{ℕ, List, ◌++◌, Result, OnOk, ◌≡◌, [], ◌∷◌, ⊤, codes, ◌+◌, ◌-◌, ◌^◌, ◌<◌, Bool, false, cond, Option, Ok, Err}
use Rattle.std.specs.Io.KnownBytes.{Appends}
use Rattle.serde_json.specs.{Data.{Data, object, member, no_members}, Written.compact_text}
use Rattle.tq_json.specs.declared.format.Format.TheVariants.{Two}
use Rattle.tq_json_read.specs.Frame.{IsJson, IsInFormat}
use Rattle.tq_tables.specs.Journals.{JournalsView}
use Rattle.tq_shape.specs.Journal.{entry}
use Rattle.tq_board.specs.Values.{whole, entry_value}
use Rattle.tq_devices.specs.declared.fault.{RunFault.RunFault, RunFault.TheVariants.{Memory, Read, Write, TooLong}}
use Rattle.tq_devices.specs.Devices.{IsWritten}

-- these bytes were put between two states of an output, whatever was put before: `Puts` says what was put from a first state to a later one
pub record Added {O : Type 0} (Puts : O → O → List ℕ → Type 0) (old new : O) (bytes : List ℕ) : Type 0 where
  pub after : (start : O) (before : List ℕ) → Puts start old before → Puts start new (before ++ bytes)

abbrev pub Adds : {O E : Type 0} → (O → O → List ℕ → Type 0) → Result (Unit {0}) E → O → O → List ℕ → Type 0
Adds Puts result old new bytes = OnOk result (Added Puts old new bytes)

-- a quote, the bytes as they are, and a quote
abbrev pub in_quotes : List ℕ → List ℕ
in_quotes bytes = 34 ∷ bytes ++ 34 ∷ []

-- ---- text

-- the bytes are a text of JSON, and the journals are those that its value is in format 2
abbrev pub IsTextOf : List ℕ → JournalsView → Type 0
IsTextOf text journals = (value : Data) × IsJson text value × IsInFormat Two value journals

-- ---- lines

-- no byte is a line feed
abbrev pub HasNoFeed : List ℕ → Type 0
HasNoFeed [] = ⊤
HasNoFeed (byte ∷ bytes) = (byte ≡ 10 → ⊥) × HasNoFeed bytes

-- bytes without a line feed, and a line feed
pub record IsLine (text : List ℕ) : Type 0 where
  pub bytes : List ℕ
  pub unbroken : HasNoFeed bytes
  pub ended : text ≡ bytes ++ 10 ∷ []

-- the text of a value, and a line feed
abbrev pub line_of : Data → List ℕ
line_of value = compact_text value ++ 10 ∷ []

-- an ask with its reply
abbrev pub entry_line : {A R : Type 0} → (A → Data) → (R → Data) → A → R → List ℕ
entry_line ask_value reply_value ask reply = line_of (entry_value ask_value reply_value (entry ask reply))

-- the number of an entry with its reply
abbrev pub answer_value : {R : Type 0} → (R → Data) → ℕ → R → Data
answer_value reply_value number reply =
    object (member (codes "number") (whole number)
    (member (codes "reply") (reply_value reply) no_members))

abbrev pub answer_line : {R : Type 0} → (R → Data) → ℕ → R → List ℕ
answer_line reply_value number reply = line_of (answer_value reply_value number reply)

-- ---- spilled

-- the bytes that the sink has taken and its failures so far, whether one of them was in writing the text, and what the room keeps
pub record Spill : Type 0 where
  pub taken : Option (List ℕ)
  pub failures : ℕ
  pub has_failed : Bool
  pub room : List ℕ

-- the same of a sink, by what it has taken and its failures
abbrev pub spill : {W : Type 0} → (W → Option (List ℕ)) → (W → ℕ) → W → Bool → List ℕ → Spill
spill Taken Failed sink has_failed room =
    record { taken = Taken sink; failures = Failed sink; has_failed = has_failed; room = room }

-- of the text a front is written since the sink had taken and failed so much, and the room keeps the rest, unless the sink failed
pub record IsSpilled (taken : Option (List ℕ)) (failures : ℕ) (now : Spill) (text : List ℕ) : Type 0 where
  pub front : List ℕ
  pub rest : List ℕ
  pub whole : front ++ rest ≡ text
  pub written : Appends taken now.taken front
  pub kept : now.has_failed ≡ false → rest ≡ now.room
  pub few : failures < 2 ^ 64 - 1
  pub counted : now.failures ≡ failures + cond now.has_failed 1 0

-- whatever the text was, it goes on with these bytes
pub record Spills (old new : Spill) (bytes : List ℕ) : Type 0 where
  pub after : (taken : Option (List ℕ)) (failures : ℕ) (text : List ℕ) → IsSpilled taken failures old text → IsSpilled taken failures new (text ++ bytes)

-- whatever the text was, it stays
pub record Settles (old new : Spill) : Type 0 where
  pub after : (taken : Option (List ℕ)) (failures : ℕ) (text : List ℕ) → IsSpilled taken failures old text → IsSpilled taken failures new text

-- whatever the text was, it is written at the end, or a front of it and the sink failed
pub record Ends (result : Result (Unit {0}) RunFault) (old : Spill) (taken_now : Option (List ℕ)) (failures_now : ℕ) : Type 0 where
  pub written : (taken : Option (List ℕ)) (failures : ℕ) (text : List ℕ) → IsSpilled taken failures old text → IsWritten result text taken taken_now failures failures_now

-- the text is written, or a front of it and the sink failed; or memory was refused and nothing is written
abbrev pub IsWrittenOut : Result (Unit {0}) RunFault → List ℕ → Option (List ℕ) → Option (List ℕ) → ℕ → ℕ → Type 0
IsWrittenOut (Ok done) text taken taken_now failures failures_now = IsWritten {T = Unit {0}} (Ok done) text taken taken_now failures failures_now
IsWrittenOut (Err Memory) text taken taken_now failures failures_now = Appends taken taken_now [] × (failures_now ≡ failures)
IsWrittenOut (Err Read) text taken taken_now failures failures_now = ⊥
IsWrittenOut (Err Write) text taken taken_now failures failures_now = IsWritten {T = Unit {0}} (Err Write) text taken taken_now failures failures_now
IsWrittenOut (Err TooLong) text taken taken_now failures failures_now = ⊥
