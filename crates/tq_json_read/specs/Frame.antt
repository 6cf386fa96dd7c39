-- What a reader answers to a text. A text that is one ask, one reply or one entry. Entries, and the journal of one
-- part. A file: its format, the levels of the tree, the limits, and the journals of all parts. What the entries of a
-- file are read by. The form of journal files is that of either format, and no value is of both.
use Rattle.std.specs.Prelude.{◌≡◌, ℕ, List, Option, Some, None, Result, Ok, Err, IsUtf8, ⊤, suc, nat_lt, cond, codes, ◌+◌, ◌^◌, ◌==◌, ◌&&◌, nat_le, ◌↔◌, ◌⊎◌}
use Rattle.serde_json.specs.{Data.{Data, Items, no_items, item}, Read.read, Find.{get, as_array}}
use Rattle.tq_json_read.specs.declared.fault.{ReadFault.ReadFault, ReadFault.TheVariants.{Memory, NotJson, NotJournals}}
use Rattle.tq_json_read.specs.{Nodes.{node_ask, node_reply}, Desks.{desk_ask, desk_reply}, Views.{view_ask, view_reply}}
use Rattle.tq_json_read.specs.declared.entry.Plan.{Plan}
use Rattle.tq_shape.specs.{declared.part.Entry.Entry, Limits.LimitsView}
use Rattle.tq_node.specs.NodeJournal.{NodeEntry}
use Rattle.tq_desk.specs.DeskJournal.{DeskEntry}
use Rattle.tq_tables.specs.Journals.{ViewEntry, JournalsView}
use Rattle.tq_json.specs.declared.format.{Format.Format, Format.TheVariants.{Two, One}}
use Rattle.tq_json.specs.Member.{◌>>=◌, each, number_at, items_at, format_of, format_number, most_levels}

-- the bytes are a text, and the value is what is read of it
abbrev pub IsJson : List ℕ → Data → Type 0
IsJson text value = IsUtf8 text × (read text ≡ Some value)

-- the value of the form exactly where there is one, and each fault exactly where it holds, want of memory aside
abbrev pub Answers : {X : Type 0} → Result X ReadFault → List ℕ → (Data → Option X) → Type 0
Answers (Ok x) text form = (value : Data) × IsJson text value × (form value ≡ Some x)
Answers (Err Memory) text form = ⊤
Answers (Err NotJson) text form = (value : Data) → (IsJson text value → ⊥)
Answers (Err NotJournals) text form = (value : Data) × IsJson text value × (form value ≡ None)

-- ---- alone

-- the text is JSON, and this is what its value is in a form; or none: the text is no JSON, or its value is not of the form
abbrev pub IsAlone : {X : Type 0} → (Data → Option X) → List ℕ → Option X → Type 0
IsAlone form text (Some x) = (value : Data) × IsJson text value × (form value ≡ Some x)
IsAlone form text None = (value : Data) → IsJson text value → form value ≡ None

-- ---- frame

abbrev pub entry_from : {A R : Type 0} → Option A → Option R → Option (Entry A R)
entry_from ask reply = do
  ask ← ask
  reply ← reply
  Some (record { ask = ask; reply = reply })

-- an ask of one form with a reply of another
abbrev pub entry : {A R : Type 0} → (Data → Option A) → (Data → Option R) → Data → Option (Entry A R)
entry ask_form reply_form value = entry_from (get (codes "ask") value >>= ask_form) (get (codes "reply") value >>= reply_form)

abbrev pub node_entry : Format → Data → Option NodeEntry
node_entry format = entry (node_ask format) (node_reply format)

abbrev pub desk_entry : Format → Data → Option DeskEntry
desk_entry format = entry (desk_ask format) desk_reply

-- in a tree of so many levels
abbrev pub view_entry : Format → ℕ → Data → Option ViewEntry
view_entry format levels = entry (view_ask format) (view_reply levels)

-- how many values there are
abbrev pub count : Items → ℕ
count no_items = 0
count (item value rest) = suc (count rest)

-- no more values than the limit
abbrev pub few : ℕ → Items → Option Items
few limit values = cond (nat_lt limit (count values)) None (Some values)

-- a list of no more values than the limit
abbrev pub within : ℕ → Data → Option Items
within limit value = do
  values ← as_array value
  few limit values

-- the entries, the oldest first, no more than the limit
abbrev pub journal : {A : Type 0} → (Data → Option A) → ℕ → Data → Option (List A)
journal form limit value = do
  values ← within limit value
  each form values

-- ---- frame

-- a number from 1 up to the most
abbrev pub up_to : ℕ → Option ℕ → Option ℕ
up_to most slot = do
  number ← slot
  cond (nat_le 1 number && nat_le number most) (Some number) None

abbrev pub levels_at : Format → Data → Option ℕ
levels_at format value = up_to (most_levels format) (number_at (codes "levels") value)

abbrev pub limits_from : Option ℕ → Option ℕ → Option ℕ → Option LimitsView
limits_from entries files ops = do
  entries ← up_to 1000000 entries
  files ← up_to 1000 files
  ops ← up_to 64 ops
  Some (record { files = files; ops = ops; entries = entries })

abbrev pub limits : Data → Option LimitsView
limits value = limits_from (number_at (codes "entries") value) (number_at (codes "files") value) (number_at (codes "ops") value)

abbrev pub limits_at : Data → Option LimitsView
limits_at value = do
  inner ← get (codes "limits") value
  limits inner

-- one list for each server of a tree of so many levels
abbrev pub one_each : ℕ → Items → Option Items
one_each levels values = cond (count values + 1 == 2 ^ levels) (Some values) None

abbrev pub server_lists_at : ℕ → Data → Option Items
server_lists_at levels value = do
  values ← items_at (codes "servers") value
  one_each levels values

-- the journals of the servers, upwards from server 1
abbrev pub servers_at : Format → ℕ → ℕ → Data → Option (List (List NodeEntry))
servers_at format levels limit value = do
  values ← server_lists_at levels value
  each (journal (node_entry format) limit) values

abbrev pub desk_at : Format → ℕ → Data → Option (List DeskEntry)
desk_at format limit value = do
  inner ← get (codes "desk") value
  journal (desk_entry format) limit inner

abbrev pub view_at : Format → ℕ → ℕ → Data → Option (List ViewEntry)
view_at format levels limit value = do
  inner ← get (codes "view") value
  journal (view_entry format levels) limit inner

-- the journals that a value is, in a format
abbrev pub journals_in : Format → Data → Option JournalsView
journals_in format value = do
  levels ← levels_at format value
  limits ← limits_at value
  servers ← servers_at format levels limits.entries value
  desk ← desk_at format limits.entries value
  view ← view_at format levels limits.entries value
  Some (record { levels = levels; limits = limits; servers = servers; desk = desk; view = view })

abbrev pub journals_by : ℕ → Data → Option JournalsView
journals_by number value = do
  format ← format_of number
  journals_in format value

-- the form of one format: a value of its number, and the journals that it is
abbrev pub IsInFormat : Format → Data → JournalsView → Type 0
IsInFormat format value journals = (number_at (codes "format") value ≡ Some (format_number format)) × (journals_in format value ≡ Some journals)

-- the journals that a value of the form is, of either format
abbrev pub journals_of : Data → Option JournalsView
journals_of value = do
  number ← number_at (codes "format") value
  journals_by number value

-- ---- plans

abbrev pub plan_from : Option ℕ → Option ℕ → Option LimitsView → Option Plan
plan_from format levels limits = do
  number ← format
  format ← format_of number
  levels ← up_to (most_levels format) levels
  limits ← limits
  Some (record { format = format; levels = levels; limit = limits.entries })

-- the plan that a file gives: its format, the levels of its tree and the most entries of a journal
abbrev pub plan_of : Data → Option Plan
plan_of value = plan_from (number_at (codes "format") value) (number_at (codes "levels") value) (limits_at value)

-- what an ask, a reply or an entry that stands alone is read by: format 2, in a tree of so many levels
abbrev pub plan_alone : ℕ → Plan
plan_alone levels = record { format = Two; levels = levels; limit = 1000000 }

-- ---- formats

-- a value of either form is read, as the journals of that form; it is of one form at most, and is one list of journals
pub record AreBothRead : Type 0 where
  pub read : (value : Data) (journals : JournalsView) → (journals_of value ≡ Some journals) ↔ (IsInFormat One value journals ⊎ IsInFormat Two value journals)
  pub once : (value : Data) (f g : Format) (j k : JournalsView) → IsInFormat f value j → IsInFormat g value k → (f ≡ g) × (j ≡ k)
