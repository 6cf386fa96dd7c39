-- Words of the reader's own: the members of an object by their names, and the slots that it keeps them in. Words of
-- the reader's own: what it makes of the values that it found at the names of an object.
-- Members that are taken in the order of their names, one slot for each of them.
use Rattle.std.specs.Prelude.{◌≡◌, ◌<◌, get_or, ℕ, zero, suc, Bool, true, false, not, ◌&&◌, ◌||◌, nat_le, cond, List, [], ◌∷◌, length, map, Option, Some, None, ◌≢◌, ⊤, Result, Ok, Err, ◌^◌, ◌==◌, codes, option_map, IsTrue}
use Rattle.std.specs.{Borrow.Bor, Option.option_and_then, Str.bytes_eq, List.list_all}
use Rattle.serde_json.specs.{Data.{Data, Members}, Find.{get, as_str, as_array, get_member}}
use Rattle.serde_json.specs.Read.{read}
use Rattle.tq_json.specs.{Member.{◌>>=◌, each, number_of}, declared.fault.NotRead.NotRead, Plain.is_plain_name}
use Rattle.tq_json.specs.Next.{members_behind}
use Rattle.tq_node.specs.NodeJournal.{NodeEntry}
use Rattle.tq_tables.specs.Journals.{JournalsView}
use Rattle.tq_json_read.specs.Frame.{journal, node_entry, desk_entry, view_entry, limits, one_each, journals_of, plan_of}
use Rattle.tq_json_read.specs.declared.{fault.ReadFault.ReadFault, read.Reading.Reading, entry.Plan.Plan}
use Rattle.tq_json_read.specs.declared.read.Reading.TheVariants.{Journals, NoJournals, OtherPlan}
use Rattle.tq_json_read.specs.declared.file.{FileFields.FileFields, ServerJournals.ServerJournals}
use Rattle.tq_json_read.specs.declared.view_reply.Servers.{Servers}
use Rattle.tq_json_read.specs.Views as views
use Rattle.json.specs.Token.{Token}

-- what an object has at each name
abbrev pub Names : Type 0
Names = List ℕ → Option Data

abbrev pub names_of : Data → Names
names_of value name = get name value

-- the same with one value more, which hides an earlier one of its name
abbrev pub with : List ℕ → Data → Names → Names
with key value names name = cond (bytes_eq key name) (Some value) (names name)

-- what stands in each slot of an object
abbrev pub Slots : Type 0
Slots = ℕ → Option Data

-- a slot for each of these names
abbrev pub slots_at : List (List ℕ) → Names → Slots
slots_at [] names i = None
slots_at (key ∷ keys) names zero = names key
slots_at (key ∷ keys) names (suc i) = slots_at keys names i

-- the same slots, with a value in one of them
abbrev pub with_slot : ℕ → Data → Slots → Slots
with_slot zero value slots zero = Some value
with_slot zero value slots (suc i) = slots (suc i)
with_slot (suc place) value slots zero = slots zero
with_slot (suc place) value slots (suc i) = with_slot place value (λ j. slots (suc j)) i

-- the texts that these are
abbrev pub texts : List (Bor (List ℕ)) → List (List ℕ)
texts names = map (λ name. name.now) names

-- a slot for each of these texts
abbrev pub slots_for : List (Bor (List ℕ)) → Names → Slots
slots_for names found = slots_at (texts names) found

-- the name at that place is this one
abbrev pub IsNameAt : List ℕ → List (List ℕ) → ℕ → Type 0
IsNameAt name keys place = (place < length keys) × (get_or keys place [] ≡ name)

-- whether the name is one of these
abbrev pub is_among : List ℕ → List (List ℕ) → Bool
is_among name [] = false
is_among name (key ∷ keys) = bytes_eq name key || is_among name keys

-- no name stands twice
abbrev pub are_distinct : List (List ℕ) → Bool
are_distinct [] = true
are_distinct (key ∷ keys) = not (is_among key keys) && are_distinct keys

-- what a form makes of what stands in a place
abbrev pub made_by : {A : Type 0} → (Data → Option A) → Option Data → Option A
made_by form place = place >>= form

-- what it makes of the text that stands there
abbrev pub in_text : {A : Type 0} → (List ℕ → Option A) → Option Data → Option A
in_text form place = option_and_then as_str place >>= form

-- what it makes of the values of the list that stands there
abbrev pub all_of : {A : Type 0} → (Data → Option A) → Option Data → Option (List A)
all_of form place = option_and_then as_array place >>= each form

-- no list of more values than that, where there is a limit
abbrev pub within_cap : {A : Type 0} → Option ℕ → Option (List A) → Option (List A)
within_cap most None = None
within_cap None (Some xs) = Some xs
within_cap (Some most) (Some xs) = cond (nat_le (length xs) most) (Some xs) None

-- the list that a value is, of values of one form
abbrev pub list_of : {A : Type 0} → (Data → Option A) → Option ℕ → Data → Option (List A)
list_of form most value = do
  values ← as_array value
  within_cap most (each form values)

-- ---- slots

-- ---- entries and files

-- a list of as many values
abbrev pub of_count : {A : Type 0} → ℕ → Option (List A) → Option (List A)
of_count n lists = do
  xs ← lists
  cond (length xs == n) (Some xs) None

-- the journals of the servers that stand in a place, one for each server of the tree
abbrev pub server_lists : Plan → Option Data → Option (List (List NodeEntry))
server_lists plan place = (option_and_then as_array place >>= one_each plan.levels) >>= each (journal (node_entry plan.format) plan.limit)

-- the same as the reader keeps them
abbrev pub kept : Option (List (List NodeEntry)) → Option ServerJournals
kept lists = option_map (λ lists. record { lists = lists }) lists

abbrev pub file_fields : Plan → Names → FileFields
file_fields plan names = record {
  desk = names (codes "desk") >>= journal (desk_entry plan.format) plan.limit;
  format = option_and_then number_of (names (codes "format"));
  levels = option_and_then number_of (names (codes "levels"));
  limits = names (codes "limits") >>= limits;
  servers = server_lists plan (names (codes "servers"));
  view = names (codes "view") >>= journal (view_entry plan.format plan.levels) plan.limit;
}

abbrev pub journals_from : ℕ → FileFields → Option JournalsView
journals_from levels fields = do
  limits ← fields.limits
  servers ← fields.servers
  desk ← fields.desk
  view ← fields.view
  Some (record { levels = levels; limits = limits; servers = servers; desk = desk; view = view })

-- a file that was read by the plan that it gives
abbrev pub IsPlanned : ℕ → FileFields → Type 0
IsPlanned levels fields = (plan : Plan) × (value : Data) × (fields ≡ file_fields plan (names_of value)) × (plan_of value ≡ Some plan) × (levels ≡ plan.levels)

-- the relation holds of the data that `serde_json` reads of the text
abbrev pub IsOfText : {X : Type 0} → (Data → X → Type 0) → List ℕ → X → Type 0
IsOfText P text x = (value : Data) × (read text ≡ Some value) × P value x

-- what a file is, read by a plan
abbrev pub IsReading : Plan → Reading → Data → Type 0
IsReading plan (Journals journals) value = journals_of value ≡ Some journals
IsReading plan NoJournals value = journals_of value ≡ None
IsReading plan (OtherPlan other) value = (plan_of value ≡ Some other) × (other ≢ plan)

abbrev pub fault_of : NotRead → ReadFault
fault_of NotRead.Memory = ReadFault.Memory
fault_of NotRead.NotJson = ReadFault.NotJson

abbrev pub file_answer : Reading → Result JournalsView ReadFault
file_answer (Journals journals) = Ok journals
file_answer NoJournals = Err ReadFault.NotJournals
file_answer (OtherPlan other) = Err ReadFault.NotJournals

-- what is answered of a text
abbrev pub AnswersText : Result JournalsView ReadFault → List ℕ → Type 0
AnswersText (Ok journals) text = (value : Data) × (read text ≡ Some value) × (journals_of value ≡ Some journals)
AnswersText (Err ReadFault.Memory) text = ⊤
AnswersText (Err ReadFault.NotJson) text = read text ≡ None
AnswersText (Err ReadFault.NotJournals) text = (value : Data) × (read text ≡ Some value) × (journals_of value ≡ None)

-- the numbers of servers that stand in a place, no list longer than each set of servers of a tree of those levels
abbrev pub servers_in : ℕ → Option Data → Option Servers
servers_in levels place = views.kept (within_cap (Some (2 ^ levels)) (all_of number_of place))

-- ---- ordered

-- each byte of the names means itself in a string
abbrev pub are_plain : List (List ℕ) → Bool
are_plain keys = list_all is_plain_name keys

-- nothing was found at any of the names
abbrev pub HasNone : List (List ℕ) → Members → Type 0
HasNone keys found = (name : List ℕ) → IsTrue (is_among name keys) → get_member name found ≡ None

-- at other names than these it is the same
abbrev pub SameApart : List (List ℕ) → Members → Members → Type 0
SameApart keys old new = (name : List ℕ) → is_among name keys ≡ false → get_member name new ≡ get_member name old

-- at other names than this it is the same
abbrev pub SameBut : List ℕ → Members → Members → Type 0
SameBut key old new = (name : List ℕ) → bytes_eq name key ≡ false → get_member name new ≡ get_member name old

-- what stood before is some members and what is left, and the first is what stands at the name
abbrev pub IsNameTaken : {A : Type 0} → (Option Data → A) → List ℕ → Members → Option (Members × List Token) → ℕ → A → List Token → Type 0
IsNameTaken at name old before depth first ts =
    (new : Members) × (before ≡ members_behind new depth ts) × (first ≡ at (get_member name new)) × SameBut name old new

-- what stood before is some members and what is left, and the slots have what stands at the names
abbrev pub IsTakenInOrder : {S : Type 0} → (Slots → S) → List (List ℕ) → Members → Option (Members × List Token) → ℕ → S → List Token → Type 0
IsTakenInOrder of keys old before depth slots ts =
    (new : Members) × (before ≡ members_behind new depth ts) × (slots ≡ of (slots_at keys (λ name. get_member name new))) × SameApart keys old new
