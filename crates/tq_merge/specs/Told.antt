-- What callers were told of entries, and whether it stands in journals. Names of entries: which rise, which come
-- twice, and how many entries no one names. Whether what callers were told stands in journals, each of it once. What
-- names come to that were told to callers. The names of the entries that a caller was told of. What comes of a cluster
-- that is closed.
use Rattle.std.specs.Prelude.{◌≡◌, ℕ, List, [], ◌∷◌, length, map, Option, Some, Ok, ⊤, ◌≤◌, ◌<◌, ◌==◌, ◌&&◌, ◌+◌, zero, suc, Bool, cond, ◌++◌, get_or, ◌⊎◌}
use Rattle.std.specs.{List.{flat_map, list_any, All}, Option.option_map}
use Rattle.tq_shape.specs.{Journal.{entry, Has}, declared.part.Entry.Entry, declared.part.Part.Part}
use Rattle.tq_shape.specs.declared.part.Part.TheVariants.{Server, Desk, View}
use Rattle.tq_shape.specs.declared.part.Part.TheVariants as parts
use Rattle.tq_txn.specs.declared.asker.Exchange.{Exchange}
use Rattle.tq_txn.specs.declared.asker.Exchange.TheVariants as exchanges
use Rattle.tq_node.specs.NodeJournal.{NodeEntry}
use Rattle.tq_desk.specs.DeskJournal.{DeskEntry}
use Rattle.tq_tables.specs.Journals.{JournalsView, ViewEntry}
use Rattle.tq_core.specs.{World.{item_at, server_entry}, declared.answer.Step.Step, declared.answer.Reply.Reply}
use Rattle.tq_core.specs.declared.answer.Step.TheVariants as steps
use Rattle.tq_core.specs.declared.answer.Reply.TheVariants as replies
use Rattle.tq_merge.specs.{declared.claimed.EntryName.EntryName, Order.{same_part, IsStuck}, declared.names.Names.Names}
use Rattle.tq_merge.specs.declared.compared.{Comparison.Comparison, Comparison.TheVariants.{Kept, Differs}}
use Rattle.tq_merge.specs.declared.claimed.{Claimed.Claimed, Claimed.TheVariants.{Twice, Once}}
use Rattle.tq_merge.specs.declared.{names.Names.TheVariants.{Stand, Stray}, fault.CloseFault.CloseFault}
use Rattle.tq_merge.specs.declared.fault.CloseFault.TheVariants as faults

abbrev pub entry_name : Part → ℕ → EntryName
entry_name part number = record { part = part; number = number }

-- the entry that is told of; none where the ask was not taken
abbrev pub names_in : Exchange → List EntryName
names_in (exchanges.Node server ask (Ok told)) = entry_name (parts.Server server) told.number ∷ []
names_in (exchanges.Desk ask (Ok told)) = entry_name parts.Desk told.number ∷ []
names_in (exchanges.View ask (Ok told)) = entry_name parts.View told.number ∷ []
names_in exchange = []

-- the entries that a caller was told of, in the order of its asks
abbrev pub names_of : List Exchange → List EntryName
names_of told = flat_map names_in told

-- those that all callers were told of, caller by caller
abbrev pub all_names : List (List Exchange) → List EntryName
all_names callers = flat_map names_of callers

-- what is told of stands in the journal of its part, under its number, with that ask and reply
abbrev pub Stands : JournalsView → Exchange → Type 0
Stands journals (exchanges.Node server ask (Ok told)) = server_entry journals server told.number ≡ Some (entry ask told.reply)
Stands journals (exchanges.Desk ask (Ok told)) = item_at journals.desk told.number ≡ Some (entry ask told.reply)
Stands journals (exchanges.View ask (Ok told)) = item_at journals.view told.number ≡ Some (entry ask told.reply)
Stands journals exchange = ⊤

-- how many entries the desk, the view and each server have, upwards from server 0, of which there is none
abbrev pub entry_counts : JournalsView → List ℕ
entry_counts journals = length journals.desk ∷ length journals.view ∷ 0 ∷ map length journals.servers

-- an entry with the name of its part
abbrev pub node_found : ℕ → NodeEntry → Entry Step Reply
node_found server e = entry (steps.Node server e.ask) (replies.Node e.reply)

abbrev pub desk_found : DeskEntry → Entry Step Reply
desk_found e = entry (steps.Desk e.ask) (replies.Desk e.reply)

abbrev pub view_found : ViewEntry → Entry Step Reply
view_found e = entry (steps.View e.ask) (replies.View e.reply)

-- the entry of that name, if there is one
abbrev pub found_at : JournalsView → Part → ℕ → Option (Entry Step Reply)
found_at journals (parts.Server server) number = option_map (node_found server) (server_entry journals server number)
found_at journals parts.Desk number = option_map desk_found (item_at journals.desk number)
found_at journals parts.View number = option_map view_found (item_at journals.view number)

-- ---- kept

-- ---- numbers rise

-- the number is above those that come before it at the same part
abbrev pub IsAbove : List EntryName → EntryName → Type 0
IsAbove before name = (earlier : EntryName) → Has before earlier → earlier.part ≡ name.part → earlier.number < name.number

abbrev pub RiseAfter : List EntryName → List EntryName → Type 0
RiseAfter before [] = Unit {0}
RiseAfter before (name ∷ names) = IsAbove before name × RiseAfter (before ++ name ∷ []) names

-- at each part the numbers rise
abbrev pub Rise : List EntryName → Type 0
Rise names = RiseAfter [] names

-- the name stands there, and one before it of the same part has its number or one above it; those before it rise
pub record IsFallen (names : List EntryName) (name : EntryName) : Type 0 where
  pub before : List EntryName
  pub after : List EntryName
  pub names_are : names ≡ before ++ name ∷ after
  pub earlier : EntryName
  pub is_before : Has before earlier
  pub same : earlier.part ≡ name.part
  pub not_below : name.number ≤ earlier.number
  pub first : Rise before

-- ---- no two are the same

abbrev pub AreDifferent : List EntryName → Type 0
AreDifferent [] = Unit {0}
AreDifferent (name ∷ names) = (Has names name → ⊥) × AreDifferent names

-- the name stands there, and once more before it; no two before it are the same
pub record IsTwice (names : List EntryName) (name : EntryName) : Type 0 where
  pub before : List EntryName
  pub after : List EntryName
  pub names_are : names ≡ before ++ name ∷ after
  pub is_before : Has before name
  pub first : AreDifferent before

-- ---- entries that no one names

abbrev pub is_named : List EntryName → Part → ℕ → Bool
is_named names part number = list_any (λ name. same_part name.part part && name.number == number) names

-- how many of the first entries of the part, so many as are counted, no name names
abbrev pub unnamed_count : List EntryName → Part → ℕ → ℕ
unnamed_count names part zero = 0
unnamed_count names part (suc count) = unnamed_count names part count + cond (is_named names part (suc count)) 0 1

-- ---- all parts in a list: the desk, the view, and the servers upwards from number 0, which no server has

abbrev pub place_of : Part → ℕ
place_of Desk = 0
place_of View = 1
place_of (Server number) = number + 2

abbrev pub part_at : ℕ → Part
part_at zero = Desk
part_at (suc zero) = View
part_at (suc (suc number)) = Server number

-- the part has an entry of that number, where so many are counted for each
abbrev pub IsWithin : List ℕ → EntryName → Type 0
IsWithin counts name = (1 ≤ name.number) × (name.number ≤ get_or counts (place_of name.part) 0)

-- how many entries of the parts from that place on no name names
abbrev pub unnamed_from : List EntryName → ℕ → List ℕ → ℕ
unnamed_from names place [] = 0
unnamed_from names place (count ∷ counts) = unnamed_count names (part_at place) count + unnamed_from names (suc place) counts

-- ---- kept

-- of these callers: what each was told stands in the journals, at each part its numbers rise, and no entry was told
-- twice, to one of them or to two
pub record AreKept (journals : JournalsView) (callers : List (List Exchange)) : Type 0 where
  pub stand : All (λ told. All (Stands journals) told) callers
  pub rise : All (λ told. Rise (names_of told)) callers
  pub different : AreDifferent (all_names callers)

-- how many entries no caller was told of
abbrev pub unclaimed : JournalsView → List (List Exchange) → ℕ
unclaimed journals callers = unnamed_from (all_names callers) 0 (entry_counts journals)

-- the caller was told of this entry what does not stand there
abbrev pub IsStray : JournalsView → List Exchange → EntryName → Type 0
IsStray journals told name = (exchange : Exchange) × Has told exchange × (names_in exchange ≡ name ∷ []) × (Stands journals exchange → ⊥)

-- a caller was told of this entry what does not stand there, or after one of the same part with its number or a higher
-- one, or it was told twice
abbrev pub IsBad : JournalsView → List (List Exchange) → EntryName → Type 0
IsBad journals callers name =
    ((told : List Exchange) × Has callers told × IsStray journals told name)
    ⊎ (((told : List Exchange) × Has callers told × IsFallen (names_of told) name) ⊎ IsTwice (all_names callers) name)

abbrev pub IsCompared : JournalsView → List (List Exchange) → Comparison → Type 0
IsCompared journals callers (Kept count) = AreKept journals callers × (count ≡ unclaimed journals callers)
IsCompared journals callers (Differs name) = IsBad journals callers name

-- ---- claims

-- one that comes twice; or no two are the same, and the number is that of the entries that no one names
abbrev pub IsClaimed : List EntryName → List ℕ → Claimed → Type 0
IsClaimed names counts (Twice name) = IsTwice names name
IsClaimed names counts (Once unclaimed) = AreDifferent names × (unclaimed ≡ unnamed_from names 0 counts)

-- ---- names

abbrev pub AreNames : JournalsView → List Exchange → Names → Type 0
AreNames journals told (Stand names) = (names.items ≡ names_of told) × All (Stands journals) told
AreNames journals told (Stray name) = IsStray journals told name

-- ---- closed

-- memory was refused, or the legal journals have no order
abbrev pub IsNoOrder : JournalsView → CloseFault → Type 0
IsNoOrder journals faults.Memory = ⊤
IsNoOrder journals (faults.Receipt part number found) = ⊥
IsNoOrder journals (faults.Stuck given placed) = (given ≡ journals) × IsStuck journals placed

-- memory was refused; or what a caller was told is not kept, and that is found in its place; or all is kept, and the
-- legal journals have no order
abbrev pub IsCloseFault : JournalsView → List (List Exchange) → CloseFault → Type 0
IsCloseFault journals callers faults.Memory = ⊤
IsCloseFault journals callers (faults.Receipt part number found) = IsBad journals callers (entry_name part number) × (found ≡ found_at journals part number)
IsCloseFault journals callers (faults.Stuck given placed) = AreKept journals callers × (given ≡ journals) × IsStuck journals placed
