-- The world: all journals, and where the parts stand after them. The journal of a part.
use Rattle.std.specs.Prelude.{◌-◌, ℕ, cond, nat_lt, List, Option, None, slice_get, Some}
use Rattle.std.specs.Option.{option_and_then, option_map}
use Rattle.tq_shape.specs.{Limits.LimitsView, declared.part.Part.Part}
use Rattle.tq_tables.specs.Journals.{JournalsView, ViewEntry}
use Rattle.tq_node.specs.NodeJournal.{NodeEntry}
pub use Rattle.tq_tables.specs.Parts.{node_at, desk_at, view_at}
use Rattle.tq_shape.specs.declared.part.Part.TheVariants as parts
use Rattle.tq_desk.specs.DeskJournal.{DeskEntry}
use Rattle.tq_core.specs.declared.answer.Journal.{Journal}
use Rattle.tq_core.specs.declared.answer.Journal.TheVariants as lent

-- the item of a number, from 1
abbrev pub item_at : {E : Type 0} → List E → ℕ → Option E
item_at items number = cond (nat_lt 0 number) (slice_get items (number - 1)) None

-- the entry of a number in a server's journal
abbrev pub server_entry : JournalsView → ℕ → ℕ → Option NodeEntry
server_entry world server number = option_and_then (λ entries. item_at entries number) (item_at world.servers server)

-- ---- journal of

-- the entries of a server, of the desk or of the view
pub data Entries : Type 0 where
  OfServer : List NodeEntry → Entries
  OfDesk : List DeskEntry → Entries
  OfView : List ViewEntry → Entries

-- the entries that are lent
abbrev pub entries_of : Journal → Entries
entries_of (lent.Server entries) = OfServer entries.now
entries_of (lent.Desk entries) = OfDesk entries.now
entries_of (lent.View entries) = OfView entries.now

-- the journal of a part, if there is such a part
abbrev pub journal_of : JournalsView → Part → Option Entries
journal_of world (parts.Server server) = option_map OfServer (item_at world.servers server)
journal_of world parts.Desk = Some (OfDesk world.desk)
journal_of world parts.View = Some (OfView world.view)
