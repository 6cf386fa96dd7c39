-- What the tables follow, and what is reserved beside it: an entry that a note takes with no memory.
use Rattle.std.specs.{Prelude.{◌≡◌, ℕ, Option, Some, None, IfSome, ⊤}, Global.Box, Option.option_map}
use Rattle.tq_shape.specs.declared.part.Part.{Part}
use Rattle.tq_shape.specs.declared.part.Part.TheVariants as parts
use Rattle.tq_tables.specs.declared.{journals.PartEntry.PartEntry, ready_entry.{PartAsk.PartAsk, Ready.Ready}}
use Rattle.tq_tables.specs.{declared.{ready_entry.ReadyEntry.ReadyEntry, followed.Followed.Followed}, Files.AreHolders}
use Rattle.tq_tables.specs.Tables.{FollowsDesk, FollowsNode, FollowsView, TablesView, tables_at}
use Rattle.tq_tables.specs.declared.journals.PartEntry.TheVariants as lent
use Rattle.tq_tables.specs.declared.ready_entry.PartAsk.TheVariants as asks

-- what is followed, as tables beside which nothing is reserved
abbrev pub tables_in : Followed → TablesView
tables_in followed = tables_at followed.parts.value followed.files.value.rows

-- its parts and rows are of one tree, and each server with a copy of a file with no row is one of the holders
abbrev pub AreFollowed : Followed → Type 0
AreFollowed followed = (followed.parts.value.view.levels ≡ followed.files.value.levels) × AreHolders followed.files.value.levels followed.parts.value.nodes followed.files.value.rows followed.holders.value

-- the copy shows the same, and holds together if that does of which it is a copy
abbrev pub AreCopied : Followed → Followed → Type 0
AreCopied old copy = (tables_in copy ≡ tables_in old) × (AreFollowed old → AreFollowed copy)

-- what the entry asks
abbrev pub ask_of : PartEntry → PartAsk
ask_of (lent.Server e) = asks.Server e.now.ask
ask_of (lent.Desk e) = asks.Desk e.now.ask
ask_of (lent.View e) = asks.View e.now.ask

-- the entry of that part, of that number, as it is reserved
abbrev pub ready_entry : Part → ℕ → PartEntry → ReadyEntry
ready_entry part number e = record { part = part; number = number; ask = ask_of e }

-- the entry that is reserved, where one is
abbrev pub reserved_entry : Option (Box Ready) → Option ReadyEntry
reserved_entry ready = option_map (λ ready. ready.value.entry) ready

-- the entry of that part, of that number, is reserved: a note of it takes no memory
abbrev pub IsReadyFor : TablesView → Part → ℕ → PartEntry → Type 0
IsReadyFor tables part number e = tables.ready ≡ Some (ready_entry part number e)

-- the tables with this reserved, and with nothing reserved
abbrev pub with_ready : TablesView → Option ReadyEntry → TablesView
with_ready tables ready = record tables { ready = ready }

abbrev pub unready : TablesView → TablesView
unready tables = with_ready tables None

-- the new tables follow one entry more of the part than the old ones, one that asks this
abbrev pub LeadsTo : TablesView → TablesView → Part → PartAsk → Type 0
LeadsTo old new (parts.Server server) (asks.Server ask) = FollowsNode old new server ask
LeadsTo old new parts.Desk (asks.Desk ask) = FollowsDesk old new ask
LeadsTo old new parts.View (asks.View ask) = FollowsView old new ask
LeadsTo old new _ _ = ⊤

-- what is reserved beside these tables follows them by the entry that is reserved
pub record AreReady (old : TablesView) (ready : Ready) : Type 0 where
  pub followed : AreFollowed ready.after
  pub leads : LeadsTo old (tables_in ready.after) ready.entry.part ready.entry.ask

-- where anything is
abbrev pub IsReserve : TablesView → Option (Box Ready) → Type 0
IsReserve old ready = IfSome ready (λ ready. AreReady old ready.value)
