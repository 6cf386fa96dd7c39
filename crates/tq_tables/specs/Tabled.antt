-- Tables beside bare journals of the same parts.
use Rattle.std.specs.Prelude.{List}
use Rattle.tq_shape.specs.Limits.{LimitsView}
use Rattle.tq_node.specs.NodeJournal.{NodeEntry}
use Rattle.tq_desk.specs.DeskJournal.{DeskEntry}
use Rattle.tq_tables.specs.{Journals.{JournalsView, ViewEntry, entries_in}, Tables.TablesView}
use Rattle.tq_tables.specs.declared.tabled_journals.TabledJournals.{TabledJournals}

-- the journals beside tables of that tree
abbrev pub journals_in : TablesView → LimitsView → List (List NodeEntry) → List DeskEntry → List ViewEntry → JournalsView
journals_in tables limits servers desk view =
    record { levels = tables.levels; limits = limits; servers = servers; desk = desk; view = view }

-- those that stand beside the tables
abbrev pub journals_of : TabledJournals → JournalsView
journals_of tabled = journals_in tabled.tables tabled.limits (entries_in tabled.servers.items) tabled.desk.items tabled.view.items
