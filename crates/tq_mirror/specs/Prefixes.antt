-- What was pulled of the journals of a system: of each part the first entries. They are seen as journals. What is kept
-- of the parts: their entries, and beside them the tables. Whether journals begin with what was pulled of them.
use Rattle.std.specs.Prelude.{◌≡◌, ◌<◌, ◌≤◌, ◌⊎◌, ℕ, ◌+◌, ◌-◌, List, [], ◌++◌, length, get_or, set, ⊤, Result, OnOk, OnErr, IfErr, ◌^◌, Option, MatchOption}
use Rattle.tq_shape.specs.{Tree.IsServer, Limits.LimitsView, Journal.IsLegalFrom, declared.part.Part.Part}
use Rattle.tq_shape.specs.declared.part.Part.TheVariants as parts
use Rattle.tq_asks.specs.declared.ask.NodeAsk.{NodeAsk}
use Rattle.tq_node.specs.{Records.node_reply, Node.{NodeView, server_after}, NodeJournal.NodeEntry}
use Rattle.tq_desk.specs.DeskJournal.{step_reply, step_after}
use Rattle.tq_live.specs.View.{view_reply_at, view_after_at}
use Rattle.tq_tables.specs.{Journals.JournalsView, Parts.{node_after_all, desk_at, view_at, AreLegal}}
use Rattle.tq_tables.specs.{Tables.{TablesView, tables_of}, Same.Begins}
use Rattle.tq_mirror.specs.declared.{entries.Entries.Entries, fault.PullFault.PullFault}
use Rattle.tq_mirror.specs.declared.entries.Entries.TheVariants as entries
use Rattle.tq_mirror.specs.declared.fault.PullFault.TheVariants as faults

-- a system with a tree of so many levels has the part
abbrev pub IsPartOf : ℕ → Part → Type 0
IsPartOf levels (parts.Server number) = IsServer levels number
IsPartOf levels parts.Desk = ⊤
IsPartOf levels parts.View = ⊤

-- what was pulled of the server of a number, and how many entries of a part
abbrev pub server_prefix : JournalsView → ℕ → List NodeEntry
server_prefix prefixes number = get_or prefixes.servers (number - 1) []

abbrev pub prefix_length : JournalsView → Part → ℕ
prefix_length prefixes (parts.Server number) = length (server_prefix prefixes number)
prefix_length prefixes parts.Desk = length prefixes.desk
prefix_length prefixes parts.View = length prefixes.view

-- how many entries there are
abbrev pub count_of : Entries → ℕ
count_of (entries.Server given) = length given
count_of (entries.Desk given) = length given
count_of (entries.View given) = length given

-- these entries stand behind those of the part; those of the other parts are as they were
abbrev pub journals_with : JournalsView → Part → Entries → JournalsView
journals_with prefixes (parts.Server number) (entries.Server more) = record prefixes { servers = set prefixes.servers (number - 1) (server_prefix prefixes number ++ more) }
journals_with prefixes parts.Desk (entries.Desk more) = record prefixes { desk = prefixes.desk ++ more }
journals_with prefixes parts.View (entries.View more) = record prefixes { view = prefixes.view ++ more }
journals_with prefixes part more = prefixes

-- the part, standing where its prefix leaves it, gives these entries next
abbrev pub GivesNext : JournalsView → Part → Entries → Type 0
GivesNext prefixes (parts.Server number) (entries.Server more) =
    IsLegalFrom (λ (s : NodeView) (n : ℕ) (a : NodeAsk). node_reply s.server s.state a) (λ s n a. server_after s n a)
    (node_after_all prefixes.levels number (server_prefix prefixes number)) (length (server_prefix prefixes number) + 1) more
GivesNext prefixes parts.Desk (entries.Desk more) = IsLegalFrom step_reply step_after (desk_at prefixes.levels prefixes.limits prefixes.desk) (length prefixes.desk + 1) more
GivesNext prefixes parts.View (entries.View more) = IsLegalFrom view_reply_at view_after_at (view_at prefixes.levels prefixes.view) (length prefixes.view + 1) more
GivesNext prefixes part more = ⊥

-- the entries do not continue the part's prefix, or leave it with fewer entries than that
abbrev pub IsForeign : JournalsView → Part → Entries → ℕ → Type 0
IsForeign prefixes part more least = (GivesNext prefixes part more → ⊥) ⊎ (prefix_length prefixes part + count_of more < least)

-- why these entries of the part were not taken, of which with its prefix there were to be that many at least: memory was
-- refused, or they are handed back and are foreign
abbrev pub IsPullFault : JournalsView → Part → Entries → ℕ → PullFault → Type 0
IsPullFault prefixes part more least faults.Memory = ⊤
IsPullFault prefixes part more least (faults.Foreign there given) = (there ≡ part) × ((given ≡ more) × IsForeign prefixes part more least)

-- what comes of entries of the part, of which with its prefix there were to be that many at least: they stand behind the
-- prefix, or all is as it was
pub record IsTaken {T : Type 0} (old new : JournalsView) (part : Part) (more : Entries) (enough : ℕ) (result : Result T PullFault) : Type 0 where
  pub grown : OnOk result (new ≡ journals_with old part more)
  pub least : OnOk result (enough ≤ prefix_length new part)
  pub count : OnOk result (prefix_length new part ≡ prefix_length old part + count_of more)
  pub err : OnErr result (new ≡ old)
  pub fault : IfErr result (IsPullFault old part more enough)

-- ---- kept

-- there are entries for each server of the tree, the journals that have them alone are legal, and the tables are theirs
pub record AreKept (tables : TablesView) (prefixes : JournalsView) : Type 0 where
  pub one_each : length prefixes.servers + 1 ≡ 2 ^ prefixes.levels
  pub legal : AreLegal prefixes
  pub stand : tables ≡ tables_of prefixes

-- the part gives these entries next, with them there are that many at least, and the tables are those with them
pub record AreAhead (tables : TablesView) (prefixes : JournalsView) (part : Part) (more : Entries) (least : ℕ) : Type 0 where
  pub gives : GivesNext prefixes part more
  pub enough : least ≤ prefix_length prefixes part + count_of more
  pub stand : tables ≡ tables_of (journals_with prefixes part more)

-- these tables came of the entries that the part gives next; or none, where it gives others
abbrev pub AreLed : Option TablesView → JournalsView → Part → Entries → Type 0
AreLed found prefixes part more = MatchOption found (GivesNext prefixes part more → ⊥) (λ tables. AreAhead tables prefixes part more 0)

-- they are the tables over prefixes with so many entries of the server, which can be counted with so many more
pub record ServerMayFollow (tables : TablesView) (number known more : ℕ) : Type 0 where
  pub prefixes : JournalsView
  pub kept : AreKept tables prefixes
  pub there : IsServer prefixes.levels number
  pub count : known ≡ length (server_prefix prefixes number)
  pub few : known + more < 2 ^ 64

-- they are the tables over prefixes with entries of the desk that can be counted with so many more
pub record DeskMayFollow (tables : TablesView) (more : ℕ) : Type 0 where
  pub prefixes : JournalsView
  pub kept : AreKept tables prefixes
  pub few : length prefixes.desk + more < 2 ^ 64

-- ---- astray

-- the journal of the part begins with what was pulled of it
abbrev pub PartBegins : JournalsView → JournalsView → Part → Type 0
PartBegins prefixes journals (parts.Server number) = Begins (server_prefix prefixes number) (server_prefix journals number)
PartBegins prefixes journals parts.Desk = Begins prefixes.desk journals.desk
PartBegins prefixes journals parts.View = Begins prefixes.view journals.view

-- that of each part does: these are prefixes of the journals
abbrev pub AllBegin : JournalsView → JournalsView → Type 0
AllBegin prefixes journals = (part : Part) → IsPartOf prefixes.levels part → PartBegins prefixes journals part

-- the one part comes before the other: servers upwards, then the desk, then the view
abbrev pub ComesBefore : Part → Part → Type 0
ComesBefore (parts.Server one) (parts.Server other) = one < other
ComesBefore (parts.Server one) parts.Desk = ⊤
ComesBefore (parts.Server one) parts.View = ⊤
ComesBefore parts.Desk parts.View = ⊤
ComesBefore one other = ⊥

-- it is a part whose journal does not begin so, and those of all parts before it do
pub record IsFirstAstray (prefixes journals : JournalsView) (part : Part) : Type 0 where
  pub is_part : IsPartOf prefixes.levels part
  pub astray : PartBegins prefixes journals part → ⊥
  pub first : (before : Part) → IsPartOf prefixes.levels before → ComesBefore before part → PartBegins prefixes journals before

-- ---- of servers alone

-- those below that number do
abbrev pub ServersBegin : JournalsView → JournalsView → ℕ → Type 0
ServersBegin prefixes journals past = (number : ℕ) → 0 < number → number < past → Begins (server_prefix prefixes number) (server_prefix journals number)

-- all of them do
abbrev pub AllServersBegin : JournalsView → JournalsView → Type 0
AllServersBegin prefixes journals = ServersBegin prefixes journals (2 ^ prefixes.levels)

-- it is the first server whose journal does not
abbrev pub IsServerAstray : JournalsView → JournalsView → ℕ → Type 0
IsServerAstray prefixes journals number =
    IsServer prefixes.levels number
    × (Begins (server_prefix prefixes number) (server_prefix journals number) → ⊥)
    × ServersBegin prefixes journals number
