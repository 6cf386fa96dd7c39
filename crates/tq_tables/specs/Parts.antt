-- The parts of a system as their journals leave them, and when journals are legal. An ask of one server among all
-- parts.
use Rattle.std.specs.Prelude.{◌≡◌, ℕ, ◌+◌, Bool, List, [], ◌∷◌, length, reverse, refl, ◌-◌, ◌<◌, slice_index_or, slice_set}
use Rattle.std.specs.Coded.{Coded, code_by, coded×, coded_list, coded_ℕ, coded_bool}
use Rattle.tq_shape.specs.{Journal.state_from, Limits.LimitsView}
use Rattle.tq_node.specs.{Records.{NodeState, node_after, node_reply}, Node.{NodeView, node_code, server_after}}
use Rattle.tq_node.specs.{NodeJournal.{IsLegalNode, NodeEntry}, Telling.{AreReached, KeepsOthers, raised_files}}
use Rattle.tq_node.specs.declared.telling.{Raised.Raised, Telling.Telling}
use Rattle.tq_node.specs.Node as node
use Rattle.tq_intents.specs.declared.record.{OpenVote.OpenVote, Record.Record}
use Rattle.tq_asks.specs.declared.ask.{Verdict.Verdict, NodeAsk.NodeAsk}
use Rattle.tq_desk.specs.{DeskStep.{DeskView, desk_after}, DeskJournal.{desk_code, DeskBounds, IsLegalDesk, DeskEntry}}
use Rattle.tq_desk.specs.{DeskPlans.desk_changed, declared.desk.DeskChange.DeskChange}
use Rattle.tq_desk.specs.DeskStep as desk
use Rattle.tq_live.specs.{Live.Live, Costs.costs_code, declared.costs.Costs.Costs, declared.view.ViewAsk.ViewAsk}
use Rattle.tq_live.specs.View.{view_after, view_state, IsLegalView}
use Rattle.tq_tables.specs.Journals.{JournalsView, ViewEntry}

-- the raw records of a server after the entries of its journal
abbrev pub node_at : ℕ → List NodeEntry → NodeState
node_at server entries = state_from (node_after server) (node.opening_server 0 server).state 1 entries

abbrev pub desk_at : ℕ → LimitsView → List DeskEntry → DeskView
desk_at levels limits entries = state_from (λ old number ask. desk_after old ask) (desk.opening_desk levels limits) 1 entries

abbrev pub view_at : ℕ → List ViewEntry → Live
view_at levels entries = view_state levels entries

-- a server of a tree of those levels after its journal
abbrev pub node_after_all : ℕ → ℕ → List NodeEntry → NodeView
node_after_all levels server entries = record { levels = levels; server = server; state = node_at server entries; last = length entries }

-- the servers of a tree after their journals, upwards from the first
abbrev pub nodes_at : ℕ → ℕ → List (List NodeEntry) → List NodeView
nodes_at levels first [] = []
nodes_at levels first (entries ∷ rest) = node_after_all levels first entries ∷ nodes_at levels (first + 1) rest

-- all parts of a system: the servers upwards from server 1, the desk and the view
pub record PartsView : Type 0 where
  pub nodes : List NodeView
  pub desk : DeskView
  pub view : Live

-- the parts as their journals leave them
abbrev pub parts_of : JournalsView → PartsView
parts_of journals =
    record {
      nodes = nodes_at journals.levels 1 journals.servers;
      desk = desk_at journals.levels journals.limits journals.desk;
      view = view_at journals.levels journals.view;
    }

-- they are servers of a tree of those levels, numbered upwards from the first
abbrev pub AreOfTree : ℕ → ℕ → List NodeView → Type 0
AreOfTree levels first [] = Unit {0}
AreOfTree levels first (node ∷ nodes) = ((node.levels ≡ levels) × (node.server ≡ first)) × AreOfTree levels (first + 1) nodes

-- ---- legal journals: each reply is what the part gives after the entries before it

-- the journals of servers, upwards from the first (the server's words read the newest entry first)
abbrev pub AreLegalServers : ℕ → List (List NodeEntry) → Type 0
AreLegalServers first [] = Unit {0}
AreLegalServers first (entries ∷ rest) = IsLegalNode first (reverse entries) × AreLegalServers (first + 1) rest

-- what bounds the desk
abbrev pub bounds_of : ℕ → LimitsView → DeskBounds
bounds_of levels limits = record { levels = levels; limits = limits }

-- the journal of each part is legal
pub record AreLegal (journals : JournalsView) : Type 0 where
  pub servers : AreLegalServers 1 journals.servers
  pub desk : IsLegalDesk (bounds_of journals.levels journals.limits) (reverse journals.desk)
  pub view : IsLegalView journals.levels journals.view

-- ---- one part further

-- the parts after a change of the desk, and after an ask of the view
abbrev pub with_change : PartsView → DeskChange → PartsView
with_change parts change = record parts { desk = desk_changed parts.desk change }

abbrev pub with_view_asked : PartsView → ViewAsk → PartsView
with_view_asked parts ask = record parts { view = view_after parts.view ask }

-- codes, by which a proof tells values apart
abbrev pub live_code : Coded Live
live_code = code_by (ℕ × (List Costs × List Bool)) (coded× coded_ℕ (coded× (coded_list costs_code) (coded_list coded_bool))) (λ l. (l.levels, (l.costs, l.up))) (λ p. record { levels = p.0; costs = p.1.0; up = p.1.1 }) (λ _. refl)

abbrev pub parts_code : Coded Record → Coded OpenVote → Coded Verdict → Coded PartsView
parts_code record_code vote_code verdict_code =
    code_by (List NodeView × (DeskView × Live)) (coded× (coded_list (node_code record_code vote_code)) (coded× (desk_code verdict_code) live_code)) (λ p. (p.nodes, (p.desk, p.view))) (λ q. record { nodes = q.0; desk = q.1.0; view = q.1.1 }) (λ _. refl)

-- ---- told

-- it is the server of that number, of servers upwards from server 1
abbrev pub IsNodeAt : List NodeView → ℕ → NodeView → Type 0
IsNodeAt nodes server node = node ≡ slice_index_or nodes (server - 1) node

-- the number is above that of the server's last entry
abbrev pub IsAboveLast : List NodeView → ℕ → ℕ → Type 0
IsAboveLast nodes server number = (node : NodeView) → IsNodeAt nodes server node → node.last < number

-- what is told is the server's reply, twice
abbrev pub TellsReply : List NodeView → ℕ → NodeAsk → Telling → Type 0
TellsReply nodes server ask telling =
    (node : NodeView) → IsNodeAt nodes server node → (telling.entered ≡ node_reply node.server node.state ask) × (telling.told ≡ node_reply node.server node.state ask)

-- the server has answered the ask, of that number; the other parts are as they were
abbrev pub HasAnswered : PartsView → PartsView → ℕ → ℕ → NodeAsk → Type 0
HasAnswered old new server number ask =
    (node : NodeView) → IsNodeAt old.nodes server node → new ≡ record old { nodes = slice_set old.nodes (server - 1) (server_after node number ask) }

-- the ask leaves the server's copies of all files but those that are told as they were
abbrev pub KeepsUntold : List NodeView → ℕ → ℕ → NodeAsk → Raised → Type 0
KeepsUntold nodes server number ask raised =
    (node : NodeView) → IsNodeAt nodes server node → KeepsOthers (raised_files ask raised) node.state.records.copies (server_after node number ask).state.records.copies

-- and its copies of those that are told of the versions that are told, or of later ones
abbrev pub ReachesTold : List NodeView → ℕ → ℕ → NodeAsk → Raised → Type 0
ReachesTold nodes server number ask raised =
    (node : NodeView) → IsNodeAt nodes server node → AreReached ask raised (server_after node number ask).state.records.copies
