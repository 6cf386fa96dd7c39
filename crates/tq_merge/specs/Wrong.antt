-- The first entry of the journals that is not legal. What a fault says of journals.
use Rattle.std.specs.Prelude.{◌≡◌, ◌≢◌, ℕ, ◌-◌, List, [], take, reverse, Some, ⊤}
use Rattle.tq_shape.specs.{Journal.{state_from, IsLegalFrom}, declared.part.Entry.Entry, declared.part.Part.Part}
use Rattle.tq_shape.specs.declared.part.Part.TheVariants.{Server, Desk, View}
use Rattle.tq_node.specs.{Records.{node_reply, node_after}, NodeJournal.{nothing_stored, NodeEntry}}
use Rattle.tq_desk.specs.DeskJournal.{DeskBounds, IsLegalDesk, opened_desk, step_reply, step_after, DeskEntry}
use Rattle.tq_live.specs.View.{view_reply_at, view_after_at, view_state}
use Rattle.tq_tables.specs.{Journals.{JournalsView, ViewEntry}, Parts.{AreLegalServers, bounds_of}}
use Rattle.tq_core.specs.World.{item_at}
use Rattle.tq_merge.specs.{declared.fault.Fault.Fault, Order.IsStuck}
use Rattle.tq_merge.specs.declared.fault.Fault.TheVariants as faults

-- the entry of the number is not what the part gives there, and those before it are
pub record IsFirstWrong {S A R : Type 0} (reply : S → ℕ → A → R) (after : S → ℕ → A → S) (opening : S) (entries : List (Entry A R)) (number : ℕ) : Type 0 where
  pub entry : Entry A R
  pub is_there : item_at entries number ≡ Some entry
  pub legal_before : IsLegalFrom reply after opening 1 (take (number - 1) entries)
  pub wrong : entry.reply ≢ reply (state_from after opening 1 (take (number - 1) entries)) number entry.ask

-- ---- the same of each kind of part

abbrev pub IsLegalServer : ℕ → List NodeEntry → Type 0
IsLegalServer server entries = IsLegalFrom (λ old number ask. node_reply server old ask) (node_after server) nothing_stored 1 entries

abbrev pub IsWrongOfServer : ℕ → List NodeEntry → ℕ → Type 0
IsWrongOfServer server entries number = IsFirstWrong (λ old n ask. node_reply server old ask) (node_after server) nothing_stored entries number

abbrev pub IsLegalDeskFrom : DeskBounds → List DeskEntry → Type 0
IsLegalDeskFrom bounds entries = IsLegalFrom step_reply step_after (opened_desk bounds) 1 entries

abbrev pub IsWrongOfDesk : DeskBounds → List DeskEntry → ℕ → Type 0
IsWrongOfDesk bounds entries number = IsFirstWrong step_reply step_after (opened_desk bounds) entries number

abbrev pub IsWrongOfView : ℕ → List ViewEntry → ℕ → Type 0
IsWrongOfView levels entries number = IsFirstWrong view_reply_at view_after_at (view_state levels []) entries number

-- it is of a server, of which there is one list of entries for each upwards from server 1, and the servers before it are legal
abbrev pub IsWrongOfServers : List (List NodeEntry) → ℕ → ℕ → Type 0
IsWrongOfServers servers server number =
    AreLegalServers 1 (take (server - 1) servers)
    × ((entries : List NodeEntry) × (item_at servers server ≡ Some entries) × IsWrongOfServer server entries number)

-- it is the first of its part, and the parts before it are legal: servers upwards, then the desk, then the view
abbrev pub IsWrong : JournalsView → Part → ℕ → Type 0
IsWrong journals (Server server) number = IsWrongOfServers journals.servers server number
IsWrong journals Desk number = AreLegalServers 1 journals.servers × IsWrongOfDesk (bounds_of journals.levels journals.limits) journals.desk number
IsWrong journals View number =
    AreLegalServers 1 journals.servers
    × IsLegalDesk (bounds_of journals.levels journals.limits) (reverse journals.desk)
    × IsWrongOfView journals.levels journals.view number

-- ---- faults

abbrev pub IsFault : JournalsView → Fault → Type 0
IsFault journals faults.Memory = ⊤
IsFault journals (faults.Wrong part number) = IsWrong journals part number
IsFault journals (faults.Stuck placed) = IsStuck journals placed

-- it says of no entry that it is wrong
abbrev pub BlamesNone : Fault → Type 0
BlamesNone (faults.Wrong part number) = ⊥
BlamesNone other = ⊤
