-- The journals of a system, one for each part.
use Rattle.std.specs.{Prelude.{◌≡◌, ◌≤◌, ◌+◌, ◌-◌, ◌^◌, ℕ, List, [], ◌∷◌, ◌++◌, length, map, replicate}, Global.Vec}
use Rattle.std.specs.List.{All}
use Rattle.tq_shape.specs.{Limits.LimitsView, declared.part.Entry.Entry}
use Rattle.tq_live.specs.declared.view.{ViewAsk.ViewAsk, ViewReply.ViewReply}
pub use Rattle.tq_live.specs.ViewLaws.{IsOfTree}
use Rattle.tq_node.specs.NodeJournal.{NodeEntry}
use Rattle.tq_desk.specs.DeskJournal.{DeskEntry}

-- an entry of the view's journal
abbrev pub ViewEntry : Type 0
ViewEntry = Entry ViewAsk ViewReply

-- what callers see of the journals: how many levels the tree has, the limits, and the entries of each server upwards
-- from server 1, of the desk and of the view, each the oldest first
pub record JournalsView : Type 0 where
  pub levels : ℕ
  pub limits : LimitsView
  pub servers : List (List NodeEntry)
  pub desk : List DeskEntry
  pub view : List ViewEntry

-- the entries of each server's journal
abbrev pub entries_in : List (Vec NodeEntry) → List (List NodeEntry)
entries_in journals = map (λ entries. entries.items) journals

-- no part was asked anything
abbrev pub no_entries : ℕ → LimitsView → JournalsView
no_entries levels limits = record { levels = levels; limits = limits; servers = replicate (2 ^ levels - 1) []; desk = []; view = [] }

-- there is one journal for each server, none has more entries than the limit, and each quorum and blocker is of the tree
pub record AreJournals (journals : JournalsView) : Type 0 where
  pub one_each : length journals.servers + 1 ≡ 2 ^ journals.levels
  pub servers_fit : All (λ entries. length entries ≤ journals.limits.entries) journals.servers
  pub desk_fits : length journals.desk ≤ journals.limits.entries
  pub view_fits : length journals.view ≤ journals.limits.entries
  pub of_tree : All (λ entry. IsOfTree journals.levels entry.reply) journals.view

-- the journals with one entry more at the end of the view's, and of the desk's
abbrev pub with_view : JournalsView → ViewEntry → JournalsView
with_view journals entry = record journals { view = journals.view ++ entry ∷ [] }

abbrev pub with_desk : JournalsView → DeskEntry → JournalsView
with_desk journals entry = record journals { desk = journals.desk ++ entry ∷ [] }
