-- The least-cost definition, the view's replies and legal journals as they stood while a server had one cost. They are read
-- without purposes: of a SetCost the first cost counts, which is the second too where both are equal.
use Rattle.std.specs.Prelude.{◌≡◌, ◌↔◌, ◌≤◌, ◌==◌, ◌-◌, ◌^◌, ℕ, not, cond, List, [], ◌∷◌, ◌++◌, reverse, map, slice_index_or, Bool, false, Option, Some, None, filter, find, sum_by, ⊤}
use Rattle.std.specs.{List.{All, list_all}, Option.unwrap_or}
use Rattle.tq_shape.specs.{Journal.{entry, IsLegalFrom}, declared.part.Part.Part, declared.part.Part.TheVariants.View}
use Rattle.tq_coterie.specs.Coterie.{coterie}
use Rattle.tq_live.specs.{Least.first_least, View.{is_server, is_cost, journal_mark, upwards}}
use Rattle.tq_live.specs.declared.view.{ViewAsk.ViewAsk, ViewAsk.TheVariants.{SetCost, Mark, Choose}}
use Rattle.tq_live.specs.declared.view.{ViewReply.ViewReply, ViewReply.TheVariants.{CostSet, Marked, Chosen, Refused}}
use Rattle.tq_live.specs.declared.view.ViewRefusal.TheVariants.{NoSuchServer, BadCost, Blocked}
use Rattle.tq_desk.specs.DeskJournal.{IsLegalDesk}
use Rattle.tq_tables.specs.{Journals.{JournalsView, ViewEntry}, Parts.{AreLegalServers, bounds_of}}
use Rattle.tq_merge.specs.Order.{times, entries_of, counts_of, ArePlaced, IsNext, Explains, IsStuck}
use Rattle.tq_merge.specs.{Wrong.{IsFirstWrong, IsWrong}, declared.fault.Counts.Counts}

-- ---- least cost

-- the cost and the mark of each server, upwards from server 1
pub record TreeByOne : Type 0 where
  pub levels : ℕ
  pub costs : List ℕ
  pub up : List Bool

-- what a server costs
abbrev pub cost_by_one : TreeByOne → ℕ → ℕ
cost_by_one tree server = slice_index_or tree.costs (server - 1) 0

-- whether it is up
abbrev pub up_by_one : TreeByOne → ℕ → Bool
up_by_one tree server = slice_index_or tree.up (server - 1) false

-- of the quorums whose servers are all up, the first of least cost
abbrev pub best_by_one : TreeByOne → Option (List ℕ)
best_by_one tree = first_least (sum_by (cost_by_one tree)) (filter (list_all (up_by_one tree)) (coterie tree.levels))

-- the first quorum whose servers are all down
abbrev pub blocker_by_one : TreeByOne → Option (List ℕ)
blocker_by_one tree = find (list_all (λ server. not (up_by_one tree server))) (coterie tree.levels)

-- ---- what the view replies

-- the best quorum with its cost, or, where there is none, the blocker
abbrev pub choice_by_one : TreeByOne → Option (List ℕ) → ViewReply
choice_by_one tree (Some servers) = Chosen (record { servers = servers; levels = tree.levels }) (sum_by (cost_by_one tree) servers)
choice_by_one tree None = Refused (Blocked (record { servers = unwrap_or (blocker_by_one tree) []; levels = tree.levels }))

-- a cost is 1 to 1,000,000, of a server of the tree; a choice for either purpose is a choice
abbrev pub reply_by_one : TreeByOne → ViewAsk → ViewReply
reply_by_one tree (SetCost server cost same) = cond (is_server tree.levels server) (cond (is_cost cost) CostSet (Refused BadCost)) (Refused NoSuchServer)
reply_by_one tree (Mark server up) = cond (is_server tree.levels server) Marked (Refused NoSuchServer)
reply_by_one tree (Choose purpose) = choice_by_one tree (best_by_one tree)

-- ---- what the view's journal, the oldest entry first, says of costs

-- the cost of a server after an entry, where it was this before
abbrev pub cost_told : ℕ → ViewAsk → ViewReply → ℕ → ℕ
cost_told server (SetCost other cost same) CostSet before = cond (other == server) cost before
cost_told server ask reply before = before

-- the cost of a server after these entries, where it was this before
abbrev pub cost_since : ℕ → ℕ → List ViewEntry → ℕ
cost_since server before [] = before
cost_since server before (e ∷ journal) = cost_since server (cost_told server e.ask e.reply before) journal

-- that of the last SetCost for it answered CostSet, 1 where there is none
abbrev pub journal_cost : List ViewEntry → ℕ → ℕ
journal_cost journal server = cost_since server 1 journal

-- the costs and marks that a journal leaves
abbrev pub tree_by_one : ℕ → List ViewEntry → TreeByOne
tree_by_one levels journal = record {
  levels = levels;
  costs = map (journal_cost journal) (upwards 1 (2 ^ levels - 1));
  up = map (journal_mark journal) (upwards 1 (2 ^ levels - 1));
}

-- ---- legal journals

-- The reply to an ask after these entries, and the entries with it; the number makes no difference.
abbrev pub told_by_one : ℕ → List ViewEntry → ℕ → ViewAsk → ViewReply
told_by_one levels journal number ask = reply_by_one (tree_by_one levels journal) ask

abbrev pub grown_by_one : ℕ → List ViewEntry → ℕ → ViewAsk → List ViewEntry
grown_by_one levels journal number ask = journal ++ entry ask (told_by_one levels journal number ask) ∷ []

-- each reply is the one that the entries before it give
abbrev pub IsLegalViewByOne : ℕ → List ViewEntry → Type 0
IsLegalViewByOne levels journal = IsLegalFrom (told_by_one levels) (grown_by_one levels) [] 1 journal

-- the journal of each part is legal
pub record AreLegalByOne (journals : JournalsView) : Type 0 where
  pub servers : AreLegalServers 1 journals.servers
  pub desk : IsLegalDesk (bounds_of journals.levels journals.limits) (reverse journals.desk)
  pub view : IsLegalViewByOne journals.levels journals.view

-- the entry of the number is the first of its part that is not legal, and the parts before it are legal
abbrev pub IsWrongByOne : JournalsView → Part → ℕ → Type 0
IsWrongByOne journals View number =
    AreLegalServers 1 journals.servers
    × IsLegalDesk (bounds_of journals.levels journals.limits) (reverse journals.desk)
    × IsFirstWrong (told_by_one journals.levels) (grown_by_one journals.levels) [] journals.view number
IsWrongByOne journals part number = IsWrong journals part number

-- ---- orders

-- the journals are legal; the order names each part as often as it has entries; and each entry is founded in those before it
pub record ExplainsByOne (journals : JournalsView) (order : List Part) : Type 0 where
  pub legal : AreLegalByOne journals
  pub all : (part : Part) → times order part ≡ entries_of journals part
  pub founded : ArePlaced journals [] order

-- no order explains the journals, though they are legal; these counts are the greatest of an order of first entries
pub record IsStuckByOne (journals : JournalsView) (counts : Counts) : Type 0 where
  pub legal : AreLegalByOne journals
  pub order : List Part
  pub founded : ArePlaced journals [] order
  pub counted : counts ≡ counts_of journals (times order)
  pub blocked : (part : Part) → IsNext journals order part → ⊥
  pub greatest : (other : List Part) → ArePlaced journals [] other → (part : Part) → times other part ≤ times order part
  pub none : (other : List Part) → ExplainsByOne journals other → ⊥

-- ---- the same for journals in which each SetCost has two equal costs

-- the two costs that the ask has, if it has any, are equal
abbrev pub AreEqual : ViewAsk → Type 0
AreEqual (SetCost server read write) = read ≡ write
AreEqual ask = ⊤

-- each SetCost in the view's journal has two equal costs, a refused one too
abbrev pub HasEqualCosts : JournalsView → Type 0
HasEqualCosts journals = All (λ e. AreEqual e.ask) journals.view

-- an order explains the journals, an entry is the first wrong one, and they are stuck, exactly where by one cost
pub record AgreesByOne (journals : JournalsView) : Type 0 where
  pub explains : (order : List Part) → Explains journals order ↔ ExplainsByOne journals order
  pub wrong : (part : Part) (number : ℕ) → IsWrong journals part number ↔ IsWrongByOne journals part number
  pub stuck : (counts : Counts) → IsStuck journals counts ↔ IsStuckByOne journals counts
