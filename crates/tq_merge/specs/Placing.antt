-- The citations of an ask. What is kept while entries are placed.
use Rattle.std.specs.Prelude.{List, [], ◌∷◌, ◌++◌, map, ◌≡◌, ◌≤◌, ◌&&◌, ◌+◌, ◌-◌, ℕ, suc, Bool, true, false, nat_le, is_none, length, take, Some}
use Rattle.std.specs.Option.{option_to_list, option_map_or}
use Rattle.tq_shape.specs.{declared.part.Part.TheVariants.{Server, Desk, View}, Journal.Has, declared.part.Part.Part}
use Rattle.tq_asks.specs.declared.ask.{CitedVote.CitedVote, NodeAsk.NodeAsk}
use Rattle.tq_desk.specs.{declared.ask.DeskAsk.DeskAsk, DeskJournal.DeskEntry}
use Rattle.tq_desk.specs.declared.ask.DeskAsk.TheVariants as desk_asks
use Rattle.tq_evidence.specs.declared.op.Op.{Op}
use Rattle.tq_core.specs.{declared.answer.Step.Step, declared.citation.Citation.Citation, World.item_at}
use Rattle.tq_core.specs.Founded.{cited_grant, cited_vote, cited_in_node_ask, unfounded_in_desk_ask, unfounded_in_node_ask}
use Rattle.tq_core.specs.declared.answer.Step.TheVariants as steps
use Rattle.tq_tables.specs.Journals.{JournalsView}
use Rattle.tq_merge.specs.Order.{times, each_from, counts_of, IsNext, ArePlaced}

-- those of ops: their grants, op by op
abbrev pub cited_in_ops : List Op → List Citation
cited_in_ops [] = []
cited_in_ops (op ∷ ops) = map cited_grant op.grants ++ cited_in_ops ops

-- those of a desk's ask: of a Commit the grants and then the votes
abbrev pub cited_in_desk_ask : DeskAsk → List Citation
cited_in_desk_ask (desk_asks.Commit txn ops votes) = cited_in_ops ops ++ map cited_vote votes
cited_in_desk_ask ask = []

-- those of a step; a server's ask has one or none
abbrev pub cited_in : Step → List Citation
cited_in (steps.Node server ask) = option_to_list (cited_in_node_ask ask)
cited_in (steps.Desk ask) = cited_in_desk_ask ask
cited_in (steps.View ask) = []

-- the citation of an entry of a server
abbrev pub entry_cited : CitedVote → Citation
entry_cited entry = record { part = Server entry.server; number = entry.number }

-- ---- placing

-- the journals, and the order of the entries placed so far
pub record PlacingView : Type 0 where
  pub journals : JournalsView
  pub order : List Part

-- the entry is placed, where so many of each server are
abbrev pub is_placed : List ℕ → CitedVote → Bool
is_placed counts entry = option_map_or (λ count. nat_le entry.number count) (item_at counts entry.server) false

-- the same of an entry of any part, where so many of the desk are placed, and all of the view
abbrev pub is_placed_at : List ℕ → ℕ → Part → ℕ → Bool
is_placed_at counts desk (Server server) number = is_placed counts (record { server = server; number = number })
is_placed_at counts desk Desk number = nat_le number desk
is_placed_at counts desk View number = true

abbrev pub is_citation_placed : List ℕ → ℕ → Citation → Bool
is_citation_placed counts desk cited = is_placed_at counts desk cited.part cited.number

-- what a server's ask cites is placed
abbrev pub is_placed_in_node_ask : List ℕ → ℕ → NodeAsk → Bool
is_placed_in_node_ask counts desk ask = option_map_or (is_citation_placed counts desk) (cited_in_node_ask ask) true

-- a server's ask can be placed: what it cites is placed, and stands in the journals
abbrev pub is_ready : JournalsView → List ℕ → ℕ → NodeAsk → Bool
is_ready journals counts desk ask = is_placed_in_node_ask counts desk ask && is_none (unfounded_in_node_ask journals ask)

-- of a desk's entry: whether all that it cites stands in the journals, and the entries that it cites
pub record IsWanted (journals : JournalsView) (stands : Bool) (wanted : List CitedVote) (next : DeskEntry) : Type 0 where
  pub stand : stands ≡ is_none (unfounded_in_desk_ask journals next.ask)
  pub cited : map entry_cited wanted ≡ cited_in_desk_ask next.ask

-- the desk's next entry, where so many are placed, is that one
abbrev pub IsNextWanted : JournalsView → ℕ → Bool → List CitedVote → Type 0
IsNextWanted journals count stands wanted = (e : DeskEntry) → item_at journals.desk (suc count) ≡ Some e → IsWanted journals stands wanted e

-- each entry of the order is placed in its turn; the counts are its own; all entries of the view are placed, and the first
-- so many that the desk's next entry cites
pub record IsPlacing (journals : JournalsView) (order : List Part) (servers : List ℕ) (desk : ℕ) (stands : Bool) (wanted : List CitedVote) (met : ℕ) : Type 0 where
  pub founded : ArePlaced journals [] order
  pub of_servers : servers ≡ (counts_of journals (times order)).servers
  pub of_desk : desk ≡ times order Desk
  pub of_view : times order View ≡ length journals.view
  pub next : IsNextWanted journals desk stands wanted
  pub seen : (entry : CitedVote) → Has (take met wanted) entry → entry.number ≤ times order (Server entry.server)
  pub within : met ≤ length wanted

abbrev pub sum_of : List ℕ → ℕ
sum_of [] = 0
sum_of (n ∷ ns) = n + sum_of ns

-- how many entries of the servers and of the desk an order leaves
abbrev pub entries_left : JournalsView → List Part → ℕ
entries_left journals order =
    sum_of (each_from (λ server entries. length entries - times order (Server server)) 1 journals.servers) + (length journals.desk - times order Desk)

-- no part has an entry that can be placed
abbrev pub IsDone : JournalsView → List Part → Type 0
IsDone journals order = (part : Part) → IsNext journals order part → ⊥
