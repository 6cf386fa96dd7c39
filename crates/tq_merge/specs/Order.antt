-- Orders of parts: the entries that an order places, one after another, and when it explains journals.
use Rattle.std.specs.Prelude.{◌≡◌, ◌≤◌, ◌==◌, ◌+◌, ℕ, suc, Bool, true, false, List, [], ◌∷◌, ◌++◌, length, take, Option, Some, None, count_by}
use Rattle.std.specs.Option.{option_map, option_to_list}
use Rattle.tq_shape.specs.declared.part.{Part.Part, Part.TheVariants.{Server, Desk, View}}
use Rattle.tq_tables.specs.{Journals.JournalsView, Parts.AreLegal}
use Rattle.tq_core.specs.{declared.answer.Step.Step, declared.citation.Citation.Citation, World.{item_at, server_entry}}
use Rattle.tq_core.specs.{Founded.{unfounded_in_node_ask, unfounded_in_desk_ask}, Steps.server_journal}
use Rattle.tq_core.specs.declared.answer.Step.TheVariants as steps
use Rattle.tq_merge.specs.declared.fault.Counts.{Counts}

-- ---- how many entries

abbrev pub same_part : Part → Part → Bool
same_part (Server a) (Server b) = a == b
same_part Desk Desk = true
same_part View View = true
same_part a b = false

-- how often the order names the part
abbrev pub times : List Part → Part → ℕ
times order part = count_by (same_part part) order

-- how many entries the part has; none where there is no such part
abbrev pub entries_of : JournalsView → Part → ℕ
entries_of journals (Server server) = length (server_journal journals server)
entries_of journals Desk = length journals.desk
entries_of journals View = length journals.view

-- of each item, numbered upwards from the first, what is made of its number and of it
abbrev pub each_from : {A B : Type 0} → (ℕ → A → B) → ℕ → List A → List B
each_from f first [] = []
each_from f first (x ∷ xs) = f first x ∷ each_from f (first + 1) xs

-- the first entries of each part, as many as are counted for it
abbrev pub firsts : JournalsView → (Part → ℕ) → JournalsView
firsts journals count =
    record {
      levels = journals.levels;
      limits = journals.limits;
      servers = each_from (λ server entries. take (count (Server server)) entries) 1 journals.servers;
      desk = take (count Desk) journals.desk;
      view = take (count View) journals.view;
    }

-- these counts, for each server upwards, for the desk and for the view
abbrev pub counts_of : JournalsView → (Part → ℕ) → Counts
counts_of journals count =
    record {
      servers = each_from (λ server entries. count (Server server)) 1 journals.servers;
      desk = count Desk;
      view = count View;
    }

-- ---- an order places entries

-- the ask of the entry of a number, as a step; none where the part has no such entry
abbrev pub step_at : JournalsView → Part → ℕ → Option Step
step_at journals (Server server) number = option_map (λ entry. steps.Node server entry.ask) (server_entry journals server number)
step_at journals Desk number = option_map (λ entry. steps.Desk entry.ask) (item_at journals.desk number)
step_at journals View number = option_map (λ entry. steps.View entry.ask) (item_at journals.view number)

-- the first citation of the step that does not stand in the world
abbrev pub unfounded_citation : JournalsView → Step → Option Citation
unfounded_citation world (steps.Node server ask) = unfounded_in_node_ask world ask
unfounded_citation world (steps.Desk ask) = unfounded_in_desk_ask world ask
unfounded_citation world (steps.View ask) = None

-- what an order places of the journals: of each part as many first entries as it names it
abbrev pub placed_journals : JournalsView → List Part → JournalsView
placed_journals journals order = firsts journals (times order)

-- the part has an entry after those that are placed, and all that it cites is placed
pub record IsNext (journals : JournalsView) (before : List Part) (part : Part) : Type 0 where
  pub step : Step
  pub is_there : step_at journals part (suc (times before part)) ≡ Some step
  pub founded : unfounded_citation (placed_journals journals before) step ≡ None

-- each part that the order names is next after those before it
abbrev pub ArePlaced : JournalsView → List Part → List Part → Type 0
ArePlaced journals before [] = Unit {0}
ArePlaced journals before (part ∷ order) = IsNext journals before part × ArePlaced journals (before ++ part ∷ []) order

-- ---- an order explains journals

-- The journals are legal; the order names each part as often as it has entries; and each entry so placed is founded in
-- the entries placed before it.
pub record Explains (journals : JournalsView) (order : List Part) : Type 0 where
  pub legal : AreLegal journals
  pub all : (part : Part) → times order part ≡ entries_of journals part
  pub founded : ArePlaced journals [] order

-- No order explains the journals, though they are legal. These counts are those of an order of first entries after which
-- no part has an entry whose citations are placed; no order of first entries places more of any part.
pub record IsStuck (journals : JournalsView) (counts : Counts) : Type 0 where
  pub legal : AreLegal journals
  pub order : List Part
  pub founded : ArePlaced journals [] order
  pub counted : counts ≡ counts_of journals (times order)
  pub blocked : (part : Part) → IsNext journals order part → ⊥
  pub greatest : (other : List Part) → ArePlaced journals [] other → (part : Part) → times other part ≤ times order part
  pub none : (other : List Part) → Explains journals other → ⊥

-- ---- the asks of an order

abbrev pub steps_from : JournalsView → List Part → List Part → List Step
steps_from journals before [] = []
steps_from journals before (part ∷ order) = option_to_list (step_at journals part (suc (times before part))) ++ steps_from journals (before ++ part ∷ []) order

-- the asks of the entries, in that order
abbrev pub asks_of : JournalsView → List Part → List Step
asks_of journals order = steps_from journals [] order
