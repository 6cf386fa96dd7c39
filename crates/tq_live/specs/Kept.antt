-- What is looked for: a quorum that is up at least cost for a purpose, or a blocker. Which of the three forms of
-- member is taken. What each server keeps of its subtree, and how a subtree is walked and changed. What a node is seen
-- as, and what always holds of it. What callers see of a tree of nodes.
use Rattle.std.specs.Prelude.{ℕ, Bool, not, List, Option, sum_by, cond, zero, suc, ◌+◌, ◌-◌, ◌*◌, ◌/◌, ◌%◌, ◌^◌, ◌≡◌, ◌<◌, ◌≤◌, ◌==◌, true, [], ◌∷◌, Some, None, IfSome, map, slice_set}
use Rattle.std.specs.List.{range_with_len}
use Rattle.tq_shape.specs.Tree.{height_of, IsServer, left_of, right_of, depth_of}
use Rattle.tq_live.specs.Least.{least_member, weight_by, is_less, plus, lesser, changed_set, pair}
use Rattle.tq_live.specs.{Live.{Live, cost_of, is_up, costs_of}, declared.{least.SearchFor.SearchFor, weight.Form.Form}}
use Rattle.tq_live.specs.declared.{least.SearchFor.TheVariants.{Quorum, Blocker}, costs.Costs.Costs, node.Below.Below}
use Rattle.tq_live.specs.declared.{weight.Form.TheVariants.{WithLeft, WithRight, BothSides}, purpose.Purpose.Purpose}
use Rattle.tq_live.specs.{Costs.{cost_to, even_costs, AreLow}, Subtree.{Subtree, Alone, Over, leaves}}
use Rattle.tq_live.specs.declared.{purpose.Purpose.TheVariants.{Read, Write}, tree.cache.{Cache.Cache, Column.Column}}
use Rattle.tq_live.specs.declared.costs.Setting.{Setting, TheVariants.{Cost, Mark}}
use Rattle.tq_live.specs.declared.node.Below.TheVariants as belows

-- what a server costs
abbrev pub cost_for : Live → SearchFor → ℕ → ℕ
cost_for live (Quorum purpose) server = cost_of live purpose server
cost_for live Blocker server = 0

-- whether a server may be taken
abbrev pub allowed_for : Live → SearchFor → ℕ → Bool
allowed_for live (Quorum purpose) server = is_up live server
allowed_for live Blocker server = not (is_up live server)

-- what is looked for in the subtree of the server
abbrev pub found_set : Live → SearchFor → ℕ → Option (List ℕ)
found_set live sought server = least_member (cost_for live sought) (allowed_for live sought) (height_of live.levels server) server

-- the weight of what is found
abbrev pub found_weight : Live → SearchFor → ℕ → Option ℕ
found_weight live sought server = weight_by (sum_by (cost_for live sought)) (found_set live sought server)

-- ---- kept

-- from whether the right side is better than the left, and both sides than the top with the better one
abbrev pub form_taken : Bool → Bool → Form
form_taken goes_right takes_both = cond takes_both BothSides (cond goes_right WithRight WithLeft)

-- from the weight of the top and those of its sides: both sides where they are less than the top with one of them, and else
-- the top with the lesser side
abbrev pub form_of : Option ℕ → Option ℕ → Option ℕ → Form
form_of top left right =
    cond (is_less (plus left right) (lesser (plus top left) (plus top right))) BothSides
    (cond (is_less right left) WithRight WithLeft)

-- what a member of each form is, of these the one of that form
abbrev pub by_form : Form → Option (List ℕ) → Option (List ℕ) → Option (List ℕ) → Option (List ℕ)
by_form WithLeft with_left with_right both = with_left
by_form WithRight with_left with_right both = with_right
by_form BothSides with_left with_right both = both

-- ---- kept

-- the weight of a server, if it may be taken
abbrev pub weight_here : SearchFor → Costs → Bool → Option ℕ
weight_here (Quorum purpose) costs up = cond up (Some (cost_to purpose costs)) None
weight_here Blocker costs up = cond up None (Some 0)

-- the weight of a server over two sides, from theirs
abbrev pub weight_over : Option ℕ → Option ℕ → Option ℕ → Option ℕ
weight_over here left right = lesser (lesser (plus here left) (plus here right)) (plus left right)

-- the weight of the first least member of a subtree
abbrev pub weight_of : SearchFor → Subtree → Option ℕ
weight_of sought (Alone costs up) = weight_here sought costs up
weight_of sought (Over costs up left right) = weight_over (weight_here sought costs up) (weight_of sought left) (weight_of sought right)

-- for each purpose the weight, where there is one, is at most a million for each leaf
abbrev pub IsLight : Subtree → Type 0
IsLight tree = (purpose : Purpose) → IfSome (weight_of (Quorum purpose) tree) (λ w. w ≤ 1000000 * leaves tree)

-- the weight of a blocker, from whether a quorum is up
abbrev pub blocker_weight : Bool → Option ℕ
blocker_weight is_up = cond is_up None (Some 0)

-- which form it has
abbrev pub form_in : SearchFor → Subtree → Form
form_in sought (Alone costs up) = WithLeft
form_in sought (Over costs up left right) = form_of (weight_here sought costs up) (weight_of sought left) (weight_of sought right)

-- what a server keeps of its subtree
abbrev pub cache_of : Subtree → Cache
cache_of tree = record {
  read = weight_of (Quorum Read) tree;
  write = weight_of (Quorum Write) tree;
  read_form = form_in (Quorum Read) tree;
  write_form = form_in (Quorum Write) tree;
  blocker = form_in Blocker tree;
}

-- the weight in it for a purpose
abbrev pub least_kept : Purpose → Cache → Option ℕ
least_kept Read cache = cache.read
least_kept Write cache = cache.write

-- the form in it of what is sought
abbrev pub form_kept : SearchFor → Cache → Form
form_kept (Quorum Read) cache = cache.read_form
form_kept (Quorum Write) cache = cache.write_form
form_kept Blocker cache = cache.blocker

-- a blocker weighs nothing, and is there where no quorum is
abbrev pub other_weight : Option ℕ → Option ℕ
other_weight None = Some 0
other_weight (Some weight) = None

-- what a server keeps for one purpose, from its weight and those of its sides
abbrev pub column_over : Option ℕ → Option ℕ → Option ℕ → Column
column_over here left right = record { least = weight_over here left right; form = form_of here left right }

-- ---- the way from the top to a server

-- whether the way to the server turns left where so many steps are left after the turn
abbrev pub goes_left_at : ℕ → ℕ → Bool
goes_left_at number steps = number / 2 ^ steps % 2 == 0

-- the subtree of a server that stands so many steps below the top
abbrev pub under : Subtree → ℕ → ℕ → Subtree
under (Alone costs up) steps number = Alone costs up
under (Over costs up left right) steps number =
    cond (steps == 0) (Over costs up left right) (cond (goes_left_at number (steps - 1)) (under left (steps - 1) number) (under right (steps - 1) number))

-- the costs of a server after a change of it
abbrev pub costs_after : Setting → Costs → Costs
costs_after (Cost costs) before = costs
costs_after (Mark up) before = before

-- the mark of a server after a change of it
abbrev pub mark_after : Setting → Bool → Bool
mark_after (Cost costs) before = before
mark_after (Mark up) before = up

-- the same tree with the change at that server
abbrev pub changed_under : Subtree → ℕ → ℕ → Setting → Subtree
changed_under (Alone costs up) steps number change = Alone (costs_after change costs) (mark_after change up)
changed_under (Over costs up left right) steps number change =
    cond (steps == 0) (Over (costs_after change costs) (mark_after change up) left right)
    (cond (goes_left_at number (steps - 1)) (Over costs up (changed_under left (steps - 1) number change) right) (Over costs up left (changed_under right (steps - 1) number change)))

-- how many caches lie on the way, the top's and the server's among them
abbrev pub caches_on_way : Subtree → ℕ → ℕ → ℕ
caches_on_way (Alone costs up) steps number = 1
caches_on_way (Over costs up left right) steps number =
    cond (steps == 0) 1 (1 + cond (goes_left_at number (steps - 1)) (caches_on_way left (steps - 1) number) (caches_on_way right (steps - 1) number))

-- ---- what is found

-- a server of that mark may be taken
abbrev pub allowed_here : SearchFor → Bool → Bool
allowed_here (Quorum purpose) up = up
allowed_here Blocker up = not up

-- a set found below with the top, if that may be taken
abbrev pub with_here : SearchFor → Bool → ℕ → Option (List ℕ) → Option (List ℕ)
with_here sought up top found = cond (allowed_here sought up) (changed_set (λ set. top ∷ set) found) None

-- the first least member of the subtree of the server of that number
abbrev pub found_in : SearchFor → ℕ → Subtree → Option (List ℕ)
found_in sought top (Alone costs up) = cond (allowed_here sought up) (Some (top ∷ [])) None
found_in sought top (Over costs up left right) =
    let in_left = found_in sought (left_of top) left in
    let in_right = found_in sought (right_of top) right in
    by_form (form_in sought (Over costs up left right)) (with_here sought up top in_left) (with_here sought up top in_right) (pair in_left in_right)

-- the tree has servers of all numbers of the subtree
abbrev pub StandsAt : ℕ → ℕ → Subtree → Type 0
StandsAt levels top (Alone costs up) = IsServer levels top
StandsAt levels top (Over costs up left right) = IsServer levels top × (StandsAt levels (left_of top) left × StandsAt levels (right_of top) right)

-- ---- whole trees

-- all ways down are of that length
abbrev pub IsComplete : ℕ → Subtree → Type 0
IsComplete height (Alone costs up) = height ≡ 0
IsComplete height (Over costs up left right) = (0 < height) × (IsComplete (height - 1) left × IsComplete (height - 1) right)

-- every server at cost 1 and up
abbrev pub even : ℕ → Subtree
even zero = Alone (even_costs 1) true
even (suc height) = Over (even_costs 1) true (even height) (even height)

-- the costs and the mark of the top
abbrev pub top_of : Subtree → Costs × Bool
top_of (Alone costs up) = (costs, up)
top_of (Over costs up left right) = (costs, up)

-- ---- below

-- the subtree of a node of these costs and this mark, over its sides if it has such
abbrev pub subtree_of : Costs → Bool → Below → Subtree
subtree_of costs up belows.Nothing = Alone costs up
subtree_of costs up (belows.Over sides) = Over costs up sides.value.left sides.value.right

-- the cache is that of the subtree; there are at most 512 leaves, and each cost is at most a million
pub record IsKept (costs : Costs) (up : Bool) (below : Below) (cache : Cache) : Type 0 where
  pub kept : cache ≡ cache_of (subtree_of costs up below)
  pub bounded : AreLow costs
  pub fits : IsLight (subtree_of costs up below)
  pub small : leaves (subtree_of costs up below) ≤ 512

-- ---- live of

-- the costs and the mark of a server
abbrev pub seen_at : Subtree → ℕ → Costs × Bool
seen_at tree number = top_of (under tree (depth_of number) number)

-- the costs of a server
abbrev pub costs_at : Subtree → ℕ → Costs
costs_at tree number = let seen = seen_at tree number in seen.0

-- the mark of a server
abbrev pub mark_at : Subtree → ℕ → Bool
mark_at tree number = let seen = seen_at tree number in seen.1

-- those of each server, upwards from server 1
abbrev pub live_of : ℕ → Subtree → Live
live_of levels tree = record {
  levels = levels;
  costs = map (costs_at tree) (range_with_len 1 (2 ^ levels - 1));
  up = map (mark_at tree) (range_with_len 1 (2 ^ levels - 1));
}

-- all levels are there
pub record IsWhole (levels : ℕ) (tree : Subtree) : Type 0 where
  pub least : 1 ≤ levels
  pub complete : IsComplete (levels - 1) tree

-- the subtree is that of the server: its costs and marks are those of the servers that stand in it
abbrev pub IsAt : Live → ℕ → Subtree → Type 0
IsAt live top (Alone costs up) =
    IsServer live.levels top × (height_of live.levels top ≡ 0) × (costs_of live top ≡ costs) × (is_up live top ≡ up)
IsAt live top (Over costs up left right) =
    IsServer live.levels top
    × (height_of live.levels top ≡ suc (height_of live.levels (left_of top)))
    × (height_of live.levels top ≡ suc (height_of live.levels (right_of top)))
    × (costs_of live top ≡ costs)
    × (is_up live top ≡ up)
    × IsAt live (left_of top) left
    × IsAt live (right_of top) right

-- the same tree with the change at a server
abbrev pub changed_live : Live → ℕ → Setting → Live
changed_live live server (Cost costs) = record live { costs = slice_set live.costs (server - 1) costs }
changed_live live server (Mark up) = record live { up = slice_set live.up (server - 1) up }
