-- The shape of the tree: the servers of a tree of L levels are the numbers from 1 to 2^L - 1. How deep a server
-- stands: server 1 at depth 0, and a side one deeper than its parent.
use Rattle.std.specs.Prelude.{◌≡◌, ℕ, ◌+◌, ◌*◌, ◌/◌, ◌^◌, ◌<◌, Bool, ◌||◌, ◌==◌, zero, suc, Option, ◌-◌, cond, nat_lt}
use Rattle.std.specs.Option.{SomeIff}

-- a server of a tree: its number, and the levels of its tree
pub record Server : Type 0 where
  pub number : ℕ
  pub levels : ℕ

-- the number is one of the tree
abbrev pub IsServer : ℕ → ℕ → Type 0
IsServer levels number = (0 < number) × (number < 2 ^ levels)

-- the server of that number in a tree of those levels
abbrev pub server_numbered : ℕ → ℕ → Server
server_numbered levels number = record { number = number; levels = levels }

-- the answer is the server of that number: there is one exactly where the tree has it
abbrev pub AnswersServer : Option Server → ℕ → ℕ → Type 0
AnswersServer answer levels number = SomeIff answer (IsServer levels number) (server_numbered levels number)

-- the number of the side to the left
abbrev pub left_of : ℕ → ℕ
left_of number = 2 * number

-- the number of the side to the right
abbrev pub right_of : ℕ → ℕ
right_of number = 2 * number + 1

-- a server stands in the subtree over `top`, of that height (a leaf's is 0): it is `top`, or stands in that of a side
unfoldable pub stands_in : ℕ → ℕ → ℕ → Bool
stands_in zero top number = top == number
stands_in (suc height) top number =
    top == number || (stands_in height (left_of top) number || stands_in height (right_of top) number)

-- the server so many steps to the parent above
unfoldable pub ancestor : ℕ → ℕ → ℕ
ancestor zero number = number
ancestor (suc steps) number = ancestor steps number / 2

-- a server is another one, or stands above it: so many steps to the parent lead from the other to it
abbrev pub IsAtOrAbove : ℕ → ℕ → Type 0
IsAtOrAbove above below = (steps : ℕ) × (ancestor steps below ≡ above)

-- of the two sides of a server, the one that is another server or stands above it
pub record IsSideTowards (top side : Server) (below : ℕ) : Type 0 where
  pub tree : side.levels ≡ top.levels
  pub parent : side.number / 2 ≡ top.number
  pub above : IsAtOrAbove side.number below

-- neither side of a server is another server, nor stands above it
abbrev pub HasNoSideTowards : Server → ℕ → Type 0
HasNoSideTowards top below = (¬ IsAtOrAbove (left_of top.number) below) × (¬ IsAtOrAbove (right_of top.number) below)

-- ---- depth

-- the depth, by at most as many steps to the parent as the first number says
unfoldable pub depth_within : ℕ → ℕ → ℕ
depth_within zero number = 0
depth_within (suc steps) number = cond (nat_lt number 2) 0 (1 + depth_within steps (number / 2))

-- how many steps to the parent lead from a server to server 1
unfoldable pub depth_of : ℕ → ℕ
depth_of number = depth_within number number

-- how many levels stand below a server of a tree of that many levels: 0 for a leaf
unfoldable pub height_of : ℕ → ℕ → ℕ
height_of levels number = levels - (depth_of number + 1)

-- the same, of a server of a tree
abbrev pub height_at : Server → ℕ
height_at server = height_of server.levels server.number
