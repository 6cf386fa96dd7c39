-- How a set of servers stands to a subtree, decided from the two sides. Servers as the bits of words, bit n % 64 of
-- word n / 64 the mark of server n.
use Rattle.std.specs.Prelude.{ℕ, zero, suc, Bool, true, false, cond, List, ◌≡◌, ◌<◌, ◌||◌, ◌/◌, ◌%◌, ◌==◌, slice_index}
use Rattle.std.specs.Int.{bit_at}
use Rattle.tq_shape.specs.Tree.{left_of, right_of}
use Rattle.tq_coterie.specs.{Coterie.has, declared.holding.Overlap.{Overlap, TheVariants.{Empty, Member, Neither}}}

-- from whether the top is in the set, and the parts of the sides
abbrev pub part_from_sides : Bool → Overlap → Overlap → Overlap
part_from_sides true Member Empty = Member
part_from_sides true Empty Member = Member
part_from_sides false Member Member = Member
part_from_sides false Empty Empty = Empty
part_from_sides top left right = Neither

-- the part where the set has a member of the subtree, or else nothing of it
abbrev pub member_or_empty : Bool → Overlap
member_or_empty has_member = cond has_member Member Empty

-- the part of a subtree by its height and its top
unfoldable pub part_of : ℕ → ℕ → List ℕ → Overlap
part_of zero top servers = member_or_empty (has servers top)
part_of (suc height) top servers =
    part_from_sides (has servers top) (part_of height (left_of top) servers) (part_of height (right_of top) servers)

-- ---- marks

-- whether the server is marked
abbrev pub is_marked : List ℕ → ℕ → Bool
is_marked marks server = bit_at (slice_index marks (server / 64)) (server % 64) == 1

-- the servers of the set are marked, and no others
abbrev pub AreMarksOf : List ℕ → List ℕ → Type 0
AreMarksOf marks servers = (server : ℕ) → is_marked marks server ≡ has servers server

-- the server is marked as well; all other marks are as they were
abbrev pub HasMarkMore : List ℕ → ℕ → List ℕ → Type 0
HasMarkMore before server after = (other : ℕ) → is_marked after other ≡ (server == other || is_marked before other)

-- no server between the two is marked
abbrev pub HasNoMarkBetween : List ℕ → ℕ → ℕ → Type 0
HasNoMarkBetween marks low high = (other : ℕ) → low < other → other < high → is_marked marks other ≡ false

-- how a set stands to the subtree over a server: the server's mark says whether it is in the set, those of its sides
-- whether the set has a member of them or nothing
abbrev pub part_at : List ℕ → ℕ → Overlap
part_at marks server =
    part_from_sides (is_marked marks server) (member_or_empty (is_marked marks (left_of server))) (member_or_empty (is_marked marks (right_of server)))

-- the server's mark has come to say that of the subtree over it; the others stay
pub record IsRaised (before : List ℕ) (server : ℕ) (after : List ℕ) : Type 0 where
  pub here : part_at before server ≡ member_or_empty (is_marked after server)
  pub others : (other : ℕ) → (server ≡ other → ⊥) → is_marked after other ≡ is_marked before other

-- neither the server nor a side of it is marked
pub record IsBare (marks : List ℕ) (server : ℕ) : Type 0 where
  pub own : is_marked marks server ≡ false
  pub left : is_marked marks (left_of server) ≡ false
  pub right : is_marked marks (right_of server) ≡ false
