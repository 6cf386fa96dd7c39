-- The coterie of a tree: which sets of servers are quorums, and in which order they are listed.
use Rattle.std.specs.Prelude.{ℕ, ◌-◌, ◌≤◌, zero, suc, ◌≡◌, Bool, true, not, Option, ◌==◌, ◌&&◌, ◌||◌, nat_eq, nat_lt, cond, List, [], ◌∷◌, ◌++◌, map}
use Rattle.std.specs.{Cmp.Lexicographic.pointwise, List.{find, flat_map, list_any, list_all, Contains}, Option.SomeIff}
use Rattle.tq_shape.specs.Tree.{Server, left_of, right_of, height_at}

-- A set of servers is the ascending list of their numbers.

-- the set with one server more, which it does not have yet
abbrev pub with_server : ℕ → List ℕ → List ℕ
with_server server [] = server ∷ []
with_server server (first ∷ rest) =
    cond (nat_lt server first) (server ∷ first ∷ rest) (first ∷ with_server server rest)

-- two sets joined, which have no server in common
abbrev pub union_of : List ℕ → List ℕ → List ℕ
union_of [] others = others
union_of (first ∷ rest) others = with_server first (union_of rest others)

-- each set of the one list joined with each of the other, those of the first outermost
abbrev pub joined_pairs : List (List ℕ) → List (List ℕ) → List (List ℕ)
joined_pairs lefts rights = flat_map (λ q. map (union_of q) rights) lefts

-- The members of the subtree over `top`, of that height (a leaf's is 0): `top` with each member of the left side,
-- then `top` with each member of the right side, then each member of the left side with each of the right side.
unfoldable pub members : ℕ → ℕ → List (List ℕ)
members zero top = (top ∷ []) ∷ []
members (suc height) top =
    let lefts = members height (left_of top) in
    let rights = members height (right_of top) in
    map (λ q. top ∷ q) lefts ++ map (λ p. top ∷ p) rights ++ joined_pairs lefts rights

-- the members of the subtree over a server of a tree
abbrev pub members_under : Server → List (List ℕ)
members_under top = members (height_at top) top.number

-- the members of the whole tree of that many levels: the quorums
abbrev pub coterie : ℕ → List (List ℕ)
coterie levels = members (levels - 1) 1

-- what callers see of a quorum or a blocker: its servers, and the levels of its tree
pub record ServerList : Type 0 where
  pub servers : List ℕ
  pub levels : ℕ

-- whether two lists are of one tree and have the same servers
abbrev pub is_same : ServerList → ServerList → Bool
is_same some others = some.levels == others.levels && pointwise nat_eq some.servers others.servers

-- whether the set has the server
abbrev pub has : List ℕ → ℕ → Bool
has servers server = list_any (λ first. first == server) servers

-- the servers of a tree by their numbers
abbrev pub servers_of : ℕ → List ℕ → List Server
servers_of levels numbers = map (λ number. record { number = number; levels = levels }) numbers

-- the numbers of the servers
abbrev pub numbers_of : List Server → List ℕ
numbers_of servers = map (λ server. server.number) servers

-- what callers see of these servers, of a tree of those levels
abbrev pub list_of : ℕ → List Server → ServerList
list_of levels servers = record { servers = numbers_of servers; levels = levels }

-- the answer is the list of these numbers: there is one exactly where they are the servers of a member
abbrev pub AnswersMember : Option ServerList → ℕ → List ℕ → Type 0
AnswersMember answer levels numbers =
    SomeIff answer (Contains (coterie levels) numbers) (record { servers = numbers; levels = levels })

-- the list holds the servers of a member, in order, as servers of the tree
pub record IsMemberList (levels : ℕ) (servers : List Server) : Type 0 where
  pub member : Contains (coterie levels) (numbers_of servers)
  pub tree : servers ≡ servers_of levels (numbers_of servers)

-- whether the numbers are, in this order, the servers of a member
abbrev pub is_quorum : ℕ → List ℕ → Bool
is_quorum levels numbers = list_any (pointwise nat_eq numbers) (coterie levels)

-- ---- two members of one tree have a server in common

-- a server is in both sets
abbrev pub Meets : List ℕ → List ℕ → Type 0
Meets some others = (server : ℕ) × (has some server ≡ true) × (has others server ≡ true)

-- any two members of a tree of that many levels have a server in common
abbrev pub AnyTwoMeet : ℕ → Type 0
AnyTwoMeet levels = (some others : List ℕ) → Contains (coterie levels) some → Contains (coterie levels) others → Meets some others

-- the least server of both sets
pub record IsLeastOfBoth (some others : List ℕ) (server : ℕ) : Type 0 where
  pub in_some : has some server ≡ true
  pub in_others : has others server ≡ true
  pub least : (other : ℕ) → has some other ≡ true → has others other ≡ true → server ≤ other

-- the first of the servers whose number is among those of the others
abbrev pub first_common : List Server → List Server → Option Server
first_common servers others = find (λ server. list_any (λ other. other.number == server.number) others) servers

-- ---- a set holds a member, or its complement does

-- Here a set of servers is a test of their numbers: `λ server. not (set server)` is its complement.

-- the servers that are not in the set
abbrev pub complement_of : List ℕ → ℕ → Bool
complement_of servers = λ server. not (has servers server)

-- the set has all servers of one of the members
abbrev pub holds_member : (ℕ → Bool) → List (List ℕ) → Bool
holds_member set sets = list_any (list_all set) sets

-- the set has all servers of a quorum of a tree of that many levels
abbrev pub holds_quorum : ℕ → (ℕ → Bool) → Bool
holds_quorum levels set = holds_member set (coterie levels)

-- two of the three: the top, the left side, the right side
abbrev pub two_of : Bool → Bool → Bool → Bool
two_of top left right = ((top && left) || (top && right)) || (left && right)
