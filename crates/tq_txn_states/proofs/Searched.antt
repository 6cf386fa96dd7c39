-- Sets of servers by their numbers. The place that a search by halves finds among values that ascend by their numbers.
-- Of the grants of an operation, whose servers ascend, one at most is of a server.
use Rattle.std.proofs.Common.{◌≡◌, ℕ, ◌-◌, ◌<◌, Bool, true, false, ◌&&◌, ◌||◌, ◌==◌, cond, List, [], ◌∷◌, Some, length, take, drop, slice_get, nat_lt, map, refl, sym, ap, ◌∙◌, subst, arith, zero, suc, ◌≤◌, set, get_or, not, Option}
use Rattle.std.proofs.{Math.Bool.{or_assoc, or_comm, or-false, and-true}, lemmas.Bool.Decides.nat_tests}
use Rattle.std.proofs.lemmas.Bool.{and_parts, and_from, eqb-true, lt-ltb, or_parts, or_right, false≢true, or_left, eq-eqb, le-ltb}
use Rattle.std.{proofs.lemmas.Option.none-some, specs.{List.{list_all, list_any, insert}, Option.option_map_or}}
use Rattle.std.specs.List.Sorted.{IsPartitionPoint, IsPartitionedBy}
use Rattle.tq_shape.specs.{ServerSet.Ascends, Tree.Server}
use Rattle.tq_coterie.{specs.Coterie.{has, numbers_of, with_server, is_quorum}, proofs.Sets.has-with_server}
use Rattle.tq_evidence.specs.Evidence.{rises, covers, granters, servers_of, has_quorum, are_quorums, are_in_order}
use Rattle.tq_evidence.specs.declared.{grant.Grant.Grant, op.Op.Op, vote.Vote.Vote}
use Rattle.tq_txn_states.specs.Open.{IsWithin, put, with_number, with_numbers, with_first_changed}
use Rattle.tq_txn_states.specs.Voting.{covers_grant, is_granter_at}

absorbed : (a b : Bool) → (a ≡ true → b ≡ true) → b ≡ (a || b)
absorbed true b h = h refl
absorbed false b h = refl

pub has-with_number : (xs : List ℕ) (y n : ℕ) → has (with_number xs y) n ≡ ((y == n) || has xs n)
has-with_number xs y n =
    elim (has xs y) as (λ b. has xs y ≡ b → has (cond b xs (with_server y xs)) n ≡ ((y == n) || has xs n)) [
      | true ↦ λ is. absorbed (y == n) (has xs n) (λ same. subst (λ m. has xs m ≡ true) (eqb-true y n same) is)
      | false ↦ λ is. has-with_server y n xs
    ] refl

-- a set keeps its servers when one is put in
pub within-with_number : (xs : List ℕ) (y : ℕ) → IsWithin xs (with_number xs y)
within-with_number xs y n here = has-with_number xs y n ∙ or_right (y == n) (has xs n) here

pub has-with_numbers : (xs ys : List ℕ) (n : ℕ) → has (with_numbers xs ys) n ≡ (has ys n || has xs n)
has-with_numbers xs [] n = refl
has-with_numbers xs (y ∷ ys) n =
    has-with_numbers (with_number xs y) ys n
    ∙ ap (λ b. has ys n || b) (has-with_number xs y n)
    ∙ sym (or_assoc (has ys n) (y == n) (has xs n)) ∙ ap (λ b. b || has xs n) (or_comm (has ys n) (y == n))

pub has-map : {X : Type 0} (number : X → ℕ) (xs : List X) (n : ℕ) → has (map number xs) n ≡ list_any (λ x. number x == n) xs
has-map number [] n = refl
has-map number (x ∷ xs) n = ap (λ b. (number x == n) || b) (has-map number xs n)

-- a value put before the first of a greater number
pub map-put : {X : Type 0} (number : X → ℕ) (x : X) (xs : List X) → map number (put (λ y. nat_lt (number x) (number y)) x xs) ≡ with_server (number x) (map number xs)
map-put number x [] = refl
map-put number x (first ∷ rest) =
    elim (nat_lt (number x) (number first)) as (λ b. map number (cond b (x ∷ first ∷ rest) (first ∷ put (λ y. nat_lt (number x) (number y)) x rest)) ≡ cond b (number x ∷ number first ∷ map number rest) (number first ∷ with_server (number x) (map number rest))) [
      | true ↦ refl
      | false ↦ ap (λ ns. number first ∷ ns) (map-put number x rest)
    ]

-- the numbers strictly ascend from above another
abbrev pub rises_from : ℕ → List ℕ → Bool
rises_from low [] = true
rises_from low (first ∷ rest) = nat_lt low first && rises_from first rest

pub rises-from : (first : ℕ) (rest : List ℕ) → rises (first ∷ rest) ≡ rises_from first rest
rises-from first [] = refl
rises-from first (second ∷ rest) = ap (λ b. nat_lt first second && b) (rises-from second rest)

pub rises_rest : (first : ℕ) (rest : List ℕ) → rises (first ∷ rest) ≡ true → rises rest ≡ true
rises_rest first [] up = refl
rises_rest first (second ∷ rest) up = (and_parts (nat_lt first second) (rises (second ∷ rest)) up).1

above : (a b : ℕ) → nat_lt a b ≡ false → (b == a) ≡ false → b < a
above a b more other = grind (arith, nat_tests)

from-with_server : (low number : ℕ) (ns : List ℕ) → nat_lt low number ≡ true → has ns number ≡ false → rises_from low ns ≡ true → rises_from low (with_server number ns) ≡ true
from-with_server low number [] less new up = and_from (nat_lt low number) true less refl
from-with_server low number (first ∷ rest) less new up =
    let parts = and_parts (nat_lt low first) (rises_from first rest) up in
    let others = or_parts (first == number) (has rest number) new in
    elim (nat_lt number first) as (λ b. nat_lt number first ≡ b → rises_from low (cond b (number ∷ first ∷ rest) (first ∷ with_server number rest)) ≡ true) [
      | true ↦ λ is. and_from (nat_lt low number) (nat_lt number first && rises_from first rest) less (and_from (nat_lt number first) (rises_from first rest) is parts.1)
      | false ↦ λ is. and_from (nat_lt low first) (rises_from first (with_server number rest)) parts.0 (from-with_server first number rest (lt-ltb first number (above number first is others.0)) others.1 parts.1)
    ] refl

pub rises-with_server : (number : ℕ) (ns : List ℕ) → has ns number ≡ false → rises ns ≡ true → rises (with_server number ns) ≡ true
rises-with_server number [] new up = refl
rises-with_server number (first ∷ rest) new up =
    let others = or_parts (first == number) (has rest number) new in
    let tail = sym (rises-from first rest) ∙ up in
    elim (nat_lt number first) as (λ b. nat_lt number first ≡ b → rises (cond b (number ∷ first ∷ rest) (first ∷ with_server number rest)) ≡ true) [
      | true ↦ λ is. rises-from number (first ∷ rest) ∙ and_from (nat_lt number first) (rises_from first rest) is tail
      | false ↦ λ is. rises-from first (with_server number rest) ∙ from-with_server first number rest (lt-ltb first number (above number first is others.0)) others.1 tail
    ] refl

-- who is in a set that has the servers of another
pub has-all : (p : ℕ → Bool) (ns : List ℕ) (n : ℕ) → list_all p ns ≡ true → has ns n ≡ true → p n ≡ true
has-all p [] n all here = absurd (false≢true here)
has-all p (first ∷ rest) n all here =
    let parts = and_parts (p first) (list_all p rest) all in
    elim (first == n) as (λ b. (first == n) ≡ b → (b || has rest n) ≡ true → p n ≡ true) [
      | true ↦ λ is _. subst (λ m. p m ≡ true) (eqb-true first n is) parts.0
      | false ↦ λ is more. has-all p rest n parts.1 more
    ] refl here

take_whole : {X : Type 0} (xs : List X) → take (length xs) xs ≡ xs
take_whole [] = refl
take_whole (x ∷ xs) = ap (λ ys. x ∷ ys) (take_whole xs)

-- a set has still more with a further number
pub all_later : (first : ℕ) (set numbers : List ℕ) → list_all (has set) numbers ≡ true → list_all (has (first ∷ set)) numbers ≡ true
all_later first set [] all = refl
all_later first set (number ∷ numbers) all =
    let parts = and_parts (has set number) (list_all (has set) numbers) all in
    and_from (has (first ∷ set) number) (list_all (has (first ∷ set)) numbers) (or_right (first == number) (has set number) parts.0) (all_later first set numbers parts.1)

pub all_after : (ids : List Server) (numbers : List ℕ) → list_all (has (numbers_of (take (length ids - 1) (drop 1 ids)))) numbers ≡ true → list_all (has (numbers_of ids)) numbers ≡ true
all_after [] numbers all = all
all_after (id ∷ ids) numbers all =
    let len : length (id ∷ ids) - 1 ≡ length ids = omega arith in
    let rest : take (length (id ∷ ids) - 1) ids ≡ ids = ap (λ n. take n ids) len ∙ take_whole ids in
    all_later id.number (numbers_of ids) numbers (subst (λ left. list_all (has (numbers_of left)) numbers ≡ true) rest all)

-- a set that has each of the servers does not grow by them
pub with_numbers-held : (set numbers : List ℕ) → list_all (has set) numbers ≡ true → with_numbers set numbers ≡ set
with_numbers-held set [] all = refl
with_numbers-held set (number ∷ numbers) all =
    let parts = and_parts (has set number) (list_all (has set) numbers) all in
    ap (λ b. with_numbers (cond b set (with_server number set)) numbers) parts.0 ∙ with_numbers-held set numbers parts.1

pub lower : (a b c : ℕ) → nat_lt a b ≡ true → nat_lt b c ≡ true → nat_lt a c ≡ true
lower a b c less more = grind (arith, nat_tests)

pub other_below : (a b : ℕ) → nat_lt a b ≡ true → (a == b) ≡ false
other_below a b less = grind (arith, nat_tests)

pub not_above : (a b : ℕ) → nat_lt a b ≡ true → nat_lt b a ≡ false
not_above a b less = grind (arith, nat_tests)

module _ {X : Type 0} (number : X → ℕ) where
  below_from : (first : X) (rest : List X) (last : X) (n : ℕ) → rises (map number (first ∷ rest)) ≡ true → slice_get (first ∷ rest) (length rest) ≡ Some last → nat_lt (number last) n ≡ true → list_all (λ x. nat_lt (number x) n) (first ∷ rest) ≡ true
  below_from first [] last n up is less =
      let same : first ≡ last = cc in
      and_from (nat_lt (number first) n) true (subst (λ (x : X). nat_lt (number x) n ≡ true) (sym same) less) refl
  below_from first (second ∷ rest) last n up is less =
      let parts = and_parts (nat_lt (number first) (number second)) (rises (map number (second ∷ rest))) up in
      let later = below_from second rest last n parts.1 is less in
      let here = and_parts (nat_lt (number second) n) (list_all (λ x. nat_lt (number x) n) rest) later in
      and_from (nat_lt (number first) n) (list_all (λ x. nat_lt (number x) n) (second ∷ rest)) (lower (number first) (number second) n parts.0 here.0) later

  -- values in ascending order are all below a number that the last of them is below
  pub below_last : (xs : List X) (last : X) (n : ℕ) → rises (map number xs) ≡ true → slice_get xs (length xs - 1) ≡ Some last → nat_lt (number last) n ≡ true → list_all (λ x. nat_lt (number x) n) xs ≡ true
  below_last [] last n up is less = refl
  below_last (first ∷ rest) last n up is less =
      let place : length (first ∷ rest) - 1 ≡ length rest = omega arith in
      below_from first rest last n up (ap (slice_get (first ∷ rest)) (sym place) ∙ is) less

  -- a number above all the others is not among them
  pub none_below : (n : ℕ) (xs : List X) → list_all (λ x. nat_lt (number x) n) xs ≡ true → list_any (λ x. number x == n) xs ≡ false
  none_below n [] all = refl
  none_below n (first ∷ rest) all =
      let parts = and_parts (nat_lt (number first) n) (list_all (λ x. nat_lt (number x) n) rest) all in
      rw (other_below (number first) n parts.0) (none_below n rest parts.1)

from_ascends : (low : ℕ) (ns : List ℕ) → Ascends low ns → rises_from low ns ≡ true
from_ascends low [] up = refl
from_ascends low (first ∷ rest) up = and_from (nat_lt low first) (rises_from first rest) (lt-ltb low first up.0) (from_ascends first rest up.1)

pub rises-ascends : (low : ℕ) (ns : List ℕ) → Ascends low ns → rises ns ≡ true
rises-ascends low [] up = refl
rises-ascends low (first ∷ rest) up = rises-from first rest ∙ from_ascends first rest up.1

-- ---- searched

beyond : (a b n : ℕ) → nat_lt a n ≡ false → nat_lt a b ≡ true → (b == n) ≡ false
beyond a b n from less = grind (arith, nat_tests)

pub still_beyond : (a b n : ℕ) → nat_lt a n ≡ false → nat_lt a b ≡ true → nat_lt b n ≡ false
still_beyond a b n from less = grind (arith, nat_tests)

after : (a b : ℕ) → nat_lt a b ≡ false → (a == b) ≡ false → nat_lt b a ≡ true
after a b more other = grind (arith, nat_tests)

module _ {X : Type 0} (number : X → ℕ) where
  under_first : (first : X) (rest : List X) (n j : ℕ) (d : X) → rises_from (number first) (map number rest) ≡ true → j < length rest → nat_lt (number (get_or rest j d)) n ≡ true → nat_lt (number first) n ≡ true
  under_first first [] n j d up within is = absurd (omega (arith, within))
  under_first first (second ∷ rest) n zero d up within is =
      let parts = and_parts (nat_lt (number first) (number second)) (rises_from (number second) (map number rest)) up in
      lower (number first) (number second) n parts.0 is
  under_first first (second ∷ rest) n (suc j) d up within is =
      let parts = and_parts (nat_lt (number first) (number second)) (rises_from (number second) (map number rest)) up in
      lower (number first) (number second) n parts.0 (under_first second rest n j d parts.1 (omega (arith, within)) is)

  -- the values below a number stand before the others
  pub parted : (n : ℕ) (xs : List X) → rises (map number xs) ≡ true → IsPartitionedBy (λ x. nat_lt (number x) n) xs
  parted n [] up i j d le within is = absurd (omega (arith, within))
  parted n (first ∷ rest) up zero zero d le within is = is
  parted n (first ∷ rest) up zero (suc j) d le within is =
      under_first first rest n j d (sym (rises-from (number first) (map number rest)) ∙ up) (omega (arith, within)) is
  parted n (first ∷ rest) up (suc i) zero d le within is = absurd (omega (arith, le))
  parted n (first ∷ rest) up (suc i) (suc j) d le within is =
      parted n rest (rises_rest (number first) (map number rest) up) i j d (omega (arith, le)) (omega (arith, within)) is

  -- where it stands it is there
  pub stands_there : (n : ℕ) (xs : List X) (place : ℕ) → option_map_or (λ x. number x == n) (slice_get xs place) false ≡ true → list_any (λ x. number x == n) xs ≡ true
  stands_there n [] place is = absurd (false≢true is)
  stands_there n (first ∷ rest) zero is = or_left (number first == n) (list_any (λ x. number x == n) rest) is
  stands_there n (first ∷ rest) (suc place) is = or_right (number first == n) (list_any (λ x. number x == n) rest) (stands_there n rest place is)

  none_beyond : (low n : ℕ) (xs : List X) → nat_lt low n ≡ false → rises_from low (map number xs) ≡ true → list_any (λ x. number x == n) xs ≡ false
  none_beyond low n [] from up = refl
  none_beyond low n (first ∷ rest) from up =
      let parts = and_parts (nat_lt low (number first)) (rises_from (number first) (map number rest)) up in
      rw (beyond low (number first) n from parts.0) (none_beyond (number first) n rest (still_beyond low (number first) n from parts.0) parts.1)

  -- the number stands at the place, or nowhere
  pub found_at : (n : ℕ) (xs : List X) (place : ℕ) → rises (map number xs) ≡ true → IsPartitionPoint (λ x. nat_lt (number x) n ≡ true) (λ x. nat_lt (number x) n ≡ false) xs place
      → list_any (λ x. number x == n) xs ≡ option_map_or (λ x. number x == n) (slice_get xs place) false
  found_at n [] place up point = refl
  found_at n (first ∷ rest) zero up point =
      ap (λ b. (number first == n) || b) (none_beyond (number first) n rest (point.1 0 first (omega arith) (omega arith)) (sym (rises-from (number first) (map number rest)) ∙ up))
      ∙ or-false (number first == n)
  found_at n (first ∷ rest) (suc place) up point =
      rw (other_below (number first) n (point.0 0 first (omega arith) (omega arith)))
      (found_at n rest place (rises_rest (number first) (map number rest) up)
      (λ k d a b. point.0 (suc k) d (omega arith) (omega (arith, b)), λ k d a b. point.1 (suc k) d (omega (arith, a)) (omega (arith, b))))

  -- a value whose number is not there goes to the place
  pub put_at : (x : X) (xs : List X) (place : ℕ) → place ≤ length xs → IsPartitionPoint (λ y. nat_lt (number y) (number x) ≡ true) (λ y. nat_lt (number y) (number x) ≡ false) xs place → list_any (λ y. number y == number x) xs ≡ false
      → insert xs place x ≡ put (λ y. nat_lt (number x) (number y)) x xs
  put_at x [] zero within point none = refl
  put_at x [] (suc place) within point none = absurd (omega (arith, within))
  put_at x (first ∷ rest) zero within point none =
      let others = or_parts (number first == number x) (list_any (λ y. number y == number x) rest) none in
      rw (after (number first) (number x) (point.1 0 first (omega arith) (omega arith)) others.0) refl
  put_at x (first ∷ rest) (suc place) within point none =
      let others = or_parts (number first == number x) (list_any (λ y. number y == number x) rest) none in
      rw (not_above (number first) (number x) (point.0 0 first (omega arith) (omega arith)))
      (ap (λ ys. first ∷ ys) (put_at x rest place (omega (arith, within))
      (λ k d a b. point.0 (suc k) d (omega arith) (omega (arith, b)), λ k d a b. point.1 (suc k) d (omega (arith, a)) (omega (arith, b))) others.1))

  -- a value goes in place of that of its number, which stands at the place
  pub changed_at : (x : X) (xs : List X) (place : ℕ) → IsPartitionPoint (λ y. nat_lt (number y) (number x) ≡ true) (λ y. nat_lt (number y) (number x) ≡ false) xs place → option_map_or (λ y. number y == number x) (slice_get xs place) false ≡ true
      → set xs place x ≡ with_first_changed (λ y. number y == number x) (λ y. x) xs
  changed_at x [] place point is = absurd (false≢true is)
  changed_at x (first ∷ rest) zero point is = rw is refl
  changed_at x (first ∷ rest) (suc place) point is =
      rw (other_below (number first) (number x) (point.0 0 first (omega arith) (omega arith)))
      (ap (λ ys. first ∷ ys) (changed_at x rest place
      (λ k d a b. point.0 (suc k) d (omega arith) (omega (arith, b)), λ k d a b. point.1 (suc k) d (omega (arith, a)) (omega (arith, b))) is))

-- ---- one grant

apart : (low next n : ℕ) → nat_lt low n ≡ false → nat_lt low next ≡ true → (n == next) ≡ false
apart low next n from less = grind (arith, nat_tests)

other_above : (a b : ℕ) → nat_lt b a ≡ true → (a == b) ≡ false
other_above a b less = grind (arith, nat_tests)

passes : (vote : Vote) (file : List ℕ) (grant : Grant) → (vote.server == grant.server) ≡ false → covers_grant vote file grant ≡ true
passes vote file grant other = ap (λ b. not b || covers file grant vote) other

-- those of greater servers are covered
later_pass : (vote : Vote) (file : List ℕ) (low : ℕ) (grants : List Grant) → nat_lt low vote.server ≡ false → rises_from low (granters grants) ≡ true → list_all (covers_grant vote file) grants ≡ true
later_pass vote file low [] from up = refl
later_pass vote file low (first ∷ rest) from up =
    let parts = and_parts (nat_lt low first.server) (rises_from first.server (granters rest)) up in
    and_from (covers_grant vote file first) (list_all (covers_grant vote file) rest) (passes vote file first (apart low first.server vote.server from parts.0)) (later_pass vote file first.server rest (still_beyond low first.server vote.server from parts.0) parts.1)

-- a grant further on is of a greater server
further : (low : ℕ) (grants : List Grant) (place : ℕ) (grant : Grant) → rises_from low (granters grants) ≡ true → slice_get grants place ≡ Some grant → nat_lt low grant.server ≡ true
further low [] place grant up at = absurd (none-some grant at)
further low (first ∷ rest) zero grant up at =
    let parts = and_parts (nat_lt low first.server) (rises_from first.server (granters rest)) up in
    let same : first ≡ grant = cc in
    subst (λ (g : Grant). nat_lt low g.server ≡ true) same parts.0
further low (first ∷ rest) (suc place) grant up at =
    let parts = and_parts (nat_lt low first.server) (rises_from first.server (granters rest)) up in
    lower low first.server grant.server parts.0 (further first.server rest place grant parts.1 at)

-- the grant of the vote's server is the one that it has to cover
pub one_covers : (vote : Vote) (file : List ℕ) (grants : List Grant) (place : ℕ) (grant : Grant) → rises (granters grants) ≡ true → slice_get grants place ≡ Some grant → grant.server ≡ vote.server → covers file grant vote ≡ list_all (covers_grant vote file) grants
one_covers vote file [] place grant up at same = absurd (none-some grant at)
one_covers vote file (first ∷ rest) zero grant up at same =
    let is : first ≡ grant = cc in
    let server : vote.server ≡ first.server = sym same ∙ ap (λ (g : Grant). g.server) (sym is) in
    let others = later_pass vote file first.server rest (le-ltb first.server vote.server (omega (arith, server))) (sym (rises-from first.server (granters rest)) ∙ up) in
    let here = ap (λ b. not b || covers file first vote) (eq-eqb vote.server first.server server) in
    sym (ap (λ b. covers_grant vote file first && b) others ∙ and-true (covers_grant vote file first) ∙ here ∙ ap (λ g. covers file g vote) is)
one_covers vote file (first ∷ rest) (suc place) grant up at same =
    let from = sym (rises-from first.server (granters rest)) ∙ up in
    let less = subst (λ n. nat_lt first.server n ≡ true) same (further first.server rest place grant from at) in
    let here = passes vote file first (other_above vote.server first.server less) in
    one_covers vote file rest place grant (rises_rest first.server (granters rest) up) at same ∙ ap (λ b. b && list_all (covers_grant vote file) rest) (sym here)

-- the servers of operations that are of quorums ascend
pub quorums-order : (levels : ℕ) (ops : List Op) → are_quorums levels ops ≡ true → are_in_order ops ≡ true
quorums-order levels [] are = refl
quorums-order levels (op ∷ ops) are =
    let parts = and_parts (has_quorum levels op) (are_quorums levels ops) are in
    let first = and_parts (rises (servers_of op)) (is_quorum levels (servers_of op)) parts.0 in
    and_from (rises (servers_of op)) (are_in_order ops) first.0 (quorums-order levels ops parts.1)

-- ---- the place of a server's grant

-- a search by halves leads to it, if it is there
pub granter_at : (server : ℕ) (grants : List Grant) (place : ℕ) → rises (granters grants) ≡ true → IsPartitionPoint (λ grant. nat_lt grant.server server ≡ true) (λ grant. nat_lt grant.server server ≡ false) grants place → is_granter_at grants server place ≡ list_any (λ grant. grant.server == server) grants
granter_at server grants place up point = sym (found_at (λ (grant : Grant). grant.server) server grants place up point)

turned : (a b : ℕ) → (a == b) ≡ false → (b == a) ≡ false
turned a b other = grind (arith, nat_tests)

-- with no grant of the vote's server there is none that it has to cover
pub none_to_cover : (vote : Vote) (file : List ℕ) (grants : List Grant) → list_any (λ grant. grant.server == vote.server) grants ≡ false → list_all (covers_grant vote file) grants ≡ true
none_to_cover vote file [] none = refl
none_to_cover vote file (first ∷ rest) none =
    let others = or_parts (first.server == vote.server) (list_any (λ (grant : Grant). grant.server == vote.server) rest) none in
    and_from (covers_grant vote file first) (list_all (covers_grant vote file) rest) (passes vote file first (turned first.server vote.server others.0)) (none_to_cover vote file rest others.1)

-- the grant at the place is of the server
pub granter_is : (server : ℕ) (grants : List Grant) (place : ℕ) (grant : Grant) → slice_get grants place ≡ Some grant → is_granter_at grants server place ≡ true → grant.server ≡ server
granter_is server grants place grant at is =
    let here : (grant.server == server) ≡ true = sym (ap (λ (o : Option Grant). option_map_or (λ (g : Grant). g.server == server) o false) at) ∙ is in
    eqb-true grant.server server here
