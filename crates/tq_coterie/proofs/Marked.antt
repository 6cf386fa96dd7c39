-- A test of a set of servers, and what it says of the coterie. Marks of members, from the leaves up to the root.
use Rattle.std.proofs.Common.{◌≡◌, ℕ, ◌-◌, ◌≤◌, Bool, true, false, cond, ◌||◌, List, [], ◌∷◌, Option, Some, None, nat_eq, eqb, refl, sym, ap, subst, ◌∙◌, ◌↔◌, arith, inl, inr, ◌+◌, ◌*◌, ◌/◌, ◌%◌, ◌^◌, ◌<◌, zero, suc, length, w64}
use Rattle.std.proofs.lemmas.Bool.{eqb-true, false≢true, or_right, cases_lt, cases_eq, eq-eqb, ne_eqb}
use Rattle.std.proofs.{lemmas.Map.Views.{list_any-from_Contains, Contains-from_any}, Math.Pow.pow_mono}
use Rattle.std.proofs.lemmas.{List.{get_or-set_same, get_or-set_other}, Nat.leading_top}
use Rattle.std.proofs.lemmas.Nat.Bits.{bit_at_above, bit_at_and, bit_at_ones, bit_at-zero, bit_at_set_same, bit_at_set_other}
use Rattle.std.specs.{Cmp.both_ways, Cmp.Lexicographic.{nat_list_eq_equiv, same_text}, List.{Contains, find, list_any}}
use Rattle.std.specs.{Option.option_map, Prelude.{bit_and, bit_or, min, slice_index, slice_set, ◌==◌}, Int.bit_at}
use Rattle.std.specs.Int.{Bits.mask_lt, Count.count_leading_zeros}
use Rattle.tq_coterie.specs.Coterie.{coterie, has, is_quorum, numbers_of, servers_of, IsLeastOfBoth, IsMemberList}
use Rattle.tq_coterie.specs.Parts.{part_of, part_from_sides, member_or_empty, is_marked, part_at, AreMarksOf, IsBare, IsRaised}
use Rattle.tq_coterie.specs.declared.holding.{Overlap.Overlap, Overlap.TheVariants.{Empty, Member, Neither}}
use Rattle.tq_coterie.proofs.{Members.members-meet, Parts.{Ascends-member, part_of-leaf, part_of-fork}}
use Rattle.tq_coterie.proofs.Sets.{has-below, has-head}
use Rattle.tq_shape.specs.{ServerSet.Ascends, Tree.{Server, left_of, right_of, height_of}}
use Rattle.tq_shape.proofs.Tree.{height_of-side, height_of-leaf, right_within}

-- an answer that says whether the numbers are a member is the test
pub tested : (levels : ℕ) (numbers : List ℕ) (answer : Bool) → (answer ≡ true) ↔ Contains (coterie levels) numbers → answer ≡ is_quorum levels numbers
tested levels numbers answer is =
    both_ways answer (is_quorum levels numbers)
    (λ e. list_any-from_Contains nat_list_eq_equiv numbers (coterie levels) (is.0 e))
    (λ e. is.1 (Contains-from_any (λ x y same. same_text x y (sym same)) numbers (coterie levels) e))

-- whether a server is among servers, by their numbers
pub has-numbers_of : (servers : List Server) (number : ℕ) → list_any (λ server. nat_eq server.number number) servers ≡ has (numbers_of servers) number
has-numbers_of [] number = refl
has-numbers_of (first ∷ rest) number = ap (λ b. nat_eq first.number number || b) (has-numbers_of rest number)

-- no server of an ascending set is below its first
not_below : (low first : ℕ) (rest : List ℕ) (other : ℕ) → Ascends low (first ∷ rest) → has (first ∷ rest) other ≡ true → first ≤ other
not_below low first rest other up here =
    elim (cases_lt other first) [
      | inl less ↦ absurd (false≢true (sym (has-below other other (first ∷ rest) (less, up.1) (omega arith)) ∙ here))
      | inr none ↦ none
    ]

later_least : (first : ℕ) (rest others : List ℕ) (server other : ℕ) → has others first ≡ false → IsLeastOfBoth rest others server → has (first ∷ rest) other ≡ true → has others other ≡ true → server ≤ other
later_least first rest others server other not later here there =
    elim (eqb first other) as (λ b. eqb first other ≡ b → (b || has rest other) ≡ true → server ≤ other) [
      | true ↦ λ is _. absurd (false≢true (sym not ∙ subst (λ n. has others n ≡ true) (sym (eqb-true first other is)) there))
      | false ↦ λ _ in_rest. later.least other in_rest there
    ] refl here

-- the first server of an ascending set that the other has is the least of both
pub least-found : (low : ℕ) (some others : List ℕ) (server : ℕ) → Ascends low some → find (has others) some ≡ Some server → IsLeastOfBoth some others server
least-found low [] others server up found = cc
least-found low (first ∷ rest) others server up found =
    elim (has others first) as (λ b. has others first ≡ b → cond b (Some first) (find (has others) rest) ≡ Some server → IsLeastOfBoth (first ∷ rest) others server) [
      | true ↦ λ at e.
          let is : first ≡ server = cc in
          let P : ℕ → Type 0 = λ n. IsLeastOfBoth (first ∷ rest) others n in
          let least : IsLeastOfBoth (first ∷ rest) others first = record {
            in_some = has-head first rest;
            in_others = at;
            least = λ other here there. not_below low first rest other up here;
          } in
          subst P is least
      | false ↦ λ not e.
          let later = least-found first rest others server up.1 e in
          record {
            in_some = or_right (eqb first server) (has rest server) later.in_some;
            in_others = later.in_others;
            least = λ other here there. later_least first rest others server other not later here there;
          }
    ] refl found

-- where no server of the one is found in the other, they have none in common
pub none-found : (some others : List ℕ) (server : ℕ) → find (has others) some ≡ None → has some server ≡ true → has others server ≡ true → ⊥
none-found [] others server none here there = false≢true here
none-found (first ∷ rest) others server none here there =
    elim (has others first) as (λ b. has others first ≡ b → cond b (Some first) (find (has others) rest) ≡ None → ⊥) [
      | true ↦ λ at e. cc
      | false ↦ λ not e.
          elim (eqb first server) as (λ b. eqb first server ≡ b → (b || has rest server) ≡ true → ⊥) [
            | true ↦ λ is _. false≢true (sym not ∙ subst (λ n. has others n ≡ true) (sym (eqb-true first server is)) there)
            | false ↦ λ _ in_rest. none-found rest others server e in_rest there
          ] refl here
    ] refl none

-- the number of the first server that passes a test of numbers
pub find-numbers_of : (test : ℕ → Bool) (servers : List Server) → find test (numbers_of servers) ≡ option_map (λ server. server.number) (find (λ server. test server.number) servers)
find-numbers_of test [] = refl
find-numbers_of test (first ∷ rest) =
    elim (test first.number) as (λ b. cond b (Some first.number) (find test (numbers_of rest)) ≡ option_map (λ server. server.number) (cond b (Some first) (find (λ server. test server.number) rest))) [
      | true ↦ refl
      | false ↦ find-numbers_of test rest
    ]

-- the first server that is among the others
abbrev pub common : List Server → List Server → Option Server
common servers others = find (λ server. list_any (λ other. nat_eq other.number server.number) others) servers

common-number : (servers others : List Server) → find (has (numbers_of others)) (numbers_of servers) ≡ option_map (λ server. server.number) (common servers others)
common-number servers others =
    find-numbers_of (has (numbers_of others)) servers
    ∙ sym (ap (λ (test : Server → Bool). option_map (λ server. server.number) (find test servers)) (λ i server. has-numbers_of others server.number i))

-- the first server of a member that is among those of another is the least of both
pub least-common : (levels : ℕ) (servers others : List Server) (server : Server) → IsMemberList levels servers → common servers others ≡ Some server → IsLeastOfBoth (numbers_of servers) (numbers_of others) server.number
least-common levels servers others server in_tree is =
    least-found 0 (numbers_of servers) (numbers_of others) server.number (Ascends-member (levels - 1) 1 (numbers_of servers) (omega arith) in_tree.member)
    (common-number servers others ∙ ap (option_map (λ server. server.number)) is)

-- two members of one tree have a server in common
pub some-common : (levels : ℕ) (servers others : List Server) → IsMemberList levels servers → IsMemberList levels others → common servers others ≡ None → ⊥
some-common levels servers others some_in others_in none =
    let met = members-meet (levels - 1) 1 (numbers_of servers) (numbers_of others) some_in.member others_in.member in
    none-found (numbers_of servers) (numbers_of others) met.0 (common-number servers others ∙ ap (option_map (λ server. server.number)) none) met.1 met.2

-- a server that is found among those of a tree is of that tree
pub find-levels : (test : Server → Bool) (levels : ℕ) (numbers : List ℕ) (server : Server) → find test (servers_of levels numbers) ≡ Some server → server.levels ≡ levels
find-levels test levels [] server found = cc
find-levels test levels (number ∷ numbers) server found =
    let first : Server = record { number = number; levels = levels } in
    elim (test first) as (λ b. cond b (Some first) (find test (servers_of levels numbers)) ≡ Some server → server.levels ≡ levels) [
      | true ↦ λ e.
          let is : first ≡ server = cc in
          sym (ap (λ (s : Server). s.levels) is)
      | false ↦ λ e. find-levels test levels numbers server e
    ] found

pub common-levels : (levels : ℕ) (servers others : List Server) (server : Server) → IsMemberList levels servers → common servers others ≡ Some server → server.levels ≡ levels
common-levels levels servers others server in_tree is =
    let test : Server → Bool = λ server. list_any (λ other. nat_eq other.number server.number) others in
    find-levels test levels (numbers_of servers) server (rw (← in_tree.tree) is)

-- ---- marked

-- ---- one mark

-- a server's mark is a bit of its word
mark-at : (marks : List ℕ) (place bit other : ℕ) → bit < 64 → other ≡ 64 * place + bit → is_marked marks other ≡ (bit_at (slice_index marks place) bit == 1)
mark-at marks place bit other less is =
    let word : other / 64 ≡ place = omega (arith, is, less) in
    let own : other % 64 ≡ bit = omega (arith, is, less) in
    rw (word, own) refl

no-bit : (word bit : ℕ) → bit_at word bit ≡ 0 → (bit_at word bit == 1) ≡ false
no-bit word bit none = rw none refl

bit_more : (word bit other : ℕ) → bit < 64 → (bit_at (bit_or word (1 * 2 ^ bit % 2 ^ 64)) other == 1) ≡ (eqb bit other || (bit_at word other == 1))
bit_more word bit other within =
    elim (cases_eq bit other) [
      | inl same ↦
          let set : bit_at (bit_or word (1 * 2 ^ bit % 2 ^ 64)) other ≡ 1 =
          ap (λ n. bit_at (bit_or word (1 * 2 ^ bit % 2 ^ 64)) n) (sym same) ∙ bit_at_set_same w64 word bit within in
          rw (set, eq-eqb bit other same) refl
      | inr different ↦
          rw (bit_at_set_other w64 word bit within other (λ e. different (sym e)), ne_eqb bit other different) refl
    ]

pub one_more : (marks : List ℕ) (server other : ℕ) → server / 64 < length marks
    → is_marked (slice_set marks (server / 64) (bit_or (slice_index marks (server / 64)) (1 * 2 ^ (server % 64) % 2 ^ 64))) other ≡ (eqb server other || is_marked marks other)
one_more marks server other within =
    let place = server / 64 in
    let bit = server % 64 in
    let word = slice_index marks place in
    let after = bit_or word (1 * 2 ^ bit % 2 ^ 64) in
    elim (cases_eq place (other / 64)) [
      | inl same ↦
          let here : slice_index (slice_set marks place after) (other / 64) ≡ after = ap (slice_index (slice_set marks place after)) (sym same) ∙ get_or-set_same marks place after 0 within in
          let was : slice_index marks (other / 64) ≡ word = ap (slice_index marks) (sym same) in
          let test : eqb server other ≡ eqb bit (other % 64) = same_bit server other same in
          rw (here, was, test) (bit_more word bit (other % 64) (omega arith))
      | inr different ↦
          let here : slice_index (slice_set marks place after) (other / 64) ≡ slice_index marks (other / 64) = get_or-set_other marks place (other / 64) after 0 (λ e. different (sym e)) in
          rw (here, ne_eqb server other (λ e. different (ap (λ n. n / 64) e))) refl
    ]
  where
    same_bit : (server other : ℕ) → server / 64 ≡ other / 64 → eqb server other ≡ eqb (server % 64) (other % 64)
    same_bit server other same =
        elim (cases_eq server other) [
          | inl is ↦ rw (eq-eqb server other is, eq-eqb (server % 64) (other % 64) (ap (λ n. n % 64) is)) refl
          | inr not ↦ rw (ne_eqb server other not, ne_eqb (server % 64) (other % 64) (λ e. not (omega (arith, same, e)))) refl
        ]

-- ---- the marks of one server after the other, downwards

-- The marks up to a server are those of the set. Those above it say whether the set has a member of the subtree there
-- or nothing of it.
pub record AreRaised (levels : ℕ) (servers marks : List ℕ) (server : ℕ) : Type 0 where
  pub own : (n : ℕ) → n ≤ server → is_marked marks n ≡ has servers n
  pub members : (n : ℕ) → server < n → n < 2 ^ levels → part_of (height_of levels n) n servers ≡ member_or_empty (is_marked marks n)
  pub inner : 2 * server < 2 ^ levels

-- at first only leaves stand above
pub raised-leaves : (levels : ℕ) (servers marks : List ℕ) (greatest : ℕ) → greatest + 1 ≡ 2 ^ levels → AreMarksOf marks servers → AreRaised levels servers marks (greatest / 2)
raised-leaves levels servers marks greatest is marked = record {
  own = λ n low. marked n;
  members = λ n high within.
      part_of-leaf (height_of levels n) n servers (is_marked marks n) (height_of-leaf levels n (omega arith) (omega (arith, is))) (sym (marked n));
  inner = omega (arith, is);
}

pub part_of-marks : (levels : ℕ) (servers marks : List ℕ) (server : ℕ) → 0 < server → AreRaised levels servers marks server → part_of (height_of levels server) server servers ≡ part_at marks server
part_of-marks levels servers marks server positive raised =
    let left : left_of server < 2 ^ levels = raised.inner in
    let right : right_of server < 2 ^ levels = right_within levels server (omega arith) positive left in
    part_of-fork (height_of levels server) (height_of levels (left_of server)) (height_of levels (right_of server)) server (left_of server) (right_of server) servers (is_marked marks server) (member_or_empty (is_marked marks (left_of server))) (member_or_empty (is_marked marks (right_of server)))
    (height_of-side levels server (left_of server) positive (omega arith) left)
    (height_of-side levels server (right_of server) positive (omega arith) right) refl refl
    (sym (raised.own server (omega arith)))
    (sym (raised.members (left_of server) (omega arith) left))
    (sym (raised.members (right_of server) (omega arith) right))

pub raised-more : (levels : ℕ) (servers marks : List ℕ) (server : ℕ) (after : List ℕ) → 0 < server → AreRaised levels servers marks server → IsRaised marks server after → AreRaised levels servers after (server - 1)
raised-more levels servers marks server after positive raised step = record {
  own = λ n low. step.others n (λ e. omega (arith, e)) ∙ raised.own n (omega arith);
  members = λ n high within.
      elim (cases_eq server n) [
        | inl same ↦
            let P : ℕ → Type 0 = λ m. part_of (height_of levels m) m servers ≡ member_or_empty (is_marked after m) in
            subst P same (part_of-marks levels servers marks server positive raised ∙ step.here)
        | inr other ↦
            raised.members n (omega (arith, other)) within ∙ ap member_or_empty (sym (step.others n other))
      ];
  inner = omega (arith, raised.inner);
}

-- a server with no mark below it is raised as it is
bare-raised : (marks : List ℕ) (server : ℕ) → IsBare marks server → IsRaised marks server marks
bare-raised marks server bare = record {
  here = rw (bare.own, bare.left, bare.right) refl;
  others = λ other different. refl;
}

-- and so are all servers with none, one after the other
pub raised-over : (bare : ℕ) (levels : ℕ) (servers marks : List ℕ) (server next : ℕ) → next + bare ≡ server → ((other : ℕ) → next < other → other ≤ server → IsBare marks other) → AreRaised levels servers marks server → AreRaised levels servers marks next
raised-over zero levels servers marks server next is bare raised = subst (λ n. AreRaised levels servers marks n) (omega (arith, is)) raised
raised-over (suc more) levels servers marks server next is bare raised =
    raised-over more levels servers marks (server - 1) next (omega (arith, is)) (λ other above within. bare other above (omega arith))
    (raised-more levels servers marks server marks (omega (arith, is)) raised (bare-raised marks server (bare server (omega (arith, is)) (omega arith))))

-- ---- the last mark below a limit

masked : (word limit bit : ℕ) → bit < limit → bit_at (bit_and word (2 ^ limit - 1)) bit ≡ 0 → (bit_at word bit == 1) ≡ false
masked word limit bit within none =
    let both : min (bit_at word bit) 1 ≡ 0 = ap (λ n. min (bit_at word bit) n) (sym (bit_at_ones limit bit within)) ∙ sym (bit_at_and word (2 ^ limit - 1) bit) ∙ none in
    elim (cases_eq (bit_at word bit) 1) [
      | inl one ↦
          let P : ℕ → Type 0 = λ n. min n 1 ≡ 0 in
          absurd (omega (arith, subst P one both))
      | inr other_bit ↦
          ne_eqb (bit_at word bit) 1 other_bit
    ]

-- What is looked at on the way down: of the word at that place the marks below the limit. None is marked from the next
-- word on.
pub record IsLookedAt (marks : List ℕ) (limit place word : ℕ) : Type 0 where
  pub reach : 64 * place ≤ limit
  pub fits : word < 2 ^ (limit - 64 * place)
  pub kept : (bit : ℕ) → bit < 64 → 64 * place + bit < limit → bit_at word bit ≡ 0 → (bit_at (slice_index marks place) bit == 1) ≡ false
  pub bare : (other : ℕ) → 64 * (place + 1) ≤ other → other < limit → is_marked marks other ≡ false

pub looked-first : (marks : List ℕ) (limit : ℕ) → IsLookedAt marks limit (limit / 64) (bit_and (slice_index marks (limit / 64)) (2 ^ (limit % 64) - 1))
looked-first marks limit =
    let rest : limit - 64 * (limit / 64) ≡ limit % 64 = omega arith in record {
      reach = omega arith;
      fits = rw rest (mask_lt (slice_index marks (limit / 64)) (limit % 64));
      kept = λ bit less under none. masked (slice_index marks (limit / 64)) (limit % 64) bit (omega (arith, under)) none;
      bare = λ other above under. absurd (omega (arith, above, under));
    }

-- where a word has none, no server is marked from its first place on
none-from : (marks : List ℕ) (limit place word other : ℕ) → IsLookedAt marks limit place word → word ≡ 0 → 64 * place ≤ other → other < limit → is_marked marks other ≡ false
none-from marks limit place word other looked empty from under =
    elim (cases_lt other (64 * (place + 1))) [
      | inl here ↦
          let bit = other - 64 * place in
          let none : bit_at word bit ≡ 0 = ap (λ w. bit_at w bit) empty ∙ bit_at-zero bit in
          mark-at marks place bit other (omega (arith, from, here)) (omega (arith, from)) ∙ looked.kept bit (omega (arith, from, here)) (omega (arith, from, under)) none
      | inr above ↦ looked.bare other above under
    ]

pub looked-more : (marks : List ℕ) (limit place word next : ℕ) → IsLookedAt marks limit place word → word ≡ 0 → 0 < place → next ≡ slice_index marks (place - 1) → next < 2 ^ 64
    → IsLookedAt marks limit (place - 1) next
looked-more marks limit place word next looked empty some is fits = record {
  reach = omega (arith, looked.reach);
  fits = omega (arith, fits, pow_mono {i = 64} {j = limit - 64 * (place - 1)} (omega (arith, looked.reach, some)));
  kept = λ bit less under none. no-bit (slice_index marks (place - 1)) bit (ap (λ w. bit_at w bit) (sym is) ∙ none);
  bare = λ other above under. none-from marks limit place word other looked empty (omega (arith, above, some)) under;
}

-- a server below the limit, above which none is marked
pub record IsLastMark (marks : List ℕ) (limit server : ℕ) : Type 0 where
  pub below : server < limit
  pub last : (other : ℕ) → server < other → other < limit → is_marked marks other ≡ false

pub looked-last : (marks : List ℕ) (limit place word : ℕ) → IsLookedAt marks limit place word → 0 < word → word < 2 ^ 64 → IsLastMark marks limit (64 * place + (63 - count_leading_zeros 64 word))
looked-last marks limit place word looked some small =
    let top = leading_top 64 word some small in
    let bit : ℕ = top.0 in
    let is : 63 - count_leading_zeros 64 word ≡ bit = omega (arith, top.1) in
    let lower : bit < limit - 64 * place = elim (cases_lt bit (limit - 64 * place)) [
      | inl lower ↦ lower
      | inr higher ↦ absurd (omega (arith, looked.fits, top.2, pow_mono {i = limit - 64 * place} {j = bit} (omega (arith, higher))))
    ] in
    rw is (record {
      below = omega (arith, lower);
      last = λ other above under.
          elim (cases_lt other (64 * (place + 1))) [
            | inl here ↦
                let own = other - 64 * place in
                let none : bit_at word own ≡ 0 = bit_at_above word (suc bit) own top.3 (omega (arith, above)) in
                mark-at marks place own other (omega (arith, above, here)) (omega (arith, above)) ∙ looked.kept own (omega (arith, above, here)) (omega (arith, above, under)) none
            | inr higher ↦ looked.bare other higher under
          ];
    })

-- ---- what is neither at one server is neither at the root

neither-left : (here : Bool) (right : Overlap) → part_from_sides here Neither right ≡ Neither
neither-left true right = refl
neither-left false right = refl

neither-right : (here : Bool) (left : Overlap) → part_from_sides here left Neither ≡ Neither
neither-right true Empty = refl
neither-right true Member = refl
neither-right true Neither = refl
neither-right false Empty = refl
neither-right false Member = refl
neither-right false Neither = refl

neither-above : (levels server : ℕ) (servers : List ℕ) → 2 ≤ server → server < 2 ^ levels → part_of (height_of levels server) server servers ≡ Neither → part_of (height_of levels (server / 2)) (server / 2) servers ≡ Neither
neither-above levels server servers below within neither =
    let above : ℕ = server / 2 in
    let height : ℕ = height_of levels server in
    let higher = height_of-side levels above server (omega arith) refl within in
    let at_left = part_of height (left_of above) servers in
    let at_right = part_of height (right_of above) servers in
    let fork = part_of-fork (height_of levels above) height height above (left_of above) (right_of above) servers (has servers above) at_left at_right higher higher refl refl refl refl refl in
    elim (cases_eq (left_of above) server) [
      | inl left ↦
          let side : at_left ≡ Neither = ap (λ n. part_of height n servers) left ∙ neither in
          fork ∙ rw side (neither-left (has servers above) at_right)
      | inr other ↦
          let right : right_of above ≡ server = omega (arith, other) in
          let side : at_right ≡ Neither = ap (λ n. part_of height n servers) right ∙ neither in
          fork ∙ rw side (neither-right (has servers above) at_left)
    ]

neither-up : (steps levels server : ℕ) (servers : List ℕ) → server ≤ steps → 0 < server → server < 2 ^ levels → part_of (height_of levels server) server servers ≡ Neither → part_of (height_of levels 1) 1 servers ≡ Neither
neither-up zero levels server servers most positive within neither = absurd (omega arith)
neither-up (suc steps) levels server servers most positive within neither =
    elim (cases_lt server 2) [
      | inl low ↦
          let root : server ≡ 1 = omega arith in
          let P : ℕ → Type 0 = λ n. part_of (height_of levels n) n servers ≡ Neither in
          subst P root neither
      | inr high ↦
          neither-up steps levels (server / 2) servers (omega arith) (omega arith) (omega arith) (neither-above levels server servers high within neither)
    ]

pub neither-root : (levels : ℕ) (servers marks : List ℕ) (server : ℕ) → 0 < server → AreRaised levels servers marks server → part_at marks server ≡ Neither → part_of (height_of levels 1) 1 servers ≡ Neither
neither-root levels servers marks server positive raised neither =
    neither-up server levels server servers (omega arith) positive (omega (arith, raised.inner))
    (part_of-marks levels servers marks server positive raised ∙ neither)
