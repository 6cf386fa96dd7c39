-- Where grants and votes strictly ascend by server, each grant's vote is found by one walk through both. Grants that
-- strictly ascend by server: what is looked for stands before or after the one in the middle.
use Rattle.std.proofs.Common.{◌≡◌, ℕ, ◌<◌, ◌≤◌, Bool, true, false, ◌&&◌, ◌||◌, cond, List, [], ◌∷◌, map, nat_lt, nat_eq, arith, refl, ap, sym, ◌∙◌, ◌+◌, ◌-◌, length, length-drop, take, drop, get_or, ◌++◌}
use Rattle.std.{proofs.lemmas.Bool.{and_parts, eq-eqb, Decides.nat_tests}, specs.{Cmp.Derive.both_true, List.list_all}}
use Rattle.std.proofs.lemmas.List.{at_drop_more, take_all, take-append-drop}
use Rattle.tq_coterie.specs.Coterie.{is_quorum}
use Rattle.tq_evidence.specs.declared.{grant.Grant.Grant, op.Op.Op, vote.Vote.Vote}
use Rattle.tq_evidence.specs.Evidence.{are_grants_covered, covers, holds_since, has_quorum, are_quorums, is_grant_covered, rises, servers_of, votes_rise, granters, are_in_order, are_walked, walk, is_granter}

-- the servers are all above a number
abbrev pub GrantsAbove : ℕ → List Grant → Type 0
GrantsAbove low [] = Unit {0}
GrantsAbove low (grant ∷ grants) = (low < grant.server) × GrantsAbove low grants

abbrev VotesAbove : ℕ → List Vote → Type 0
VotesAbove low [] = Unit {0}
VotesAbove low (vote ∷ votes) = (low < vote.server) × VotesAbove low votes

pub less : (a b : ℕ) → nat_lt a b ≡ true → a < b
less a b h = grind (arith, nat_tests)

pub not_less : (a b : ℕ) → nat_lt a b ≡ false → b ≤ a
not_less a b h = grind (arith, nat_tests)

pub same_number : (a b : ℕ) → nat_eq a b ≡ true → a ≡ b
same_number a b h = grind (arith, nat_tests)

pub apart : (a b : ℕ) → a < b → nat_eq a b ≡ false
apart a b h = grind (arith, nat_tests)

pub apart_up : (a b : ℕ) → b < a → nat_eq a b ≡ false
apart_up a b h = grind (arith, nat_tests)

pub grants_above : (low : ℕ) (grant : Grant) (grants : List Grant) → rises (map (λ g. g.server) (grant ∷ grants)) ≡ true → low ≤ grant.server → GrantsAbove low grants
grants_above low grant [] rise le = tt
grants_above low grant (next ∷ grants) rise le =
    let parts = and_parts (nat_lt grant.server next.server) (rises (map (λ g. g.server) (next ∷ grants))) rise in
    let up : grant.server < next.server = less grant.server next.server parts.0 in
    (omega arith, grants_above low next grants parts.1 (omega arith))

votes_above : (low : ℕ) (vote : Vote) (votes : List Vote) → votes_rise (vote ∷ votes) ≡ true → low ≤ vote.server → VotesAbove low votes
votes_above low vote [] rise le = tt
votes_above low vote (next ∷ votes) rise le =
    let parts = and_parts (nat_lt vote.server next.server) (votes_rise (next ∷ votes)) rise in
    let up : vote.server < next.server = less vote.server next.server parts.0 in
    (omega arith, votes_above low next votes parts.1 (omega arith))

pub later_grants : (grant : Grant) (grants : List Grant) → rises (map (λ g. g.server) (grant ∷ grants)) ≡ true → rises (map (λ g. g.server) grants) ≡ true
later_grants grant [] rise = refl
later_grants grant (next ∷ grants) rise = (and_parts (nat_lt grant.server next.server) (rises (map (λ g. g.server) (next ∷ grants))) rise).1

later_votes : (vote : Vote) (votes : List Vote) → votes_rise (vote ∷ votes) ≡ true → votes_rise votes ≡ true
later_votes vote [] rise = refl
later_votes vote (next ∷ votes) rise = (and_parts (nat_lt vote.server next.server) (votes_rise (next ∷ votes)) rise).1

-- a vote of a server below those of the grants covers none of them
skip_vote : (file : List ℕ) (vote : Vote) (votes : List Vote) (grants : List Grant) → GrantsAbove vote.server grants → list_all (is_grant_covered (vote ∷ votes) file) grants ≡ list_all (is_grant_covered votes file) grants
skip_vote file vote votes [] up = refl
skip_vote file vote votes (grant ∷ grants) up =
    let none = apart vote.server grant.server up.0 in
    λ i. ((none i && nat_lt grant.number vote.number && holds_since vote file grant.number) || is_grant_covered votes file grant) && skip_vote file vote votes grants up.1 i

-- votes of servers above that of a grant don't cover it
none_covers : (file : List ℕ) (grant : Grant) (votes : List Vote) → VotesAbove grant.server votes → is_grant_covered votes file grant ≡ false
none_covers file grant [] up = refl
none_covers file grant (vote ∷ votes) up =
    let none = apart_up vote.server grant.server up.0 in
    λ i. (none i && nat_lt grant.number vote.number && holds_since vote file grant.number) || none_covers file grant votes up.1 i

or_none : (a b : Bool) → b ≡ false → (a || b) ≡ a
or_none true b h = refl
or_none false b h = h

-- the first grant's vote is the first vote
meets_vote : (covered rest skipped : Bool) → (covered ≡ true → rest ≡ skipped) → (covered && rest) ≡ (covered && skipped)
meets_vote true rest skipped same = same refl
meets_vote false rest skipped same = refl

same_server : (a b : ℕ) (c d : Bool) → (nat_eq a b && c && d) ≡ true → a ≡ b
same_server a b c d h = let parts = and_parts (nat_eq a b && c) d h in let first = and_parts (nat_eq a b) c parts.0 in same_number a b first.0

in-order : (file : List ℕ) (votes : List Vote) (grants : List Grant) → votes_rise votes ≡ true → rises (map (λ g. g.server) grants) ≡ true → walk file votes grants ≡ list_all (is_grant_covered votes file) grants
in-order file [] [] up rise = refl
in-order file [] (grant ∷ grants) up rise = refl
in-order file (vote ∷ votes) [] up rise = refl
in-order file (vote ∷ votes) (grant ∷ grants) up rise =
    elim (nat_lt vote.server grant.server) as (λ b. nat_lt vote.server grant.server ≡ b → cond b (walk file votes (grant ∷ grants)) (covers file grant vote && walk file votes grants) ≡ list_all (is_grant_covered (vote ∷ votes) file) (grant ∷ grants)) [
      | true ↦ λ below.
          let low : vote.server < grant.server = less vote.server grant.server below in
          in-order file votes (grant ∷ grants) (later_votes vote votes up) rise
          ∙ sym (skip_vote file vote votes (grant ∷ grants) (low, grants_above vote.server grant grants rise (omega arith)))
      | false ↦ λ not_below.
          let high : grant.server ≤ vote.server = not_less vote.server grant.server not_below in
          meets_vote (covers file grant vote) (walk file votes grants) (list_all (is_grant_covered (vote ∷ votes) file) grants)
          (λ at.
          let same : vote.server ≡ grant.server = same_server vote.server grant.server (nat_lt grant.number vote.number) (holds_since vote file grant.number) at in
          in-order file votes grants (later_votes vote votes up) (later_grants grant grants rise)
          ∙ sym (skip_vote file vote votes grants (grants_above vote.server grant grants rise (omega arith))))
          ∙ sym (ap (λ b. b && list_all (is_grant_covered (vote ∷ votes) file) grants)
          (or_none (covers file grant vote) (is_grant_covered votes file grant) (none_covers file grant votes (votes_above grant.server vote votes up high))))
    ] refl

-- ops whose servers are quorums are in order
pub quorums-in_order : (levels : ℕ) (ops : List Op) → are_quorums levels ops ≡ true → are_in_order ops ≡ true
quorums-in_order levels [] good = refl
quorums-in_order levels (op ∷ ops) good =
    let parts = and_parts (has_quorum levels op) (are_quorums levels ops) good in
    let first = and_parts (rises (servers_of op)) (is_quorum levels (servers_of op)) parts.0 in
    both_true first.0 (quorums-in_order levels ops parts.1)

-- where both ascend, the walk finds for each grant whether it is covered
pub are_walked-covered : (votes : List Vote) (ops : List Op) → votes_rise votes ≡ true → are_in_order ops ≡ true → are_walked votes ops ≡ are_grants_covered ops votes
are_walked-covered votes [] up rise = refl
are_walked-covered votes (op ∷ ops) up rise =
    let parts = and_parts (rises (servers_of op)) (are_in_order ops) rise in
    let first = in-order op.file votes op.grants up parts.0 in
    λ i. first i && are_walked-covered votes ops up parts.1 i

-- ---- halving

-- those after it ascend
pub rises-after : (before : List Grant) (grant : Grant) (after : List Grant) → rises (granters (before ++ grant ∷ after)) ≡ true → rises (granters after) ≡ true
rises-after [] grant after rise = later_grants grant after rise
rises-after (first ∷ before) grant after rise = rises-after before grant after (later_grants first (before ++ grant ∷ after) rise)

-- and those before it
pub rises-before : (before : List Grant) (grant : Grant) (after : List Grant) → rises (granters (before ++ grant ∷ after)) ≡ true → rises (granters before) ≡ true
rises-before [] grant after rise = refl
rises-before (first ∷ []) grant after rise = refl
rises-before (first ∷ second ∷ before) grant after rise =
    let parts = and_parts (nat_lt first.server second.server) (rises (granters (second ∷ before ++ grant ∷ after))) rise in
    rw parts.0 (rises-before (second ∷ before) grant after parts.1)

below_middle : (low : ℕ) (before : List Grant) (grant : Grant) (after : List Grant) → GrantsAbove low (before ++ grant ∷ after) → low < grant.server
below_middle low [] grant after up = up.0
below_middle low (first ∷ before) grant after up = below_middle low before grant after up.1

none_above : (server : ℕ) (grants : List Grant) → GrantsAbove server grants → is_granter grants server ≡ false
none_above server [] up = refl
none_above server (grant ∷ grants) up = λ i. apart_up grant.server server up.0 i || none_above server grants up.1 i

-- a server above the middle one
pub is_granter-after : (before : List Grant) (grant : Grant) (after : List Grant) (server : ℕ) → rises (granters (before ++ grant ∷ after)) ≡ true → grant.server < server
    → is_granter after server ≡ is_granter (before ++ grant ∷ after) server
is_granter-after [] grant after server rise up = λ i. sym (apart grant.server server up) i || is_granter after server
is_granter-after (first ∷ before) grant after server rise up =
    let above = grants_above first.server first (before ++ grant ∷ after) rise (omega arith) in
    let low : first.server < grant.server = below_middle first.server before grant after above in
    let other : nat_eq first.server server ≡ false = apart first.server server (omega arith) in
    is_granter-after before grant after server (later_grants first (before ++ grant ∷ after) rise) up
    ∙ (λ i. sym other i || is_granter (before ++ grant ∷ after) server)

-- a server below it
pub is_granter-before : (before : List Grant) (grant : Grant) (after : List Grant) (server : ℕ) → rises (granters (before ++ grant ∷ after)) ≡ true → server < grant.server
    → is_granter before server ≡ is_granter (before ++ grant ∷ after) server
is_granter-before [] grant after server rise down =
    sym (none_above server (grant ∷ after) (down, grants_above server grant after rise (omega arith)))
is_granter-before (first ∷ before) grant after server rise down = λ i.
    nat_eq first.server server || is_granter-before before grant after server (later_grants first (before ++ grant ∷ after) rise) down i

-- the middle one itself
pub is_granter-middle : (before : List Grant) (grant : Grant) (after : List Grant) (server : ℕ) → nat_eq grant.server server ≡ true → is_granter (before ++ grant ∷ after) server ≡ true
is_granter-middle [] grant after server same = λ i. same i || is_granter after server
is_granter-middle (first ∷ before) grant after server same = or_true (nat_eq first.server server) (is_granter-middle before grant after server same)
  where
    or_true : (a : Bool) {b : Bool} → b ≡ true → (a || b) ≡ true
    or_true true h = refl
    or_true false h = h

-- ---- the same of slices

halves : (grants : List Grant) (middle : ℕ) (grant : Grant) → middle < length grants → grant ≡ get_or grants middle grant → grants ≡ take middle grants ++ grant ∷ drop (middle + 1) grants
halves grants middle grant within is =
    sym (take-append-drop middle grants)
    ∙ ap (λ rest. take middle grants ++ rest) (at_drop_more (λ rest. rest) grants middle grant within)
    ∙ ap (λ first. take middle grants ++ first ∷ drop (middle + 1) grants) (sym is)

upper : (grants : List Grant) (from : ℕ) → take (length grants - from) (drop from grants) ≡ drop from grants
upper grants from = take_all (length grants - from) (drop from grants) (omega (arith, length-drop from grants))

module _ (grants : List Grant) (middle : ℕ) (grant : Grant) (within : middle < length grants) (is : grant ≡ get_or grants middle grant) (rise : rises (granters grants) ≡ true) where
  parted : rises (granters (take middle grants ++ grant ∷ drop (middle + 1) grants)) ≡ true
  parted = ap (λ list. rises (granters list)) (sym (halves grants middle grant within is)) ∙ rise

  pub rises-upper : rises (granters (take (length grants - (middle + 1)) (drop (middle + 1) grants))) ≡ true
  rises-upper = ap (λ list. rises (granters list)) (upper grants (middle + 1)) ∙ rises-after (take middle grants) grant (drop (middle + 1) grants) parted

  pub rises-lower : rises (granters (take middle grants)) ≡ true
  rises-lower = rises-before (take middle grants) grant (drop (middle + 1) grants) parted

  pub is_granter-upper : (server : ℕ) → grant.server < server → is_granter (take (length grants - (middle + 1)) (drop (middle + 1) grants)) server ≡ is_granter grants server
  is_granter-upper server up =
      ap (λ list. is_granter list server) (upper grants (middle + 1))
      ∙ is_granter-after (take middle grants) grant (drop (middle + 1) grants) server parted up
      ∙ ap (λ list. is_granter list server) (sym (halves grants middle grant within is))

  pub is_granter-lower : (server : ℕ) → server < grant.server → is_granter (take middle grants) server ≡ is_granter grants server
  is_granter-lower server down =
      is_granter-before (take middle grants) grant (drop (middle + 1) grants) server parted down
      ∙ ap (λ list. is_granter list server) (sym (halves grants middle grant within is))

  pub is_granter-at : (server : ℕ) → grant.server ≡ server → true ≡ is_granter grants server
  is_granter-at server same =
      sym (ap (λ list. is_granter list server) (halves grants middle grant within is)
      ∙ is_granter-middle (take middle grants) grant (drop (middle + 1) grants) server (eq-eqb grant.server server same))
