-- The test by parts finds exactly the members.
use Rattle.std.proofs.Common.{◌≡◌, ℕ, ◌-◌, ◌/◌, ◌^◌, ◌<◌, ◌≤◌, zero, suc, List, [], ◌∷◌, Bool, true, false, ◌||◌, ◌&&◌, cond, eqb, refl, sym, inl, inr, arith, ap, ◌∙◌, subst}
use Rattle.std.proofs.lemmas.Bool.{cases_Bool, eqb-true, eq-eqb, or_cases, or_left, or_right, cases_lt, or_from, false≢true, false_from_ne_true}
use Rattle.std.proofs.lemmas.List.Elements.{All-nil, All-cons, All-head, All-tail, All-contains}
use mathlib.Core.Bool.{and-false, and-or_distrib_right, or-false}
use Rattle.std.specs.List.{All, Contains}
use Rattle.tq_shape.specs.{Tree.{left_of, right_of, stands_in, IsServer, height_of}, ServerSet.Ascends}
use Rattle.tq_shape.proofs.Tree.{height_of-one, stands_in-server, server-stands_in, sides_apart, top_apart, stands_in-top, stands_in-left, stands_in-right}
use Rattle.tq_coterie.specs.Coterie.{union_of, members, coterie, has, numbers_of, servers_of, IsMemberList}
use Rattle.tq_coterie.specs.{Parts.{part_from_sides, part_of}, declared.holding.Overlap.Overlap}
use Rattle.tq_coterie.specs.declared.holding.Overlap.TheVariants.{Empty, Member, Neither}
use Rattle.tq_coterie.proofs.Sets.{has-below, has-head, Ascends-joined, joined-nil, same_set, has-joined}
use Rattle.tq_coterie.proofs.Members.{IsSetOf, IsSetOf-leaf, IsSetOf-left, IsSetOf-right, IsSetOf-both, sides_members_apart, top_or, members-all, member-set, Contains-leaf, Contains-with_left, Contains-with_right, Contains-both}

-- ---- a member is found

-- the two sets have the same servers of the subtree
abbrev AgreeIn : ℕ → ℕ → List ℕ → List ℕ → Type 0
AgreeIn height top xs ys = (s : ℕ) → stands_in height top s ≡ true → has xs s ≡ has ys s

pub part_of-empty : (height top : ℕ) (servers : List ℕ) → ((s : ℕ) → stands_in height top s ≡ true → has servers s ≡ false) → part_of height top servers ≡ Empty
unfolding part_of
part_of-empty zero top servers none = rw (none top (stands_in-top zero top)) refl
part_of-empty (suc height) top servers none =
    rw (none top (stands_in-top (suc height) top), part_of-empty height (left_of top) servers (λ s under. none s (stands_in-left height top s under)), part_of-empty height (right_of top) servers (λ s under. none s (stands_in-right height top s under))) refl

record IsFound (height top : ℕ) (member : List ℕ) : Type 0 where
  set : IsSetOf height top member
  found : 0 < top → (servers : List ℕ) → AgreeIn height top servers member → part_of height top servers ≡ Member

leaf_found : (top : ℕ) (servers : List ℕ) → has servers top ≡ has (top ∷ []) top → part_of zero top servers ≡ Member
unfolding part_of
leaf_found top servers same = rw (same, eq-eqb top top refl) refl

IsFound-leaf : (top : ℕ) → IsFound zero top (top ∷ [])
IsFound-leaf top = record {
  set = IsSetOf-leaf top;
  found = λ positive servers agree. leaf_found top servers (agree top (stands_in-top zero top));
}

fork_found : (height top : ℕ) (servers : List ℕ) (here : Bool) (left right : Overlap) → has servers top ≡ here → part_of height (left_of top) servers ≡ left → part_of height (right_of top) servers ≡ right → part_of (suc height) top servers ≡ part_from_sides here left right
unfolding part_of
fork_found height top servers here left right e f g = rw (e, f, g) refl

-- below the top, `top ∷ q` has what q has
has-under : (height top side s : ℕ) (q : List ℕ) → 0 < top → side / 2 ≡ top → stands_in height side s ≡ true → has (top ∷ q) s ≡ has q s
has-under height top side s q positive is under =
    let other : eqb top s ≡ false =
    false_from_ne_true (eqb top s)
    (λ same. false≢true (sym (top_apart height top side positive is) ∙ (ap (λ n. stands_in height side n) (eqb-true top s same) ∙ under))) in
    rw other refl

-- a set of one side has nothing of the other
none_right : (height top s : ℕ) (q : List ℕ) → 0 < top → IsSetOf height (left_of top) q → stands_in height (right_of top) s ≡ true → has q s ≡ false
none_right height top s q positive set under =
    false_from_ne_true (has q s) (λ at. false≢true (sym (sides_apart height top s positive (set.within s at)) ∙ under))

none_left : (height top s : ℕ) (p : List ℕ) → 0 < top → IsSetOf height (right_of top) p → stands_in height (left_of top) s ≡ true → has p s ≡ false
none_left height top s p positive set under =
    false_from_ne_true (has p s) (λ at. false≢true (sym (sides_apart height top s positive under) ∙ set.within s at))

IsFound-left : (height top : ℕ) (q : List ℕ) → IsFound height (left_of top) q → IsFound (suc height) top (top ∷ q)
IsFound-left height top q is = record {
  set = IsSetOf-left height top q is.set;
  found = λ positive servers agree.
      fork_found height top servers true Member Empty
      (agree top (stands_in-top (suc height) top) ∙ has-head top q)
      (is.found (omega arith) servers
      (λ s under. agree s (stands_in-left height top s under) ∙ has-under height top (left_of top) s q positive (omega arith) under))
      (part_of-empty height (right_of top) servers
      (λ s under.
      agree s (stands_in-right height top s under)
      ∙ (has-under height top (right_of top) s q positive (omega arith) under ∙ none_right height top s q positive is.set under)));
}

IsFound-right : (height top : ℕ) (p : List ℕ) → IsFound height (right_of top) p → IsFound (suc height) top (top ∷ p)
IsFound-right height top p is = record {
  set = IsSetOf-right height top p is.set;
  found = λ positive servers agree.
      fork_found height top servers true Empty Member
      (agree top (stands_in-top (suc height) top) ∙ has-head top p)
      (part_of-empty height (left_of top) servers
      (λ s under.
      agree s (stands_in-left height top s under)
      ∙ (has-under height top (left_of top) s p positive (omega arith) under ∙ none_left height top s p positive is.set under)))
      (is.found (omega arith) servers
      (λ s under. agree s (stands_in-right height top s under) ∙ has-under height top (right_of top) s p positive (omega arith) under));
}

-- the top is in no set of a side
none_top : (height top side : ℕ) (q : List ℕ) → 0 < top → side / 2 ≡ top → IsSetOf height side q → has q top ≡ false
none_top height top side q positive is set =
    false_from_ne_true (has q top) (λ at. false≢true (sym (top_apart height top side positive is) ∙ set.within top at))

IsFound-both : (height top : ℕ) (q p : List ℕ) → IsFound height (left_of top) q → IsFound height (right_of top) p → IsFound (suc height) top (union_of q p)
IsFound-both height top q p left right = record {
  set = IsSetOf-both height top q p left.set right.set;
  found = λ positive servers agree.
      fork_found height top servers false Member Member
      (agree top (stands_in-top (suc height) top)
      ∙ (has-joined q p top
      ∙ or_from (has q top) (has p top) (none_top height top (left_of top) q positive (omega arith) left.set)
      (none_top height top (right_of top) p positive (omega arith) right.set)))
      (left.found (omega arith) servers
      (λ s under.
      agree s (stands_in-left height top s under)
      ∙ (has-joined q p s ∙ rw (none_left height top s p positive right.set under) (or-false (has q s)))))
      (right.found (omega arith) servers
      (λ s under.
      agree s (stands_in-right height top s under)
      ∙ (has-joined q p s ∙ rw (none_right height top s q positive left.set under) refl)));
}

pub part_of-member : (height top : ℕ) (member : List ℕ) → 0 < top → Contains (members height top) member → part_of height top member ≡ Member
part_of-member height top member positive at =
    let all = members-all IsFound IsFound-leaf IsFound-left IsFound-right IsFound-both height top in
    let is = All-contains (IsFound height top) (members height top) member all at in
    is.found positive member (λ s under. refl)

-- ---- what is found is a member

-- the servers of the subtree that the set has, in order
abbrev listing : ℕ → ℕ → List ℕ → List ℕ
listing zero top servers = cond (has servers top) (top ∷ []) []
listing (suc height) top servers =
    let below = union_of (listing height (left_of top) servers) (listing height (right_of top) servers) in
    cond (has servers top) (top ∷ below) below

-- what each part says of the listing
abbrev IsPart : ℕ → ℕ → List ℕ → Overlap → Type 0
IsPart height top servers Empty = listing height top servers ≡ []
IsPart height top servers Member = Contains (members height top) (listing height top servers)
IsPart height top servers Neither = Unit {0}

listing-leaf : (top : ℕ) (servers : List ℕ) (here : Bool) → has servers top ≡ here → IsPart zero top servers (cond here Member Empty)
listing-leaf top servers true e = rw e (Contains-leaf top)
listing-leaf top servers false e = rw e refl

pub Ascends-member : (height top : ℕ) (q : List ℕ) → 0 < top → Contains (members height top) q → Ascends 0 q
Ascends-member height top q positive at = (member-set height top q at).ascends positive 0 positive

listing-fork : (height top : ℕ) (servers : List ℕ) (here : Bool) (left right : Overlap) → 0 < top → has servers top ≡ here → IsPart height (left_of top) servers left → IsPart height (right_of top) servers right → IsPart (suc height) top servers (part_from_sides here left right)
listing-fork height top servers true Member Empty positive e f g =
    let q = listing height (left_of top) servers in
    let alone = joined-nil 0 q (Ascends-member height (left_of top) q (omega arith) f) in
    rw (e, g, alone) (Contains-with_left height top q f)
listing-fork height top servers true Empty Member positive e f g =
    rw (e, f) (Contains-with_right height top (listing height (right_of top) servers) g)
listing-fork height top servers false Member Member positive e f g =
    rw e (Contains-both height top (listing height (left_of top) servers) (listing height (right_of top) servers) f g)
listing-fork height top servers false Empty Empty positive e f g = rw (e, f, g) refl
listing-fork height top servers true Member Member positive e f g = tt
listing-fork height top servers true Member Neither positive e f g = tt
listing-fork height top servers true Empty Empty positive e f g = tt
listing-fork height top servers true Empty Neither positive e f g = tt
listing-fork height top servers true Neither right positive e f g = tt
listing-fork height top servers false Member Empty positive e f g = tt
listing-fork height top servers false Member Neither positive e f g = tt
listing-fork height top servers false Empty Member positive e f g = tt
listing-fork height top servers false Empty Neither positive e f g = tt
listing-fork height top servers false Neither right positive e f g = tt

listing-part : (height top : ℕ) (servers : List ℕ) → 0 < top → IsPart height top servers (part_of height top servers)
unfolding part_of
listing-part zero top servers positive = listing-leaf top servers (has servers top) refl
listing-part (suc height) top servers positive =
    listing-fork height top servers (has servers top) (part_of height (left_of top) servers) (part_of height (right_of top) servers) positive refl
    (listing-part height (left_of top) servers (omega arith))
    (listing-part height (right_of top) servers (omega arith))

-- the listing is a set of the subtree, and has what the set has there
IsSetOf-nil : (height top : ℕ) → IsSetOf height top []
IsSetOf-nil height top = record { ascends = λ positive low below. tt; within = λ s at. absurd (false≢true at) }

IsSetOf-cond : (height top : ℕ) (here : Bool) (xs ys : List ℕ) → IsSetOf height top xs → IsSetOf height top ys → IsSetOf height top (cond here xs ys)
IsSetOf-cond height top true xs ys set other = set
IsSetOf-cond height top false xs ys set other = other

-- the top before a set of the two sides
IsSetOf-top : (height top : ℕ) (q p : List ℕ) → IsSetOf height (left_of top) q → IsSetOf height (right_of top) p → IsSetOf (suc height) top (top ∷ union_of q p)
IsSetOf-top height top q p left right = record {
  ascends = λ positive low below. (
    below,
    Ascends-joined top q p (left.ascends (omega arith) top (omega arith)) (right.ascends (omega arith) top (omega arith))
        (sides_members_apart height top q p positive left right),
  );
  within = λ s at. top_or height top s (union_of q p) at (λ t there. (IsSetOf-both height top q p left right).within t there);
}

listing-set : (height top : ℕ) (servers : List ℕ) → IsSetOf height top (listing height top servers)
listing-set zero top servers =
    IsSetOf-cond zero top (has servers top) (top ∷ []) [] (IsSetOf-leaf top) (IsSetOf-nil zero top)
listing-set (suc height) top servers =
    let left = listing-set height (left_of top) servers in
    let right = listing-set height (right_of top) servers in
    let q = listing height (left_of top) servers in
    let p = listing height (right_of top) servers in
    IsSetOf-cond (suc height) top (has servers top) (top ∷ union_of q p) (union_of q p) (IsSetOf-top height top q p left right) (IsSetOf-both height top q p left right)

has-cond : (here : Bool) (top s : ℕ) (xs : List ℕ) → has (cond here (top ∷ xs) xs) s ≡ ((here && eqb top s) || has xs s)
has-cond true top s xs = refl
has-cond false top s xs = refl

-- in the set there, if it stands here
here_or : (servers : List ℕ) (top s : ℕ) (below : Bool) → ((has servers top && eqb top s) || (below && has servers s)) ≡ ((eqb top s || below) && has servers s)
here_or servers top s below =
    elim (cases_Bool (eqb top s)) [
      | inl same ↦
          let one : has servers top ≡ has servers s = ap (has servers) (eqb-true top s same) in
          rw (same, one) (by_here (has servers s) below)
      | inr other ↦ rw (other, and-false (has servers top)) refl
    ]
  where
    by_here : (b c : Bool) → ((b && true) || (c && b)) ≡ b
    by_here true c = refl
    by_here false true = refl
    by_here false false = refl

has-listing : (height top : ℕ) (servers : List ℕ) (s : ℕ) → has (listing height top servers) s ≡ (stands_in height top s && has servers s)
unfolding stands_in
has-listing zero top servers s =
    has-cond (has servers top) top s [] ∙ (here_or servers top s false ∙ rw (or-false (eqb top s)) refl)
has-listing (suc height) top servers s =
    let q = listing height (left_of top) servers in
    let p = listing height (right_of top) servers in
    let left = stands_in height (left_of top) s in
    let right = stands_in height (right_of top) s in
    has-cond (has servers top) top s (union_of q p)
    ∙ (rw (has-joined q p s, has-listing height (left_of top) servers s, has-listing height (right_of top) servers s, sym (and-or_distrib_right left right (has servers s)))
    (here_or servers top s (left || right)))

-- a set of servers of the subtree is what it lists there
pub listing-is : (height top : ℕ) (servers : List ℕ) → 0 < top → Ascends 0 servers → ((s : ℕ) → has servers s ≡ true → stands_in height top s ≡ true) → listing height top servers ≡ servers
listing-is height top servers positive up within =
    same_set 0 (listing height top servers) servers ((listing-set height top servers).ascends positive 0 positive) up
    (λ s. has-listing height top servers s ∙ stands s (has servers s) refl)
  where
    stands : (s : ℕ) (at : Bool) → has servers s ≡ at → (stands_in height top s && has servers s) ≡ has servers s
    stands s true e = rw (within s e, e) refl
    stands s false e = rw e (and-false (stands_in height top s))

pub member-part_of : (height top : ℕ) (servers : List ℕ) → 0 < top → Ascends 0 servers → ((s : ℕ) → has servers s ≡ true → stands_in height top s ≡ true) → part_of height top servers ≡ Member → Contains (members height top) servers
member-part_of height top servers positive up within is =
    let P : List ℕ → Type 0 = λ xs. Contains (members height top) xs in
    subst P (listing-is height top servers positive up within) (rw is at (listing-part height top servers positive))

-- ---- the parts, for a server of a tree

pub part_of-leaf : (height top : ℕ) (servers : List ℕ) (here : Bool) → height ≡ 0 → has servers top ≡ here → part_of height top servers ≡ cond here Member Empty
unfolding part_of
part_of-leaf height top servers here low e = rw (low, e) refl

pub part_of-fork : (height below other top left_top right_top : ℕ) (servers : List ℕ) (here : Bool) (left right : Overlap) → height ≡ suc below → height ≡ suc other → left_top ≡ left_of top → right_top ≡ right_of top → has servers top ≡ here → left ≡ part_of below left_top servers → right ≡ part_of other right_top servers → part_of height top servers ≡ part_from_sides here left right
unfolding part_of
part_of-fork height below other top left_top right_top servers here left right one two is_left is_right e f g =
    let same : other ≡ below = omega arith in
    rw (one, e, f, g, is_left, is_right, same) refl

-- ---- the three tests of a member of the whole tree

All-from_has : (P : ℕ → Type 0) (xs : List ℕ) → ((s : ℕ) → has xs s ≡ true → P s) → All P xs
All-from_has P [] each = All-nil P
All-from_has P (x ∷ xs) each =
    All-cons P x xs (each x (or_left (eqb x x) (has xs x) (eq-eqb x x refl)))
    (All-from_has P xs (λ s at. each s (or_right (eqb x s) (has xs s) at)))

has-All : (P : ℕ → Type 0) (xs : List ℕ) (s : ℕ) → All P xs → has xs s ≡ true → P s
has-All P [] s all at = absurd (false≢true at)
has-All P (x ∷ xs) s all at =
    elim (or_cases (eqb x s) (has xs s) at) [
      | inl here ↦ subst P (eqb-true x s here) (All-head P x xs all)
      | inr there ↦ has-All P xs s (All-tail P x xs all) there
    ]

has-positive : (s : ℕ) (xs : List ℕ) → Ascends 0 xs → has xs s ≡ true → 0 < s
has-positive s xs up at =
    elim (cases_lt 0 s) [
      | inl more ↦ more
      | inr none ↦ absurd (false≢true (sym (has-below 0 s xs up none) ∙ at))
    ]

pub record IsTested (levels : ℕ) (servers : List ℕ) : Type 0 where
  pub ascends : Ascends 0 servers
  pub within : All (λ number. number < 2 ^ levels) servers
  pub part : part_of (height_of levels 1) 1 servers ≡ Member

levels-suc : (levels : ℕ) → 1 ≤ levels → suc (levels - 1) ≡ levels
levels-suc levels some = omega arith

pub member-tested : (levels : ℕ) (servers : List ℕ) → 1 ≤ levels → Contains (coterie levels) servers → IsTested levels servers
member-tested levels servers some at =
    let set = member-set (levels - 1) 1 servers at in
    record {
      ascends = set.ascends (omega arith) 0 (omega arith);
      within =
          All-from_has (λ number. number < 2 ^ levels) servers
          (λ s here. rw (levels-suc levels some) at (server-stands_in (levels - 1) s (set.within s here)).1);
      part = rw (height_of-one levels) (part_of-member (levels - 1) 1 servers (omega arith) at);
    }

pub tested-member : (levels : ℕ) (servers : List ℕ) → 1 ≤ levels → IsTested levels servers → Contains (coterie levels) servers
tested-member levels servers some tested =
    member-part_of (levels - 1) 1 servers (omega arith) tested.ascends
    (λ s here.
    let below : s < 2 ^ levels = has-All (λ number. number < 2 ^ levels) servers s tested.within here in
    stands_in-server (levels - 1) s (has-positive s servers tested.ascends here) (rw (levels-suc levels some) below))
    (rw (height_of-one levels) at tested.part)

-- the numbers of a member are servers of its tree
pub member-servers : (levels : ℕ) (servers : List ℕ) → 1 ≤ levels → Contains (coterie levels) servers → All (IsServer levels) servers
member-servers levels servers some at =
    let tested = member-tested levels servers some at in
    All-from_has (IsServer levels) servers
    (λ s here. (has-positive s servers tested.ascends here, has-All (λ number. number < 2 ^ levels) servers s tested.within here))

pub numbers_of-servers_of : (levels : ℕ) (numbers : List ℕ) → numbers_of (servers_of levels numbers) ≡ numbers
numbers_of-servers_of levels [] = refl
numbers_of-servers_of levels (n ∷ numbers) = ap (λ ns. n ∷ ns) (numbers_of-servers_of levels numbers)

pub IsMemberList-servers_of : (levels : ℕ) (numbers : List ℕ) → Contains (coterie levels) numbers → IsMemberList levels (servers_of levels numbers)
IsMemberList-servers_of levels numbers member =
    let same = numbers_of-servers_of levels numbers in
    record { member = rw same member; tree = rw same refl }
