-- What holds of every member of a coterie, and how one is found in the list. A path from a server down to a leaf is a
-- member of the subtree over that server. Any two members of one tree have a server in common.
use Rattle.std.proofs.Common.{◌≡◌, ℕ, ◌<◌, zero, suc, List, [], ◌∷◌, ◌++◌, map, true, false, ◌||◌, eqb, refl, sym, inl, inr, arith, ap, ◌∙◌, ◌/◌, ◌-◌}
use Rattle.std.proofs.lemmas.Bool.{eqb-true, or_cases, false≢true, false_from_ne_true, cases_eq, or_left, or_right}
use Rattle.std.{proofs.lemmas.List.{get_or-map, length-map}, specs.List.{All, Contains}}
use Rattle.std.proofs.lemmas.List.Elements.{All-nil, All-cons, All-head, All-tail, All-append, All-map, All-weaker, All-contains, Contains-append_left, Contains-append_right}
use Rattle.tq_shape.specs.{Tree.{left_of, right_of, stands_in}, ServerSet.Ascends}
use Rattle.tq_shape.proofs.Tree.{sides_apart, stands_in-top, stands_in-left, stands_in-right}
use Rattle.tq_coterie.specs.Coterie.{union_of, joined_pairs, members, has, Meets, AnyTwoMeet}
use Rattle.tq_coterie.proofs.Sets.{AreApart, Ascends-joined, has-joined, has-head}

-- ---- all members

All-pairs_with : (P R : List ℕ → Type 0) (q : List ℕ) (rights : List (List ℕ)) → ((p : List ℕ) → R p → P (union_of q p)) → All R rights → All P (map (union_of q) rights)
All-pairs_with P R q rights step each =
    All-map P (union_of q) rights (All-weaker R (λ p. P (union_of q p)) step rights each)

All-joined_pairs : (P Q R : List ℕ → Type 0) (lefts rights : List (List ℕ)) → ((q p : List ℕ) → Q q → R p → P (union_of q p)) → All Q lefts → All R rights → All P (joined_pairs lefts rights)
All-joined_pairs P Q R [] rights step each each' = All-nil P
All-joined_pairs P Q R (q ∷ lefts) rights step each each' =
    All-append P (map (union_of q) rights) (joined_pairs lefts rights)
    (All-pairs_with P R q rights (λ p r. step q p (All-head Q q lefts each) r) each')
    (All-joined_pairs P Q R lefts rights step (All-tail Q q lefts each) each')

-- what each of the three forms gives from the members of the sides, all members have
pub members-suc : (P Q R : List ℕ → Type 0) (height top : ℕ) → ((q : List ℕ) → Q q → P (top ∷ q)) → ((p : List ℕ) → R p → P (top ∷ p)) → ((q p : List ℕ) → Q q → R p → P (union_of q p)) → All Q (members height (left_of top)) → All R (members height (right_of top)) → All P (members (suc height) top)
unfolding members
members-suc P Q R height top left right both each_left each_right =
    let lefts = members height (left_of top) in
    let rights = members height (right_of top) in
    All-append P (map (λ q. top ∷ q) lefts ++ map (λ p. top ∷ p) rights) (joined_pairs lefts rights)
    (All-append P (map (λ q. top ∷ q) lefts) (map (λ p. top ∷ p) rights)
    (All-map P (λ q. top ∷ q) lefts (All-weaker Q (λ q. P (top ∷ q)) left lefts each_left))
    (All-map P (λ p. top ∷ p) rights (All-weaker R (λ p. P (top ∷ p)) right rights each_right)))
    (All-joined_pairs P Q R lefts rights both each_left each_right)

pub members-zero : (P : List ℕ → Type 0) (top : ℕ) → P (top ∷ []) → All P (members zero top)
unfolding members
members-zero P top leaf = All-cons P (top ∷ []) [] leaf (All-nil P)

-- induction over the members: what holds of a leaf, and of each of the three forms, holds of all
pub members-all : (P : ℕ → ℕ → List ℕ → Type 0) → ((top : ℕ) → P zero top (top ∷ [])) → ((height top : ℕ) (q : List ℕ) → P height (left_of top) q → P (suc height) top (top ∷ q)) → ((height top : ℕ) (p : List ℕ) → P height (right_of top) p → P (suc height) top (top ∷ p)) → ((height top : ℕ) (q p : List ℕ) → P height (left_of top) q → P height (right_of top) p → P (suc height) top (union_of q p)) → (height top : ℕ) → All (P height top) (members height top)
members-all P leaf left right both zero top = members-zero (P zero top) top (leaf top)
members-all P leaf left right both (suc height) top =
    members-suc (P (suc height) top) (P height (left_of top)) (P height (right_of top)) height top (left height top) (right height top) (both height top)
    (members-all P leaf left right both height (left_of top))
    (members-all P leaf left right both height (right_of top))

-- ---- the place of a member

Contains-map : {X Y : Type 0} (f : X → Y) (xs : List X) (x : X) → Contains xs x → Contains (map f xs) (f x)
Contains-map f xs x at =
    (at.0, rw (length-map xs f) at.1, get_or-map f xs at.0 x (f x) at.1 ∙ ap f at.2)

Contains-joined_pairs : (lefts rights : List (List ℕ)) (q p : List ℕ) → Contains lefts q → Contains rights p → Contains (joined_pairs lefts rights) (union_of q p)
Contains-joined_pairs [] rights q p at at' = absurd (omega (arith, at.1))
Contains-joined_pairs (l ∷ lefts) rights q p (zero, within, is) at' =
    Contains-append_left (map (union_of l) rights) (joined_pairs lefts rights) (union_of q p)
    (rw is (Contains-map (union_of q) rights p at'))
Contains-joined_pairs (l ∷ lefts) rights q p (suc k, within, is) at' =
    Contains-append_right (map (union_of l) rights) (joined_pairs lefts rights) (union_of q p)
    (Contains-joined_pairs lefts rights q p (k, omega arith, is) at')

pub Contains-leaf : (top : ℕ) → Contains (members zero top) (top ∷ [])
unfolding members
Contains-leaf top = (0, omega arith, refl)

pub Contains-with_left : (height top : ℕ) (q : List ℕ) → Contains (members height (left_of top)) q → Contains (members (suc height) top) (top ∷ q)
unfolding members
Contains-with_left height top q at =
    let lefts = members height (left_of top) in
    let rights = members height (right_of top) in
    let with_left = map (λ q. top ∷ q) lefts in
    let with_right = map (λ p. top ∷ p) rights in
    Contains-append_left (with_left ++ with_right) (joined_pairs lefts rights) (top ∷ q)
    (Contains-append_left with_left with_right (top ∷ q) (Contains-map (λ q. top ∷ q) lefts q at))

pub Contains-with_right : (height top : ℕ) (p : List ℕ) → Contains (members height (right_of top)) p → Contains (members (suc height) top) (top ∷ p)
unfolding members
Contains-with_right height top p at =
    let lefts = members height (left_of top) in
    let rights = members height (right_of top) in
    let with_left = map (λ q. top ∷ q) lefts in
    let with_right = map (λ p. top ∷ p) rights in
    Contains-append_left (with_left ++ with_right) (joined_pairs lefts rights) (top ∷ p)
    (Contains-append_right with_left with_right (top ∷ p) (Contains-map (λ p. top ∷ p) rights p at))

pub Contains-both : (height top : ℕ) (q p : List ℕ) → Contains (members height (left_of top)) q → Contains (members height (right_of top)) p → Contains (members (suc height) top) (union_of q p)
unfolding members
Contains-both height top q p at at' =
    let lefts = members height (left_of top) in
    let rights = members height (right_of top) in
    Contains-append_right (map (λ q. top ∷ q) lefts ++ map (λ p. top ∷ p) rights) (joined_pairs lefts rights) (union_of q p)
    (Contains-joined_pairs lefts rights q p at at')

-- ---- each member is an ascending list of servers of the subtree

pub record IsSetOf (height top : ℕ) (servers : List ℕ) : Type 0 where
  pub ascends : 0 < top → (low : ℕ) → low < top → Ascends low servers
  pub within : (s : ℕ) → has servers s ≡ true → stands_in height top s ≡ true

leaf_within : (top s : ℕ) → (eqb top s || false) ≡ true → stands_in zero top s ≡ true
unfolding stands_in
leaf_within top s at = elim (or_cases (eqb top s) false at) [ inl here ↦ here | inr never ↦ absurd (false≢true never) ]

pub IsSetOf-leaf : (top : ℕ) → IsSetOf zero top (top ∷ [])
IsSetOf-leaf top = record {
  ascends = λ positive low below. (below, tt);
  within = λ s at. leaf_within top s at;
}

pub top_or : (height top s : ℕ) (q : List ℕ) → has (top ∷ q) s ≡ true → ((s : ℕ) → has q s ≡ true → stands_in (suc height) top s ≡ true) → stands_in (suc height) top s ≡ true
top_or height top s q at below =
    elim (or_cases (eqb top s) (has q s) at) [
      | inl here ↦ rw (sym (eqb-true top s here)) (stands_in-top (suc height) top)
      | inr there ↦ below s there
    ]

pub IsSetOf-left : (height top : ℕ) (q : List ℕ) → IsSetOf height (left_of top) q → IsSetOf (suc height) top (top ∷ q)
IsSetOf-left height top q set = record {
  ascends = λ positive low below. (below, set.ascends (omega arith) top (omega arith));
  within = λ s at. top_or height top s q at (λ t there. stands_in-left height top t (set.within t there));
}

pub IsSetOf-right : (height top : ℕ) (p : List ℕ) → IsSetOf height (right_of top) p → IsSetOf (suc height) top (top ∷ p)
IsSetOf-right height top p set = record {
  ascends = λ positive low below. (below, set.ascends (omega arith) top (omega arith));
  within = λ s at. top_or height top s p at (λ t there. stands_in-right height top t (set.within t there));
}

-- members of the two sides are apart
pub sides_members_apart : (height top : ℕ) (q p : List ℕ) → 0 < top → IsSetOf height (left_of top) q → IsSetOf height (right_of top) p → AreApart q p
sides_members_apart height top q p positive left right s at =
    false_from_ne_true (has p s)
    (λ there. false≢true (sym (sides_apart height top s positive (left.within s at)) ∙ right.within s there))

pub IsSetOf-both : (height top : ℕ) (q p : List ℕ) → IsSetOf height (left_of top) q → IsSetOf height (right_of top) p → IsSetOf (suc height) top (union_of q p)
IsSetOf-both height top q p left right = record {
  ascends = λ positive low below.
      Ascends-joined low q p (left.ascends (omega arith) low (omega arith)) (right.ascends (omega arith) low (omega arith))
      (sides_members_apart height top q p positive left right);
  within = λ s at.
      elim (or_cases (has q s) (has p s) (sym (has-joined q p s) ∙ at)) [
        | inl there ↦ stands_in-left height top s (left.within s there)
        | inr there ↦ stands_in-right height top s (right.within s there)
      ];
}

pub members-sets : (height top : ℕ) → All (IsSetOf height top) (members height top)
members-sets = members-all IsSetOf IsSetOf-leaf IsSetOf-left IsSetOf-right IsSetOf-both

pub member-set : (height top : ℕ) (q : List ℕ) → Contains (members height top) q → IsSetOf height top q
member-set height top q at = All-contains (IsSetOf height top) (members height top) q (members-sets height top) at

-- ---- paths

-- the top with a member of the subtree over a side of it
pub Contains-with_side : (height top side : ℕ) (q : List ℕ) → side / 2 ≡ top → Contains (members height side) q → Contains (members (suc height) top) (top ∷ q)
Contains-with_side height top side q half at =
    elim (cases_eq (left_of top) side) [
      | inl left ↦ Contains-with_left height top q (rw left at)
      | inr other ↦
          let right : right_of top ≡ side = omega (arith, other, half) in
          Contains-with_right height top q (rw right at)
    ]

-- ---- intersecting

-- the set meets every member
abbrev MeetsAll : ℕ → ℕ → List ℕ → Type 0
MeetsAll height top q = All (Meets q) (members height top)

has-tail : (top s : ℕ) (q : List ℕ) → has q s ≡ true → has (top ∷ q) s ≡ true
has-tail top s q at = or_right (eqb top s) (has q s) at

has-left : (q p : List ℕ) (s : ℕ) → has q s ≡ true → has (union_of q p) s ≡ true
has-left q p s at = has-joined q p s ∙ or_left (has q s) (has p s) at

has-right : (q p : List ℕ) (s : ℕ) → has p s ≡ true → has (union_of q p) s ≡ true
has-right q p s at = has-joined q p s ∙ or_right (has q s) (has p s) at

Meets-top : (top : ℕ) (q p : List ℕ) → Meets (top ∷ q) (top ∷ p)
Meets-top top q p = (top, has-head top q, has-head top p)

MeetsAll-leaf : (top : ℕ) → MeetsAll zero top (top ∷ [])
MeetsAll-leaf top = members-zero (Meets (top ∷ [])) top (Meets-top top [] [])

MeetsAll-left : (height top : ℕ) (q : List ℕ) → MeetsAll height (left_of top) q → MeetsAll (suc height) top (top ∷ q)
MeetsAll-left height top q each =
    members-suc (Meets (top ∷ q)) (Meets q) (λ _. Unit {0}) height top (λ p _. Meets-top top q p) (λ p _. Meets-top top q p)
    (λ l r meets _. (meets.0, has-tail top meets.0 q meets.1, has-left l r meets.0 meets.2))
    each (λ k d within. tt)

MeetsAll-right : (height top : ℕ) (p : List ℕ) → MeetsAll height (right_of top) p → MeetsAll (suc height) top (top ∷ p)
MeetsAll-right height top q each =
    members-suc (Meets (top ∷ q)) (λ _. Unit {0}) (Meets q) height top (λ p _. Meets-top top q p) (λ p _. Meets-top top q p)
    (λ l r _ meets. (meets.0, has-tail top meets.0 q meets.1, has-right l r meets.0 meets.2))
    (λ k d within. tt) each

MeetsAll-both : (height top : ℕ) (q p : List ℕ) → MeetsAll height (left_of top) q → MeetsAll height (right_of top) p → MeetsAll (suc height) top (union_of q p)
MeetsAll-both height top q p left right =
    members-suc (Meets (union_of q p)) (Meets q) (Meets p) height top
    (λ l meets. (meets.0, has-left q p meets.0 meets.1, has-tail top meets.0 l meets.2))
    (λ r meets. (meets.0, has-right q p meets.0 meets.1, has-tail top meets.0 r meets.2))
    (λ l r meets _. (meets.0, has-left q p meets.0 meets.1, has-left l r meets.0 meets.2))
    left right

pub members-meet : (height top : ℕ) (q p : List ℕ) → Contains (members height top) q → Contains (members height top) p → Meets q p
members-meet height top q p at at' =
    let all = members-all MeetsAll MeetsAll-leaf MeetsAll-left MeetsAll-right MeetsAll-both height top in
    All-contains (Meets q) (members height top) p (All-contains (MeetsAll height top) (members height top) q all at) at'

pub any_two-meet : (levels : ℕ) → AnyTwoMeet levels
any_two-meet levels some others at at' = members-meet (levels - 1) 1 some others at at'
