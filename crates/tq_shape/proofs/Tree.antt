-- The depth of a server is the one power of two that its number lies above. Which servers stand in which subtree.
-- Which servers stand at or above another, seen from its parent.
use Rattle.std.proofs.Common.{◌≡◌, ℕ, ◌+◌, ◌-◌, ◌*◌, ◌/◌, ◌^◌, ◌<◌, ◌≤◌, zero, suc, refl, inl, inr, arith, ap, ◌∙◌, true, false, ◌||◌, eqb, sym, ◌≢◌, Option, None, Some, IfSome, IfNone}
use Rattle.std.proofs.lemmas.Bool.{cases_lt, lt-ltb, le-ltb, eqb-true, eq-eqb, or_cases, or_left, or_right, false_from_ne_true, cases_eq}
use Rattle.std.proofs.{lemmas.Nat.pow_pos, Math.Nat.{pow-suc, pow-le-pow_right}}
use Rattle.tq_shape.specs.Tree.{depth_within, depth_of, height_of, stands_in, ancestor, left_of, right_of, Server, IsAtOrAbove, IsSideTowards}

depth_within-low : (steps number : ℕ) → number < 2 → depth_within (suc steps) number ≡ 0
unfolding depth_within
depth_within-low steps number low = rw (lt-ltb number 2 low) refl

depth_within-high : (steps number : ℕ) → 2 ≤ number → depth_within (suc steps) number ≡ 1 + depth_within steps (number / 2)
unfolding depth_within
depth_within-high steps number high = rw (le-ltb number 2 high) refl

depth_within-is : (steps number depth : ℕ) → number ≤ steps → 2 ^ depth ≤ number → number < 2 * 2 ^ depth → depth_within steps number ≡ depth
depth_within-is zero number depth within low high = absurd (omega (arith, pow_pos depth))
depth_within-is (suc steps) number zero within low high = depth_within-low steps number (omega arith)
depth_within-is (suc steps) number (suc depth) within low high =
    let double : 2 ^ suc depth ≡ 2 ^ depth * 2 = pow-suc 2 depth in
    let positive = pow_pos depth in
    let half : depth_within steps (number / 2) ≡ depth =
    depth_within-is steps (number / 2) depth (omega arith) (omega arith) (omega arith) in
    depth_within-high steps number (omega arith) ∙ (ap (λ n. 1 + n) half ∙ omega arith)

-- the depth is d where the number is from 2^d up to below 2^(d+1)
pub depth_of-is : (number depth : ℕ) → 2 ^ depth ≤ number → number < 2 * 2 ^ depth → depth_of number ≡ depth
unfolding depth_of
depth_of-is number depth low high = depth_within-is number number depth (omega arith) low high

pub record IsDepth (number depth : ℕ) : Type 0 where
  pub low : 2 ^ depth ≤ number
  pub high : number < 2 * 2 ^ depth

depth_within-bounds : (steps number : ℕ) → number ≤ steps → 0 < number → IsDepth number (depth_within steps number)
depth_within-bounds zero number within positive = absurd (omega arith)
depth_within-bounds (suc steps) number within positive =
    elim (cases_lt number 2) [
      | inl low ↦ rw (depth_within-low steps number low) (record { low = omega arith; high = omega arith })
      | inr high ↦
          let half : IsDepth (number / 2) (depth_within steps (number / 2)) =
          depth_within-bounds steps (number / 2) (omega arith) (omega arith) in
          let depth = depth_within steps (number / 2) in
          let double : 2 ^ suc depth ≡ 2 ^ depth * 2 = pow-suc 2 depth in
          let next : 1 + depth ≡ suc depth = omega arith in
          rw (depth_within-high steps number high, next) (record { low = omega arith; high = omega arith })
    ]

pub depth_of-bounds : (number : ℕ) → 0 < number → IsDepth number (depth_of number)
unfolding depth_of
depth_of-bounds number positive = depth_within-bounds number number (omega arith) positive

pub depth_of-one : depth_of 1 ≡ 0
depth_of-one = depth_of-is 1 0 (omega arith) (omega arith)

-- a side is one deeper
pub depth_of-side : (number side : ℕ) → 0 < number → side / 2 ≡ number → depth_of side ≡ depth_of number + 1
depth_of-side number side positive is =
    let depth = depth_of number in
    let bounds = depth_of-bounds number positive in
    let double : 2 ^ suc depth ≡ 2 ^ depth * 2 = pow-suc 2 depth in
    let next : depth + 1 ≡ suc depth = omega arith in
    rw next (depth_of-is side (suc depth) (omega (arith, bounds)) (omega (arith, bounds)))

-- a power of two below another has the smaller exponent
lt-pow : (i j : ℕ) → 2 ^ i < 2 ^ j → i < j
lt-pow i j below =
    elim (cases_lt i j) [
      | inl less ↦ less
      | inr more ↦ let power : 2 ^ j ≤ 2 ^ i = pow-le-pow_right (omega arith) more in absurd (omega arith)
    ]

-- a side is one lower
pub height_of-side : (levels number side : ℕ) → 0 < number → side / 2 ≡ number → side < 2 ^ levels → height_of levels number ≡ suc (height_of levels side)
unfolding height_of
height_of-side levels number side positive is within =
    let deeper = depth_of-side number side positive is in
    let bounds = depth_of-bounds side (omega arith) in
    let below : depth_of side < levels = lt-pow (depth_of side) levels (omega (arith, bounds)) in
    omega arith

-- a server whose left side the tree has not is a leaf
pub height_of-leaf : (levels number : ℕ) → 0 < number → 2 ^ levels ≤ 2 * number → height_of levels number ≡ 0
unfolding height_of
height_of-leaf levels number positive beyond =
    let depth = depth_of number in
    let bounds = depth_of-bounds number positive in
    let double : 2 ^ suc (suc depth) ≡ 2 ^ suc depth * 2 = pow-suc 2 (suc depth) in
    let double' : 2 ^ suc depth ≡ 2 ^ depth * 2 = pow-suc 2 depth in
    let below : levels < suc (suc depth) = lt-pow levels (suc (suc depth)) (omega (arith, bounds)) in
    omega arith

pub height_of-one : (levels : ℕ) → height_of levels 1 ≡ levels - 1
unfolding height_of
height_of-one levels = rw depth_of-one refl

-- a tree that has the left side of a server has the right one too
pub right_within : (levels number : ℕ) → number < 2 ^ levels → 0 < number → 2 * number < 2 ^ levels → 2 * number + 1 < 2 ^ levels
right_within zero number within positive left = absurd (omega arith)
right_within (suc levels) number within positive left =
    let double : 2 ^ suc levels ≡ 2 ^ levels * 2 = pow-suc 2 levels in
    omega arith

-- ---- tree

-- the steps from a server up to another
pub record IsAbove (top number : ℕ) : Type 0 where
  pub steps : ℕ
  pub is : ancestor steps number ≡ top
  pub depth : depth_of number ≡ depth_of top + steps

IsAbove-itself : (top number : ℕ) → top ≡ number → IsAbove top number
unfolding ancestor
IsAbove-itself top number e = record { steps = 0; is = sym e; depth = ap depth_of (sym e) ∙ omega arith }

IsAbove-side : (top side number : ℕ) → 0 < top → side / 2 ≡ top → IsAbove side number → IsAbove top number
unfolding ancestor
IsAbove-side top side number positive is above =
    let deeper = depth_of-side top side positive is in
    record { steps = suc above.steps; is = rw above.is is; depth = omega (arith, above.depth) }

pub IsAbove-from_stands_in : (height top number : ℕ) → 0 < top → stands_in height top number ≡ true → IsAbove top number
unfolding stands_in
IsAbove-from_stands_in zero top number positive stands = IsAbove-itself top number (eqb-true top number stands)
IsAbove-from_stands_in (suc height) top number positive stands =
    elim (or_cases (eqb top number) (stands_in height (left_of top) number || stands_in height (right_of top) number) stands) [
      | inl here ↦ IsAbove-itself top number (eqb-true top number here)
      | inr below ↦
          elim (or_cases (stands_in height (left_of top) number) (stands_in height (right_of top) number) below) [
            | inl left ↦
                IsAbove-side top (left_of top) number positive (omega arith)
                (IsAbove-from_stands_in height (left_of top) number (omega arith) left)
            | inr right ↦
                IsAbove-side top (right_of top) number positive (omega arith)
                (IsAbove-from_stands_in height (right_of top) number (omega arith) right)
          ]
    ]

-- what stands under one side does not stand under the other
pub sides_apart : (height top number : ℕ) → 0 < top → stands_in height (left_of top) number ≡ true → stands_in height (right_of top) number ≡ false
sides_apart height top number positive left =
    false_from_ne_true _
    (λ right.
    let low = IsAbove-from_stands_in height (left_of top) number (omega arith) left in
    let high = IsAbove-from_stands_in height (right_of top) number (omega arith) right in
    let one = depth_of-side top (left_of top) positive (omega arith) in
    let other = depth_of-side top (right_of top) positive (omega arith) in
    let steps : low.steps ≡ high.steps = omega (arith, low.depth, high.depth) in
    let same : left_of top ≡ right_of top = sym low.is ∙ (ap (λ n. ancestor n number) steps ∙ high.is) in
    omega (arith, same))

-- a server does not stand under its own sides
pub top_apart : (height top side : ℕ) → 0 < top → side / 2 ≡ top → stands_in height side top ≡ false
top_apart height top side positive is =
    false_from_ne_true _
    (λ below.
    let above = IsAbove-from_stands_in height side top (omega arith) below in
    let deeper = depth_of-side top side positive is in
    omega (arith, above.depth))

pub stands_in-top : (height top : ℕ) → stands_in height top top ≡ true
unfolding stands_in
stands_in-top zero top = eq-eqb top top refl
stands_in-top (suc height) top = or_left (eqb top top) _ (eq-eqb top top refl)

pub stands_in-left : (height top number : ℕ) → stands_in height (left_of top) number ≡ true → stands_in (suc height) top number ≡ true
unfolding stands_in
stands_in-left height top number left = or_right (eqb top number) _ (or_left _ (stands_in height (right_of top) number) left)

pub stands_in-right : (height top number : ℕ) → stands_in height (right_of top) number ≡ true → stands_in (suc height) top number ≡ true
unfolding stands_in
stands_in-right height top number right = or_right (eqb top number) _ (or_right (stands_in height (left_of top) number) _ right)

-- ---- the servers of the whole tree

-- the first step of several up
pub ancestor-first : (steps number : ℕ) → ancestor (suc steps) number ≡ ancestor steps (number / 2)
unfolding ancestor
ancestor-first zero number = refl
ancestor-first (suc steps) number = ap (λ n. n / 2) (ancestor-first steps number)

stands_in-from_ancestor : (steps height top number : ℕ) → ancestor steps number ≡ top → steps ≤ height → stands_in height top number ≡ true
unfolding ancestor stands_in
stands_in-from_ancestor zero height top number is within = rw is (stands_in-top height top)
stands_in-from_ancestor (suc steps) zero top number is within = absurd (omega arith)
stands_in-from_ancestor (suc steps) (suc height) top number is within =
    let side = ancestor steps number in
    let below : stands_in height side number ≡ true = stands_in-from_ancestor steps height side number refl (omega arith) in
    elim (cases_eq side (left_of top)) [
      | inl left ↦ stands_in-left height top number (ap (λ n. stands_in height n number) (sym left) ∙ below)
      | inr other ↦
          let right : side ≡ right_of top = omega (arith, is, other) in
          stands_in-right height top number (ap (λ n. stands_in height n number) (sym right) ∙ below)
    ]

-- the root stands over each server of a tree of one level more than its height
pub stands_in-root : (height number : ℕ) → 0 < number → number < 2 ^ suc height → (steps : ℕ) × (steps ≤ height) × (ancestor steps number ≡ 1)
unfolding ancestor
stands_in-root zero number positive within = (0, omega arith, omega (arith, pow-suc 2 0))
stands_in-root (suc height) number positive within =
    elim (cases_lt number 2) [
      | inl low ↦ (0, omega arith, omega arith)
      | inr high ↦
          let double : 2 ^ suc (suc height) ≡ 2 ^ suc height * 2 = pow-suc 2 (suc height) in
          let half = stands_in-root height (number / 2) (omega arith) (omega arith) in
          (suc half.0, omega (arith, half.1), ancestor-first half.0 number ∙ half.2)
    ]

pub stands_in-server : (height number : ℕ) → 0 < number → number < 2 ^ suc height → stands_in height 1 number ≡ true
stands_in-server height number positive within =
    let up = stands_in-root height number positive within in
    stands_in-from_ancestor up.0 height 1 number up.2 up.1

depth_of-stands_in : (height top number : ℕ) → 0 < top → stands_in height top number ≡ true → (depth_of number ≤ depth_of top + height) × (0 < number)
unfolding stands_in
depth_of-stands_in zero top number positive stands =
    let same = ap depth_of (eqb-true top number stands) in
    (omega arith, omega (arith, eqb-true top number stands))
depth_of-stands_in (suc height) top number positive stands =
    elim (or_cases (eqb top number) (stands_in height (left_of top) number || stands_in height (right_of top) number) stands) [
      | inl here ↦ let same = ap depth_of (eqb-true top number here) in (omega arith, omega (arith, eqb-true top number here))
      | inr below ↦
          elim (or_cases (stands_in height (left_of top) number) (stands_in height (right_of top) number) below) [
            | inl left ↦
                let deeper = depth_of-side top (left_of top) positive (omega arith) in
                let rest = depth_of-stands_in height (left_of top) number (omega arith) left in
                (omega (arith, rest.0), rest.1)
            | inr right ↦
                let deeper = depth_of-side top (right_of top) positive (omega arith) in
                let rest = depth_of-stands_in height (right_of top) number (omega arith) right in
                (omega (arith, rest.0), rest.1)
          ]
    ]

pub server-stands_in : (height number : ℕ) → stands_in height 1 number ≡ true → (0 < number) × (number < 2 ^ suc height)
server-stands_in height number stands =
    let deep = depth_of-stands_in height 1 number (omega arith) stands in
    let bounds = depth_of-bounds number deep.1 in
    let depth = depth_of number in
    let power : 2 ^ depth ≤ 2 ^ height = pow-le-pow_right (omega arith) (omega (arith, deep.0, depth_of-one)) in
    let double : 2 ^ suc height ≡ 2 ^ height * 2 = pow-suc 2 height in
    (deep.1, omega (arith, bounds))

-- ---- towards

pub above-itself : (number : ℕ) → IsAtOrAbove number number
unfolding ancestor
above-itself number = (0, refl)

-- what stands at or above the parent stands above the server
pub above-first : (above number : ℕ) → IsAtOrAbove above (number / 2) → IsAtOrAbove above number
above-first above number found = (suc found.0, ancestor-first found.0 number ∙ found.1)

pub ancestor-most : (steps number : ℕ) → ancestor steps number ≤ number
unfolding ancestor
ancestor-most zero number = omega arith
ancestor-most (suc steps) number = omega (arith, ancestor-most steps number)

-- no side stands at or above server 1
pub none_above_root : (side number : ℕ) → 2 ≤ side → number < 2 → ¬ IsAtOrAbove side number
none_above_root side number high low = λ found. omega (arith, ancestor-most found.0 number, found.1)

-- a side of one server that is not at or above the parent of another, a side of a second, is not at or above that one
pub none_above_child : (side number top : ℕ) → side / 2 ≡ top → number / 2 ≢ top → ¬ IsAtOrAbove side (number / 2) → ¬ IsAtOrAbove side number
unfolding ancestor
none_above_child side number top is other none = λ found. by found.0 found.1
  where
    by : (steps : ℕ) → ancestor steps number ≡ side → ⊥
    by zero here = other (ap (λ n. n / 2) here ∙ is)
    by (suc steps) here = none (steps, sym (ancestor-first steps number) ∙ here)

-- ---- the three answers of `side_towards`

pub found_here : (top below : Server) → below.levels ≡ top.levels → below.number / 2 ≡ top.number → IsSideTowards top below below.number
found_here top below tree parent = record { tree = tree; parent = parent; above = above-itself below.number }

pub found_higher : (top : Server) (number : ℕ) (found : Option Server) → IfSome found (λ side. IsSideTowards top side (number / 2))
    → IfSome found (λ side. IsSideTowards top side number)
found_higher top number None side = side
found_higher top number (Some found) side =
    record { tree = side.tree; parent = side.parent; above = above-first found.number number side.above }

abbrev pub HasNoneTowards : ℕ → ℕ → Type 0
HasNoneTowards top number = (¬ IsAtOrAbove (left_of top) number) × (¬ IsAtOrAbove (right_of top) number)

pub none_at_root : (top number : ℕ) → 0 < top → number < 2 → HasNoneTowards top number
none_at_root top number positive low =
    (none_above_root (left_of top) number (omega arith) low, none_above_root (right_of top) number (omega arith) low)

pub none_higher : (top number : ℕ) (found : Option Server) → number / 2 ≢ top → IfNone found (HasNoneTowards top (number / 2)) → IfNone found (HasNoneTowards top number)
none_higher top number None other none = (
  none_above_child (left_of top) number top (omega arith) other none.0,
  none_above_child (right_of top) number top (omega arith) other none.1,
)
none_higher top number (Some found) other none = none
