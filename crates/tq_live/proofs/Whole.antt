-- A whole tree of nodes and what callers see of it.
use Rattle.std.proofs.Common.{◌≡◌, ℕ, ◌+◌, ◌-◌, ◌*◌, ◌/◌, ◌^◌, ◌<◌, ◌≤◌, ◌==◌, ◌≢◌, ◌⊎◌, zero, suc, List, [], ◌∷◌, Bool, true, false, not, cond, Option, Some, None, map, set, replicate, refl, sym, ap, subst, ◌∙◌, inl, inr, arith}
use Rattle.std.proofs.{Math.Nat.{pow-suc, pow-le-pow_right, div-eq_of_lt-le}, lemmas.Nat.pow_pos}
use Rattle.std.proofs.lemmas.{Bool.{cases_lt, cases_eq, eq-eqb, ne_eqb}, List.FromFn.get_or-map-range_with_len}
use Rattle.std.specs.List.{range_with_len}
use Rattle.tq_shape.specs.Tree.{IsServer, left_of, right_of, depth_of, height_of}
use Rattle.tq_shape.proofs.Tree.{depth_of-bounds, depth_of-side}
use Rattle.tq_live.specs.{Least.{least_member, changed_set, pair}, Live.{Live, costs_of, is_up}}
use Rattle.tq_live.specs.Kept.{cost_for, allowed_for, found_set, found_weight, form_of, by_form, allowed_here, with_here, goes_left_at, weight_here, weight_of, form_in, found_in, under, changed_under, caches_on_way, top_of, IsComplete, StandsAt, even, seen_at, costs_at, mark_at, live_of, changed_live, IsAt}
use Rattle.tq_live.specs.{Subtree.{Subtree, Alone, Over}, Costs.{even_costs, no_costs}, declared.costs.Costs.Costs}
use Rattle.tq_live.specs.declared.{least.SearchFor.{SearchFor, TheVariants.{Quorum, Blocker}}, costs.Setting.Setting}
use Rattle.tq_live.{specs.declared.costs.Setting.TheVariants.{Cost, Mark}, proofs.Repair.{IsFork, fork_member}}
use Rattle.tq_live.proofs.LeastMembers.{top_weight, least_weight, least_weight-leaf, least_weight-from, with_top, least_member-leaf}
use Rattle.tq_live.proofs.Ways.{left_side, right_side, under-step, under-left, under-right, complete-under, caches-complete, seen_after, changed-here, changed-elsewhere}

-- ---- depths

pub depth-below : (levels number : ℕ) → IsServer levels number → depth_of number < levels
depth-below levels number is =
    let depth = depth_of number in
    let bounds = depth_of-bounds number is.0 in
    elim (cases_lt depth levels) [
      | inl less ↦ less
      | inr more ↦ let power : 2 ^ levels ≤ 2 ^ depth = pow-le-pow_right (omega arith) more in absurd (omega (arith, bounds))
    ]

way-top : (number : ℕ) → 0 < number → number / 2 ^ depth_of number ≡ 1
way-top number positive =
    let bounds = depth_of-bounds number positive in
    div-eq_of_lt-le {k = 1} (2 ^ depth_of number) {m = number} (omega (arith, bounds)) (omega (arith, bounds))

-- ---- what is seen of one server

pub costs_of-live : (levels : ℕ) (tree : Subtree) (number : ℕ) → IsServer levels number → costs_of (live_of levels tree) number ≡ costs_at tree number
costs_of-live levels tree number is =
    get_or-map-range_with_len (costs_at tree) 1 (2 ^ levels - 1) (number - 1) number no_costs (omega (arith, is.0, is.1)) (omega (arith, is.0))

pub is_up-live : (levels : ℕ) (tree : Subtree) (number : ℕ) → IsServer levels number → is_up (live_of levels tree) number ≡ mark_at tree number
is_up-live levels tree number is =
    get_or-map-range_with_len (mark_at tree) 1 (2 ^ levels - 1) (number - 1) number false (omega (arith, is.0, is.1)) (omega (arith, is.0))

-- ---- what is seen of a subtree

IsAt-from : (levels : ℕ) (root tree : Subtree) (height top : ℕ) → IsComplete (levels - 1) root → IsComplete height tree → IsServer levels top → depth_of top + height + 1 ≡ levels → under root (depth_of top) top ≡ tree → IsAt (live_of levels root) top tree
unfolding height_of
IsAt-from levels root (Alone costs up) height top whole complete is deep at =
    let low : height ≡ 0 = complete in (
      is,
      omega arith,
      costs_of-live levels root top is ∙ ap (λ t. (top_of t).0) at,
      is_up-live levels root top is ∙ ap (λ t. (top_of t).1) at,
    )
IsAt-from levels root (Over costs up left right) height top whole complete is deep at =
    let high : 0 < height = complete.0 in
    let depth = depth_of top in
    let bounds = depth_of-bounds top is.0 in
    let left_deeper : depth_of (left_of top) ≡ depth + 1 = depth_of-side top (left_of top) is.0 (omega arith) in
    let right_deeper : depth_of (right_of top) ≡ depth + 1 = depth_of-side top (right_of top) is.0 (omega arith) in
    let power : 2 ^ suc (suc depth) ≤ 2 ^ levels = pow-le-pow_right (omega arith) (omega arith) in
    let double : 2 ^ suc (suc depth) ≡ 2 ^ suc depth * 2 = pow-suc 2 (suc depth) in
    let double' : 2 ^ suc depth ≡ 2 ^ depth * 2 = pow-suc 2 depth in
    let next : depth + 1 ≡ suc depth = omega arith in
    let left_is : IsServer levels (left_of top) = (omega (arith, is.0), omega (arith, bounds)) in
    let right_is : IsServer levels (right_of top) = (omega arith, omega (arith, bounds)) in
    let left_at : under root (depth_of (left_of top)) (left_of top) ≡ left =
    ap (λ d. under root d (left_of top)) (left_deeper ∙ next) ∙ (under-left root (levels - 1) depth top whole (omega arith) ∙ ap left_side at) in
    let right_at : under root (depth_of (right_of top)) (right_of top) ≡ right =
    ap (λ d. under root d (right_of top)) (right_deeper ∙ next) ∙ (under-right root (levels - 1) depth top whole (omega arith) ∙ ap right_side at) in (
      is,
      omega arith,
      omega arith,
      costs_of-live levels root top is ∙ ap (λ t. (top_of t).0) at,
      is_up-live levels root top is ∙ ap (λ t. (top_of t).1) at,
      IsAt-from levels root left (height - 1) (left_of top) whole complete.1.0 left_is (omega arith) left_at,
      IsAt-from levels root right (height - 1) (right_of top) whole complete.1.1 right_is (omega arith) right_at,
    )

-- the node of a server is that of its subtree
pub IsAt-under : (levels : ℕ) (root : Subtree) (top : ℕ) → IsComplete (levels - 1) root → IsServer levels top → IsAt (live_of levels root) top (under root (depth_of top) top)
IsAt-under levels root top whole is =
    let below = depth-below levels top is in
    IsAt-from levels root (under root (depth_of top) top) (levels - 1 - depth_of top) top whole (complete-under root (levels - 1) (depth_of top) top whole (omega arith)) is (omega arith) refl

-- ---- what is found there

pub StandsAt-IsAt : (live : Live) (top : ℕ) (tree : Subtree) → IsAt live top tree → StandsAt live.levels top tree
StandsAt-IsAt live top (Alone costs up) at = at.0
StandsAt-IsAt live top (Over costs up left right) at = (at.0, (StandsAt-IsAt live (left_of top) left at.5, StandsAt-IsAt live (right_of top) right at.6))

same_here : (live : Live) (sought : SearchFor) (top : ℕ) (costs : Costs) (up : Bool) → costs_of live top ≡ costs → is_up live top ≡ up → weight_here sought costs up ≡ top_weight (cost_for live sought) (allowed_for live sought) top
same_here live (Quorum purpose) top costs up e f = rw (← e, ← f) refl
same_here live Blocker top costs up e f = either up ∙ ap none_at (sym f)
  where
    none_at : Bool → Option ℕ
    none_at mark = cond (not mark) (Some 0) None

    either : (mark : Bool) → cond mark None (Some 0) ≡ none_at mark
    either true = refl
    either false = refl

pub weight_of-IsAt : (live : Live) (sought : SearchFor) (top : ℕ) (tree : Subtree) → IsAt live top tree → weight_of sought tree ≡ found_weight live sought top
weight_of-IsAt live sought top (Alone costs up) at =
    let height = height_of live.levels top in
    same_here live sought top costs up at.2 at.3
    ∙ (sym (least_weight-leaf (cost_for live sought) (allowed_for live sought) top)
    ∙ ap (λ h. least_weight (cost_for live sought) (allowed_for live sought) h top) (sym at.1))
weight_of-IsAt live sought top (Over costs up left right) at =
    let here = weight_here sought costs up in
    let l = weight_of sought left in
    let r = weight_of sought right in
    least_weight-from (cost_for live sought) (allowed_for live sought) (height_of live.levels top) (height_of live.levels (left_of top)) (height_of live.levels (right_of top)) top (left_of top) (right_of top)
    here l r (weight_of sought (Over costs up left right))
    at.1 at.2 refl refl
    (same_here live sought top costs up at.3 at.4)
    (weight_of-IsAt live sought (left_of top) left at.5)
    (weight_of-IsAt live sought (right_of top) right at.6)
    refl

top_found : (live : Live) (sought : SearchFor) (top : ℕ) (up : Bool) (set : Option (List ℕ)) → is_up live top ≡ up → cond (allowed_here sought up) set None ≡ cond (allowed_for live sought top) set None
top_found live (Quorum purpose) top up set f = ap (λ b. cond b set None) (sym f)
top_found live Blocker top up set f = ap (λ b. cond (not b) set None) (sym f)

pub found_in-IsAt : (live : Live) (sought : SearchFor) (top : ℕ) (tree : Subtree) → IsAt live top tree → found_in sought top tree ≡ found_set live sought top
found_in-IsAt live sought top (Alone costs up) at =
    top_found live sought top up (Some (top ∷ [])) at.3
    ∙ (sym (least_member-leaf (cost_for live sought) (allowed_for live sought) top)
    ∙ ap (λ h. least_member (cost_for live sought) (allowed_for live sought) h top) (sym at.1))
found_in-IsAt live sought top (Over costs up left right) at =
    let weigh = cost_for live sought in
    let allowed = allowed_for live sought in
    let height = height_of live.levels top in
    let below = height_of live.levels (left_of top) in
    let other = height_of live.levels (right_of top) in
    let in_left = found_in sought (left_of top) left in
    let in_right = found_in sought (right_of top) right in
    let found_left = least_member weigh allowed below (left_of top) in
    let found_right = least_member weigh allowed other (right_of top) in
    let form = form_in sought (Over costs up left right) in
    let lefts : in_left ≡ found_left = found_in-IsAt live sought (left_of top) left at.5 in
    let rights : in_right ≡ found_right = found_in-IsAt live sought (right_of top) right at.6 in
    let fork : IsFork weigh allowed height top below (left_of top) other (right_of top) = record { left_height = at.1; right_height = at.2; left_is = refl; right_is = refl } in
    let form_is : form ≡ form_of (top_weight weigh allowed top) (least_weight weigh allowed below (left_of top)) (least_weight weigh allowed other (right_of top)) =
    rw (same_here live sought top costs up at.3 at.4, weight_of-IsAt live sought (left_of top) left at.5, weight_of-IsAt live sought (right_of top) right at.6) refl in
    let one : with_here sought up top in_left ≡ with_top allowed top found_left = top_found live sought top up (changed_set (λ set. top ∷ set) in_left) at.4 ∙ ap (with_top allowed top) lefts in
    let two : with_here sought up top in_right ≡ with_top allowed top found_right = top_found live sought top up (changed_set (λ set. top ∷ set) in_right) at.4 ∙ ap (with_top allowed top) rights in
    ap (λ a. by_form form a (with_here sought up top in_right) (pair in_left in_right)) one
    ∙ (ap (λ b. by_form form (with_top allowed top found_left) b (pair in_left in_right)) two
    ∙ (ap (λ l. by_form form (with_top allowed top found_left) (with_top allowed top found_right) (pair l in_right)) lefts
    ∙ (ap (λ r. by_form form (with_top allowed top found_left) (with_top allowed top found_right) (pair found_left r)) rights
    ∙ sym (fork_member weigh allowed height top below (left_of top) other (right_of top) form fork form_is))))

-- ---- a change at a server

seen_at-changed : (levels : ℕ) (root : Subtree) (number other : ℕ) (change : Setting) → IsComplete (levels - 1) root → IsServer levels number → IsServer levels other → seen_at (changed_under root (depth_of number) number change) other ≡ cond (number == other) (seen_after change (seen_at root number)) (seen_at root other)
seen_at-changed levels root number other change whole is other_is =
    let low = depth-below levels number is in
    let low' = depth-below levels other other_is in
    elim (cases_eq number other) [
      | inl same ↦
          subst (λ n. seen_at (changed_under root (depth_of number) number change) n ≡ cond (number == n) (seen_after change (seen_at root number)) (seen_at root n)) same
          (changed-here root (levels - 1) (depth_of number) number change whole (omega arith)
          ∙ sym (ap (λ b. cond b (seen_after change (seen_at root number)) (seen_at root number)) (eq-eqb number number refl)))
      | inr differ ↦
          changed-elsewhere root (levels - 1) (depth_of number) number (depth_of other) other change whole (omega arith) (omega arith) (way-top number is.0 ∙ sym (way-top other other_is.0)) differ
          ∙ sym (ap (λ b. cond b (seen_after change (seen_at root number)) (seen_at root other)) (ne_eqb number other differ))
    ]

-- what is the same at each number is the same list
same_range : {A : Type 0} (f g : ℕ → A) (first count : ℕ) → ((number : ℕ) → first ≤ number → number < first + count → f number ≡ g number) → map f (range_with_len first count) ≡ map g (range_with_len first count)
same_range f g first zero same = refl
same_range f g first (suc count) same =
    let head : f first ≡ g first = same first (omega arith) (omega arith) in
    let tail = same_range f g (first + 1) count (λ number after before. same number (omega arith) (omega arith)) in
    rw (head, tail) refl

-- a change at one number is a change at its place
set_range : {A : Type 0} (f g : ℕ → A) (value : A) (changed first count place : ℕ) → changed ≡ first + place → ((number : ℕ) → first ≤ number → number < first + count → g number ≡ cond (changed == number) value (f number)) → map g (range_with_len first count) ≡ set (map f (range_with_len first count)) place value
set_range f g value changed first zero place at each = refl
set_range f g value changed first (suc count) zero at each =
    let here : (changed == first) ≡ true = eq-eqb changed first (omega arith) in
    let head : g first ≡ value = each first (omega arith) (omega arith) ∙ ap (λ b. cond b value (f first)) here in
    let tail = same_range g f (first + 1) count (λ number after before. each number (omega arith) (omega arith) ∙ ap (λ b. cond b value (f number)) (ne_eqb changed number (λ same. absurd (omega arith)))) in
    rw (head, tail) refl
set_range f g value changed first (suc count) (suc place) at each =
    let there : (changed == first) ≡ false = ne_eqb changed first (λ same. absurd (omega arith)) in
    let head : g first ≡ f first = each first (omega arith) (omega arith) ∙ ap (λ b. cond b value (f first)) there in
    let tail = set_range f g value changed (first + 1) count place (omega arith) (λ number after before. each number (omega arith) (omega arith)) in
    rw (head, tail) refl

same_live : (levels : ℕ) (costs others : List Costs) (up marks : List Bool) → costs ≡ others → up ≡ marks → let live : Live = record { levels = levels; costs = costs; up = up } in let other : Live = record { levels = levels; costs = others; up = marks } in live ≡ other
same_live levels costs others up marks same also = rw (same, also) refl

pub live_of-cost : (levels : ℕ) (root : Subtree) (number : ℕ) (costs : Costs) → IsComplete (levels - 1) root → IsServer levels number → live_of levels (changed_under root (depth_of number) number (Cost costs)) ≡ record (live_of levels root) { costs = set (live_of levels root).costs (number - 1) costs }
live_of-cost levels root number costs whole is =
    let after = changed_under root (depth_of number) number (Cost costs) in
    same_live levels _ _ _ _
    (set_range (costs_at root) (costs_at after) costs number 1 (2 ^ levels - 1) (number - 1) (omega (arith, is.0))
    (λ other from below. ap (λ s. s.0) (seen_at-changed levels root number other (Cost costs) whole is (from, omega (arith, pow_pos levels)))
    ∙ first_of (number == other) (seen_after (Cost costs) (seen_at root number)) (seen_at root other)))
    (same_range (mark_at after) (mark_at root) 1 (2 ^ levels - 1)
    (λ other from below. ap (λ s. s.1) (seen_at-changed levels root number other (Cost costs) whole is (from, omega (arith, pow_pos levels)))
    ∙ same_mark other (cases_eq number other)))
  where
    first_of : (b : Bool) (x y : Costs × Bool) → (cond b x y).0 ≡ cond b x.0 y.0
    first_of true x y = refl
    first_of false x y = refl

    same_mark : (other : ℕ) → (number ≡ other) ⊎ (number ≢ other) → (cond (number == other) (seen_after (Cost costs) (seen_at root number)) (seen_at root other)).1 ≡ mark_at root other
    same_mark other (inl same) = ap (λ b. (cond b (seen_after (Cost costs) (seen_at root number)) (seen_at root other)).1) (eq-eqb number other same) ∙ ap (mark_at root) same
    same_mark other (inr differ) = ap (λ b. (cond b (seen_after (Cost costs) (seen_at root number)) (seen_at root other)).1) (ne_eqb number other differ)

pub live_of-mark : (levels : ℕ) (root : Subtree) (number : ℕ) (up : Bool) → IsComplete (levels - 1) root → IsServer levels number → live_of levels (changed_under root (depth_of number) number (Mark up)) ≡ record (live_of levels root) { up = set (live_of levels root).up (number - 1) up }
live_of-mark levels root number up whole is =
    let after = changed_under root (depth_of number) number (Mark up) in
    same_live levels _ _ _ _
    (same_range (costs_at after) (costs_at root) 1 (2 ^ levels - 1)
    (λ other from below. ap (λ s. s.0) (seen_at-changed levels root number other (Mark up) whole is (from, omega (arith, pow_pos levels)))
    ∙ same_cost other (cases_eq number other)))
    (set_range (mark_at root) (mark_at after) up number 1 (2 ^ levels - 1) (number - 1) (omega (arith, is.0))
    (λ other from below. ap (λ s. s.1) (seen_at-changed levels root number other (Mark up) whole is (from, omega (arith, pow_pos levels)))
    ∙ second_of (number == other) (seen_after (Mark up) (seen_at root number)) (seen_at root other)))
  where
    second_of : (b : Bool) (x y : Costs × Bool) → (cond b x y).1 ≡ cond b x.1 y.1
    second_of true x y = refl
    second_of false x y = refl

    same_cost : (other : ℕ) → (number ≡ other) ⊎ (number ≢ other) → (cond (number == other) (seen_after (Mark up) (seen_at root number)) (seen_at root other)).0 ≡ costs_at root other
    same_cost other (inl same) = ap (λ b. (cond b (seen_after (Mark up) (seen_at root number)) (seen_at root other)).0) (eq-eqb number other same) ∙ ap (costs_at root) same
    same_cost other (inr differ) = ap (λ b. (cond b (seen_after (Mark up) (seen_at root number)) (seen_at root other)).0) (ne_eqb number other differ)

-- ---- a new tree

complete-even : (height : ℕ) → IsComplete height (even height)
complete-even zero = refl
complete-even (suc height) =
    let back : height ≡ suc height - 1 = omega arith in
    let below = subst (λ h. IsComplete h (even height)) back (complete-even height) in
    (omega arith, (below, below))

pub complete-new : (levels : ℕ) → IsComplete (levels - 1) (even (levels - 1))
complete-new levels = complete-even (levels - 1)

seen-even : (height steps number : ℕ) → top_of (under (even height) steps number) ≡ (even_costs 1, true)
seen-even zero steps number = refl
seen-even (suc height) zero number = refl
seen-even (suc height) (suc steps) number =
    ap top_of (under-step (even_costs 1) true (even height) (even height) steps number) ∙ either (goes_left_at number steps) (seen-even height steps number)
  where
    either : (turn : Bool) → top_of (under (even height) steps number) ≡ (even_costs 1, true) → top_of (cond turn (under (even height) steps number) (under (even height) steps number)) ≡ (even_costs 1, true)
    either true below = below
    either false below = below

replicate_range : {A : Type 0} (value : A) (first count : ℕ) → map (λ n. value) (range_with_len first count) ≡ replicate count value
replicate_range value first zero = refl
replicate_range value first (suc count) = ap (λ rest. value ∷ rest) (replicate_range value (first + 1) count)

pub live_of-even : (levels height : ℕ) → let new : Live = record { levels = levels; costs = replicate (2 ^ levels - 1) (even_costs 1); up = replicate (2 ^ levels - 1) true } in live_of levels (even height) ≡ new
live_of-even levels height =
    same_live levels _ _ _ _
    (same_range (costs_at (even height)) (λ n. even_costs 1) 1 (2 ^ levels - 1) (λ n from below. ap (λ s. s.0) (seen-even height (depth_of n) n)) ∙ replicate_range (even_costs 1) 1 (2 ^ levels - 1))
    (same_range (mark_at (even height)) (λ n. true) 1 (2 ^ levels - 1) (λ n from below. ap (λ s. s.1) (seen-even height (depth_of n) n)) ∙ replicate_range true 1 (2 ^ levels - 1))

pub live_of-changed : (levels : ℕ) (root : Subtree) (number : ℕ) (change : Setting) → IsComplete (levels - 1) root → IsServer levels number → live_of levels (changed_under root (depth_of number) number change) ≡ changed_live (live_of levels root) number change
live_of-changed levels root number (Cost costs) whole is = live_of-cost levels root number costs whole is
live_of-changed levels root number (Mark up) whole is = live_of-mark levels root number up whole is

-- ---- the same, of a tree that is seen so

pub IsAt-node : (levels : ℕ) (root : Subtree) (live : Live) (top steps number : ℕ) (node : Subtree) → live_of levels root ≡ live → IsComplete (levels - 1) root → IsServer live.levels top → steps ≡ depth_of top → number ≡ top → node ≡ under root steps number → IsAt live top node
IsAt-node levels root live top steps number node seen whole is deep same at =
    let there : node ≡ under root (depth_of top) top = at ∙ (ap (λ s. under root s number) deep ∙ ap (λ n. under root (depth_of top) n) same) in
    let within : IsServer levels top = subst (λ (l : Live). IsServer l.levels top) (sym seen) is in
    subst (λ (l : Live). IsAt l top node) seen (subst (λ t. IsAt (live_of levels root) top t) (sym there) (IsAt-under levels root top whole within))

pub live-changed : (levels : ℕ) (root : Subtree) (live : Live) (top steps number : ℕ) (node : Subtree) (change : Setting) → live_of levels root ≡ live → IsComplete (levels - 1) root → IsServer live.levels top → steps ≡ depth_of top → number ≡ top → node ≡ changed_under root steps number change → live_of levels node ≡ changed_live live top change
live-changed levels root live top steps number node change seen whole is deep same at =
    let there : node ≡ changed_under root (depth_of top) top change = at ∙ (ap (λ s. changed_under root s number change) deep ∙ ap (λ n. changed_under root (depth_of top) n change) same) in
    let within : IsServer levels top = subst (λ (l : Live). IsServer l.levels top) (sym seen) is in
    ap (live_of levels) there ∙ (live_of-changed levels root top change whole within ∙ ap (λ (l : Live). changed_live l top change) seen)

pub caches-at : (levels : ℕ) (root : Subtree) (live : Live) (top steps number : ℕ) → live_of levels root ≡ live → IsComplete (levels - 1) root → IsServer live.levels top → steps ≡ depth_of top → caches_on_way root steps number ≡ depth_of top + 1
caches-at levels root live top steps number seen whole is deep =
    let within : IsServer levels top = subst (λ (l : Live). IsServer l.levels top) (sym seen) is in
    let low = depth-below levels top within in
    caches-complete root (levels - 1) steps number whole (omega (arith, deep, low)) ∙ omega (arith, deep)

pub steps-below : (live : Live) (top steps : ℕ) → IsServer live.levels top → steps ≡ depth_of top → steps < live.levels
steps-below live top steps is deep = let low = depth-below live.levels top is in omega (arith, deep, low)
