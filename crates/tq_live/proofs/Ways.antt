-- A tree of servers may move to another thread. The way down a whole tree of nodes to a server, and what a change
-- there changes.
use denote.Param.Send.{IsSend, sendable, view_send, recorded_send}
use denote.Param.SendFields.{FieldsHave, VariantsHave, declared_send, variants_send, as_row_send}
use denote.Model.Cut.{split_one}
use denote.Model.Local.{Parts, rows}
use denote.Model.Marks.{tied_send}
use denote.Model.Goals.{has_of, part_has, send}
use Rattle.std.proofs.{Crossing.crosses, Math.Nat.{pow-suc, div-div-eq-div-mul}, lemmas.Bool.{eqb-true, eqb-false}}
use Rattle.std.proofs.Common.{◌≡◌, ℕ, ◌+◌, ◌-◌, ◌*◌, ◌/◌, ◌%◌, ◌^◌, ◌<◌, ◌≤◌, ◌==◌, ◌≢◌, zero, suc, Bool, true, false, cond, refl, sym, ap, subst, ◌∙◌, arith}
use Rattle.tq_live.specs.declared.{node.Node.TheInside.Inside, node.Below.Below, node.Sides.Sides, costs.Costs.Costs}
use Rattle.tq_live.specs.{Subtree.{Subtree, Alone, Over}, declared.costs.Setting.Setting}
use Rattle.tq_live.specs.Kept.{goes_left_at, under, changed_under, caches_on_way, costs_after, mark_after, top_of, IsComplete}
use Rattle.tq_live.specs.declared.node.Node.TheDeep as deep
use Rattle.tq_live.specs.contracts.node.Node as Node
use Rattle.tq_live.specs.contracts.node.Node.TheKnot as knot
use Rattle.tq_live.specs.contracts.tree.LiveTree as LiveTree
use Rattle.tq_shape.specs.Tree.{left_of, right_of}

-- ---- one layer may move where what stands below may

sides_send : (p : Parts knot.frame) → IsSend (rows knot.frame p deep.member-Node) → IsSend (knot.at-Sides p)
sides_send p s =
    let R = rows knot.frame p deep.member-Node in
    let fields : FieldsHave IsSend (knot.type-Sides R R).parts = search (sendable, crosses) depth 60 fits 30000 in
    recorded_send (knot.layer-Sides R R) Sides deep.split-Sides (split_one (knot.layer-Sides R R) Sides deep.split-Sides deep.join-Sides deep.joins-Sides) (declared_send (knot.type-Sides R R) fields)

below_send : (p : Parts knot.frame) → IsSend (knot.at-Sides p) → IsSend (knot.at-Below p)
below_send p s =
    let R = knot.at-Sides p in
    let fields : VariantsHave IsSend (knot.type-Below R).parts = search (as_row_send, sendable, crosses) depth 60 fits 30000 in
    recorded_send (knot.layer-Below R) Below deep.split-Below (split_one (knot.layer-Below R) Below deep.split-Below deep.join-Below deep.joins-Below) (variants_send (knot.type-Below R) fields)

fields_send : (p : Parts knot.frame) → IsSend (knot.at-Below p) → IsSend (knot.at-Node p)
fields_send p s =
    let R = knot.at-Below p in
    let fields : FieldsHave IsSend (knot.type-Node R).parts = search (as_row_send, sendable, crosses) depth 60 fits 30000 in
    recorded_send (knot.layer-Node R) Inside deep.split-Node (split_one (knot.layer-Node R) Inside deep.split-Node deep.join-Node deep.joins-Node) (declared_send (knot.type-Node R) fields)

layer_send : (p : Parts knot.frame) → IsSend (rows knot.frame p deep.member-Node) → IsSend (knot.view-Node p)
layer_send p s = let at = fields_send p (below_send p (sides_send p s)) in search (at, view_send)

keeps : (p : Parts knot.frame) → ((j : deep.the_members) → IsSend (rows knot.frame p j)) → (i : deep.the_members) → IsSend (rows knot.frame (knot.step p) i)
keeps p s deep.member-Node = has_of knot.frame send (knot.step p) deep.member-Node (λ d. part_has send (knot.view-Node p) (layer_send p (s deep.member-Node)) d)

node_send : IsSend Node.the_field.row
node_send = tied_send knot.frame knot.step knot.sizes keeps deep.member-Node

pub tree_send : IsSend LiveTree.the_field.row
tree_send = search (node_send, sendable, crosses) depth 60 fits 30000

-- ---- ways

abbrev pub left_side : Subtree → Subtree
left_side (Alone costs up) = Alone costs up
left_side (Over costs up left right) = left

abbrev pub right_side : Subtree → Subtree
right_side (Alone costs up) = Alone costs up
right_side (Over costs up left right) = right

-- ---- numbers on the way

halved : (number steps : ℕ) → number / 2 ^ suc steps ≡ number / 2 ^ steps / 2
halved number steps = ap (λ n. number / n) (pow-suc 2 steps) ∙ sym (div-div-eq-div-mul number (2 ^ steps) 2)

half_first : (number steps : ℕ) → number / 2 ^ suc steps ≡ number / 2 / 2 ^ steps
half_first number steps =
    let turned : 2 ^ steps * 2 ≡ 2 * 2 ^ steps = omega arith in
    ap (λ n. number / n) (pow-suc 2 steps ∙ turned) ∙ sym (div-div-eq-div-mul number 2 (2 ^ steps))

side_way : (top side steps : ℕ) → side / 2 ≡ top → side / 2 ^ suc steps ≡ top / 2 ^ steps
side_way top side steps is = half_first side steps ∙ ap (λ n. n / 2 ^ steps) is

-- ---- one step of each walk

is_zero : (steps : ℕ) → (suc steps == 0) ≡ false
is_zero steps = grind arith

back : (steps : ℕ) → suc steps - 1 ≡ steps
back steps = omega arith

pub under-step : (costs : Costs) (up : Bool) (left right : Subtree) (steps number : ℕ) → under (Over costs up left right) (suc steps) number ≡ cond (goes_left_at number steps) (under left steps number) (under right steps number)
under-step costs up left right steps number =
    ap (λ b. cond b (Over costs up left right) (cond (goes_left_at number (suc steps - 1)) (under left (suc steps - 1) number) (under right (suc steps - 1) number))) (is_zero steps)
    ∙ ap (λ s. cond (goes_left_at number s) (under left s number) (under right s number)) (back steps)

changed-step : (costs : Costs) (up : Bool) (left right : Subtree) (steps number : ℕ) (change : Setting) → changed_under (Over costs up left right) (suc steps) number change ≡ cond (goes_left_at number steps) (Over costs up (changed_under left steps number change) right) (Over costs up left (changed_under right steps number change))
changed-step costs up left right steps number change =
    ap (λ b. cond b (Over (costs_after change costs) (mark_after change up) left right) (cond (goes_left_at number (suc steps - 1)) (Over costs up (changed_under left (suc steps - 1) number change) right) (Over costs up left (changed_under right (suc steps - 1) number change)))) (is_zero steps)
    ∙ ap (λ s. cond (goes_left_at number s) (Over costs up (changed_under left s number change) right) (Over costs up left (changed_under right s number change))) (back steps)

caches-step : (costs : Costs) (up : Bool) (left right : Subtree) (steps number : ℕ) → caches_on_way (Over costs up left right) (suc steps) number ≡ 1 + cond (goes_left_at number steps) (caches_on_way left steps number) (caches_on_way right steps number)
caches-step costs up left right steps number =
    ap (λ b. cond b 1 (1 + cond (goes_left_at number (suc steps - 1)) (caches_on_way left (suc steps - 1) number) (caches_on_way right (suc steps - 1) number))) (is_zero steps)
    ∙ ap (λ s. 1 + cond (goes_left_at number s) (caches_on_way left s number) (caches_on_way right s number)) (back steps)

pub under-zero : (tree : Subtree) (number : ℕ) → under tree 0 number ≡ tree
under-zero (Alone costs up) number = refl
under-zero (Over costs up left right) number = refl

-- ---- a step further down

chosen : (side : Subtree → Subtree) (turn : Bool) (left right left' right' : Subtree) → left' ≡ side left → right' ≡ side right → cond turn left' right' ≡ side (cond turn left right)
chosen side true left right left' right' e f = e
chosen side false left right left' right' e f = f

pub under-left : (tree : Subtree) (height steps top : ℕ) → IsComplete height tree → steps < height → under tree (suc steps) (left_of top) ≡ left_side (under tree steps top)
under-left (Alone costs up) height steps top complete low = absurd (omega (arith, complete))
under-left (Over costs up left right) height zero top complete low =
    let here : goes_left_at (left_of top) 0 ≡ true = grind arith in
    under-step costs up left right 0 (left_of top)
    ∙ (ap (λ turn. cond turn (under left 0 (left_of top)) (under right 0 (left_of top))) here ∙ under-zero left (left_of top))
under-left (Over costs up left right) height (suc steps) top complete low =
    let way = side_way top (left_of top) steps (omega arith) in
    let turn : goes_left_at (left_of top) (suc steps) ≡ goes_left_at top steps = ap (λ n. n % 2 == 0) way in
    under-step costs up left right (suc steps) (left_of top)
    ∙ (ap (λ b. cond b (under left (suc steps) (left_of top)) (under right (suc steps) (left_of top))) turn
    ∙ (chosen left_side (goes_left_at top steps) (under left steps top) (under right steps top) _ _ (under-left left (height - 1) steps top complete.1.0 (omega arith)) (under-left right (height - 1) steps top complete.1.1 (omega arith))
    ∙ ap left_side (sym (under-step costs up left right steps top))))

pub under-right : (tree : Subtree) (height steps top : ℕ) → IsComplete height tree → steps < height → under tree (suc steps) (right_of top) ≡ right_side (under tree steps top)
under-right (Alone costs up) height steps top complete low = absurd (omega (arith, complete))
under-right (Over costs up left right) height zero top complete low =
    let here : goes_left_at (right_of top) 0 ≡ false = grind arith in
    under-step costs up left right 0 (right_of top)
    ∙ (ap (λ turn. cond turn (under left 0 (right_of top)) (under right 0 (right_of top))) here ∙ under-zero right (right_of top))
under-right (Over costs up left right) height (suc steps) top complete low =
    let way = side_way top (right_of top) steps (omega arith) in
    let turn : goes_left_at (right_of top) (suc steps) ≡ goes_left_at top steps = ap (λ n. n % 2 == 0) way in
    under-step costs up left right (suc steps) (right_of top)
    ∙ (ap (λ b. cond b (under left (suc steps) (right_of top)) (under right (suc steps) (right_of top))) turn
    ∙ (chosen right_side (goes_left_at top steps) (under left steps top) (under right steps top) _ _ (under-right left (height - 1) steps top complete.1.0 (omega arith)) (under-right right (height - 1) steps top complete.1.1 (omega arith))
    ∙ ap right_side (sym (under-step costs up left right steps top))))

pub complete-under : (tree : Subtree) (height steps number : ℕ) → IsComplete height tree → steps ≤ height → IsComplete (height - steps) (under tree steps number)
complete-under (Alone costs up) height steps number complete low = omega (arith, complete)
complete-under (Over costs up left right) height zero number complete low = subst (λ h. IsComplete h (Over costs up left right)) (omega arith) complete
complete-under (Over costs up left right) height (suc steps) number complete low =
    let lefts = complete-under left (height - 1) steps number complete.1.0 (omega arith) in
    let rights = complete-under right (height - 1) steps number complete.1.1 (omega arith) in
    subst (λ t. IsComplete (height - suc steps) t) (sym (under-step costs up left right steps number)) (either (goes_left_at number steps) lefts rights)
  where
    either : (turn : Bool) → IsComplete (height - 1 - steps) (under left steps number) → IsComplete (height - 1 - steps) (under right steps number) → IsComplete (height - suc steps) (cond turn (under left steps number) (under right steps number))
    either true lefts rights = subst (λ h. IsComplete h (under left steps number)) (omega arith) lefts
    either false lefts rights = subst (λ h. IsComplete h (under right steps number)) (omega arith) rights

-- ---- a change

pub complete-changed : (tree : Subtree) (height steps number : ℕ) (change : Setting) → IsComplete height tree → IsComplete height (changed_under tree steps number change)
complete-changed (Alone costs up) height steps number change complete = complete
complete-changed (Over costs up left right) height zero number change complete = complete
complete-changed (Over costs up left right) height (suc steps) number change complete =
    subst (λ t. IsComplete height t) (sym (changed-step costs up left right steps number change)) (either (goes_left_at number steps) (complete-changed left (height - 1) steps number change complete.1.0) (complete-changed right (height - 1) steps number change complete.1.1))
  where
    either : (turn : Bool) → IsComplete (height - 1) (changed_under left steps number change) → IsComplete (height - 1) (changed_under right steps number change) → IsComplete height (cond turn (Over costs up (changed_under left steps number change) right) (Over costs up left (changed_under right steps number change)))
    either true lefts rights = (complete.0, (lefts, complete.1.1))
    either false lefts rights = (complete.0, (complete.1.0, rights))

pub caches-complete : (tree : Subtree) (height steps number : ℕ) → IsComplete height tree → steps ≤ height → caches_on_way tree steps number ≡ steps + 1
caches-complete (Alone costs up) height steps number complete low = omega (arith, complete)
caches-complete (Over costs up left right) height zero number complete low = refl
caches-complete (Over costs up left right) height (suc steps) number complete low =
    let lefts = caches-complete left (height - 1) steps number complete.1.0 (omega arith) in
    let rights = caches-complete right (height - 1) steps number complete.1.1 (omega arith) in
    caches-step costs up left right steps number ∙ either (goes_left_at number steps) lefts rights
  where
    either : (turn : Bool) → caches_on_way left steps number ≡ steps + 1 → caches_on_way right steps number ≡ steps + 1 → 1 + cond turn (caches_on_way left steps number) (caches_on_way right steps number) ≡ suc steps + 1
    either true lefts rights = omega arith
    either false lefts rights = omega arith

-- ---- what is seen after a change

-- what the change makes of the costs and a mark
abbrev pub seen_after : Setting → Costs × Bool → Costs × Bool
seen_after change seen = (costs_after change seen.0, mark_after change seen.1)

-- at the server itself
pub changed-here : (tree : Subtree) (height steps number : ℕ) (change : Setting) → IsComplete height tree → steps ≤ height → top_of (under (changed_under tree steps number change) steps number) ≡ seen_after change (top_of (under tree steps number))
changed-here (Alone costs up) height steps number change complete low = refl
changed-here (Over costs up left right) height zero number change complete low = refl
changed-here (Over costs up left right) height (suc steps) number change complete low =
    ap (λ t. top_of (under t (suc steps) number)) (changed-step costs up left right steps number change)
    ∙ (either (goes_left_at number steps) refl (changed-here left (height - 1) steps number change complete.1.0 (omega arith)) (changed-here right (height - 1) steps number change complete.1.1 (omega arith))
    ∙ ap (λ t. seen_after change (top_of t)) (sym (under-step costs up left right steps number)))
  where
    either : (turn : Bool) → goes_left_at number steps ≡ turn → top_of (under (changed_under left steps number change) steps number) ≡ seen_after change (top_of (under left steps number)) → top_of (under (changed_under right steps number change) steps number) ≡ seen_after change (top_of (under right steps number)) → top_of (under (cond turn (Over costs up (changed_under left steps number change) right) (Over costs up left (changed_under right steps number change))) (suc steps) number) ≡ seen_after change (top_of (cond turn (under left steps number) (under right steps number)))
    either true e lefts rights =
        ap top_of (under-step costs up (changed_under left steps number change) right steps number ∙ ap (λ b. cond b (under (changed_under left steps number change) steps number) (under right steps number)) e) ∙ lefts
    either false e lefts rights =
        ap top_of (under-step costs up left (changed_under right steps number change) steps number ∙ ap (λ b. cond b (under left steps number) (under (changed_under right steps number change) steps number)) e) ∙ rights

-- the same turn at the same height above leads to the same server
same_way : (n m a b : ℕ) (turn : Bool) → n / 2 ^ suc a ≡ m / 2 ^ suc b → goes_left_at n a ≡ turn → goes_left_at m b ≡ turn → n / 2 ^ a ≡ m / 2 ^ b
same_way n m a b true above e f =
    let n_half = halved n a in
    let m_half = halved m b in
    let n_even : n / 2 ^ a % 2 ≡ 0 = eqb-true (n / 2 ^ a % 2) 0 e in
    let m_even : m / 2 ^ b % 2 ≡ 0 = eqb-true (m / 2 ^ b % 2) 0 f in
    omega arith
same_way n m a b false above e f =
    let n_half = halved n a in
    let m_half = halved m b in
    let n_odd : n / 2 ^ a % 2 ≢ 0 = eqb-false (n / 2 ^ a % 2) 0 e in
    let m_odd : m / 2 ^ b % 2 ≢ 0 = eqb-false (m / 2 ^ b % 2) 0 f in
    omega arith

-- at another server
pub changed-elsewhere : (tree : Subtree) (height a n b m : ℕ) (change : Setting) → IsComplete height tree → a ≤ height → b ≤ height → n / 2 ^ a ≡ m / 2 ^ b → n ≢ m → top_of (under (changed_under tree a n change) b m) ≡ top_of (under tree b m)
changed-elsewhere (Alone costs up) height a n b m change complete low low' above other =
    let a_zero : a ≡ 0 = omega (arith, complete) in
    let b_zero : b ≡ 0 = omega (arith, complete) in
    let n_is : n / 2 ^ a ≡ n = ap (λ s. n / 2 ^ s) a_zero ∙ omega arith in
    let m_is : m / 2 ^ b ≡ m = ap (λ s. m / 2 ^ s) b_zero ∙ omega arith in
    absurd (other (sym n_is ∙ (above ∙ m_is)))
changed-elsewhere (Over costs up left right) height zero n zero m change complete low low' above other = absurd (other (omega arith))
changed-elsewhere (Over costs up left right) height zero n (suc b) m change complete low low' above other =
    ap top_of (under-step (costs_after change costs) (mark_after change up) left right b m ∙ sym (under-step costs up left right b m))
changed-elsewhere (Over costs up left right) height (suc a) n zero m change complete low low' above other =
    ap (λ t. top_of (under t 0 m)) (changed-step costs up left right a n change) ∙ either (goes_left_at n a)
  where
    either : (turn : Bool) → top_of (under (cond turn (Over costs up (changed_under left a n change) right) (Over costs up left (changed_under right a n change))) 0 m) ≡ (costs, up)
    either true = refl
    either false = refl
changed-elsewhere (Over costs up left right) height (suc a) n (suc b) m change complete low low' above other =
    ap (λ t. top_of (under t (suc b) m)) (changed-step costs up left right a n change)
    ∙ (either (goes_left_at n a) (goes_left_at m b) refl refl
    (λ below. changed-elsewhere left (height - 1) a n b m change complete.1.0 (omega arith) (omega arith) below other)
    (λ below. changed-elsewhere right (height - 1) a n b m change complete.1.1 (omega arith) (omega arith) below other)
    ∙ ap top_of (sym (under-step costs up left right b m)))
  where
    new_left : Subtree
    new_left = changed_under left a n change

    new_right : Subtree
    new_right = changed_under right a n change

    either : (p q : Bool) → goes_left_at n a ≡ p → goes_left_at m b ≡ q → (n / 2 ^ a ≡ m / 2 ^ b → top_of (under new_left b m) ≡ top_of (under left b m)) → (n / 2 ^ a ≡ m / 2 ^ b → top_of (under new_right b m) ≡ top_of (under right b m)) → top_of (under (cond p (Over costs up new_left right) (Over costs up left new_right)) (suc b) m) ≡ top_of (cond (goes_left_at m b) (under left b m) (under right b m))
    either true true e f lefts rights =
        ap top_of (under-step costs up new_left right b m ∙ ap (λ t. cond t (under new_left b m) (under right b m)) f)
        ∙ (lefts (same_way n m a b true above e f) ∙ ap (λ t. top_of (cond t (under left b m) (under right b m))) (sym f))
    either true false e f lefts rights =
        ap top_of (under-step costs up new_left right b m ∙ ap (λ t. cond t (under new_left b m) (under right b m)) f)
        ∙ ap (λ t. top_of (cond t (under left b m) (under right b m))) (sym f)
    either false true e f lefts rights =
        ap top_of (under-step costs up left new_right b m ∙ ap (λ t. cond t (under left b m) (under new_right b m)) f)
        ∙ ap (λ t. top_of (cond t (under left b m) (under right b m))) (sym f)
    either false false e f lefts rights =
        ap top_of (under-step costs up left new_right b m ∙ ap (λ t. cond t (under left b m) (under new_right b m)) f)
        ∙ (rights (same_way n m a b false above e f) ∙ ap (λ t. top_of (cond t (under left b m) (under right b m))) (sym f))
