-- Sets of servers as ascending lists. A set of servers holds no member exactly if its complement holds one. Servers of
-- one tree are the same exactly if their numbers are.
use Rattle.std.proofs.Common.{◌≡◌, ℕ, ◌+◌, ◌<◌, ◌≤◌, List, [], ◌∷◌, Bool, true, false, ◌||◌, ◌&&◌, eqb, refl, sym, inl, inr, arith, ap, ◌∙◌, subst, sum_by, zero, suc, ◌++◌, map, not, nat_eq}
use Rattle.std.proofs.lemmas.Bool.{cases_lt, cases_order, cases_Bool, lt-ltb, le-ltb, eq-eqb, ne_eqb, eqb-true, eqb-false, false≢true, or_parts, or_left, or_right, or_from}
use Rattle.std.proofs.lemmas.List.{Sums.sum_by-cons, Folds.list_any-append}
use mathlib.Core.Bool.{and_assoc, and_comm, or_assoc, or_comm, and-false, and-true, and-or_distrib_left, and-or_distrib_right, not-not, or-false}
use Rattle.std.specs.{List.list_all, Cmp.Lexicographic.pointwise}
use Rattle.tq_coterie.specs.Coterie.{with_server, union_of, has, joined_pairs, members, holds_member, two_of, servers_of, numbers_of, is_same}
use Rattle.tq_shape.specs.{ServerSet.Ascends, Tree.{left_of, right_of, Server}}

or_swap : (a b c : Bool) → (a || (b || c)) ≡ (b || (a || c))
or_swap a b c = sym (or_assoc a b c) ∙ (ap (λ x. x || c) (or_comm a b) ∙ or_assoc b a c)

and_swap : (a b c : Bool) → (a && (b && c)) ≡ (b && (a && c))
and_swap a b c = sym (and_assoc a b c) ∙ (ap (λ x. x && c) (and_comm a b) ∙ and_assoc b a c)

pub Ascends-from : (low high : ℕ) (xs : List ℕ) → low ≤ high → Ascends high xs → Ascends low xs
Ascends-from low high [] le up = tt
Ascends-from low high (x ∷ xs) le up = (omega (arith, up.0), up.1)

-- a set has its first server
pub has-head : (first : ℕ) (rest : List ℕ) → has (first ∷ rest) first ≡ true
has-head first rest = or_left (eqb first first) (has rest first) (eq-eqb first first refl)

-- a set has no server at or below its bound
pub has-below : (low server : ℕ) (xs : List ℕ) → Ascends low xs → server ≤ low → has xs server ≡ false
has-below low server [] up le = refl
has-below low server (x ∷ xs) up le =
    let other : eqb x server ≡ false = ne_eqb x server (λ e. omega (arith, up.0, e)) in
    rw other (has-below x server xs up.1 (omega (arith, up.0)))

-- what two sets have above their common first server
same_rest : (first : ℕ) (xs ys : List ℕ) → Ascends first xs → Ascends first ys → ((s : ℕ) → (eqb first s || has xs s) ≡ (eqb first s || has ys s)) → (s : ℕ) → has xs s ≡ has ys s
same_rest first xs ys up vp same s =
    elim (cases_Bool (eqb first s)) [
      | inl equal ↦
          let le : s ≤ first = omega (arith, eqb-true first s equal) in
          has-below first s xs up le ∙ sym (has-below first s ys vp le)
      | inr other ↦ rw other at (same s)
    ]

-- two sets with the same servers are one list
pub same_set : (low : ℕ) (xs ys : List ℕ) → Ascends low xs → Ascends low ys → ((s : ℕ) → has xs s ≡ has ys s) → xs ≡ ys
same_set low [] [] up vp same = refl
same_set low [] (y ∷ ys) up vp same =
    let here : has (y ∷ ys) y ≡ true = rw (eq-eqb y y refl) refl in
    absurd (false≢true (same y ∙ here))
same_set low (x ∷ xs) [] up vp same =
    let here : has (x ∷ xs) x ≡ true = rw (eq-eqb x x refl) refl in
    absurd (false≢true (sym (same x) ∙ here))
same_set low (x ∷ xs) (y ∷ ys) up vp same =
    elim (cases_order x y) [
      | inl e ↦
          let vp' : Ascends x ys = rw e vp.1 in
          let P : ℕ → Type 0 = λ z. (s : ℕ) → (eqb x s || has xs s) ≡ (eqb z s || has ys s) in
          let rest : xs ≡ ys = same_set x xs ys up.1 vp' (same_rest x xs ys up.1 vp' (subst P (sym e) same)) in
          rw (e, rest) refl
      | inr (inl less) ↦
          let here : has (x ∷ xs) x ≡ true = rw (eq-eqb x x refl) refl in
          let there : has (y ∷ ys) x ≡ false = has-below x x (y ∷ ys) (less, vp.1) (omega arith) in
          absurd (false≢true (sym there ∙ (sym (same x) ∙ here)))
      | inr (inr more) ↦
          let here : has (y ∷ ys) y ≡ true = rw (eq-eqb y y refl) refl in
          let there : has (x ∷ xs) y ≡ false = has-below y y (x ∷ xs) (more, up.1) (omega arith) in
          absurd (false≢true (sym there ∙ (same y ∙ here)))
    ]

-- joining: what has-joined, Ascends-joined, and so on say of `with_server`, they say of `union_of`
pub has-with_server : (server s : ℕ) (xs : List ℕ) → has (with_server server xs) s ≡ (eqb server s || has xs s)
has-with_server server s [] = refl
has-with_server server s (x ∷ xs) =
    elim (cases_lt server x) [
      | inl less ↦ rw (lt-ltb server x less) refl
      | inr more ↦
          rw (le-ltb server x more, has-with_server server s xs) (or_swap (eqb x s) (eqb server s) (has xs s))
    ]

pub has-joined : (xs ys : List ℕ) (s : ℕ) → has (union_of xs ys) s ≡ (has xs s || has ys s)
has-joined [] ys s = refl
has-joined (x ∷ xs) ys s =
    has-with_server x s (union_of xs ys) ∙ (ap (λ b. eqb x s || b) (has-joined xs ys s) ∙ sym (or_assoc (eqb x s) (has xs s) (has ys s)))

Ascends-with_server : (low server : ℕ) (xs : List ℕ) → Ascends low xs → low < server → has xs server ≡ false → Ascends low (with_server server xs)
Ascends-with_server low server [] up above new = (above, tt)
Ascends-with_server low server (x ∷ xs) up above new =
    let parts = or_parts (eqb x server) (has xs server) new in
    elim (cases_lt server x) [
      | inl less ↦ rw (lt-ltb server x less) (above, (less, up.1))
      | inr more ↦
          let apart : x < server = omega (arith, eqb-false x server parts.0) in
          rw (le-ltb server x more) (up.0, Ascends-with_server x server xs up.1 apart parts.1)
    ]

-- two sets that have no server in common
abbrev pub AreApart : List ℕ → List ℕ → Type 0
AreApart xs ys = (s : ℕ) → has xs s ≡ true → has ys s ≡ false

pub Ascends-joined : (low : ℕ) (xs ys : List ℕ) → Ascends low xs → Ascends low ys → AreApart xs ys → Ascends low (union_of xs ys)
Ascends-joined low [] ys up vp apart = vp
Ascends-joined low (x ∷ xs) ys up vp apart =
    let rest : Ascends low (union_of xs ys) =
    Ascends-joined low xs ys (Ascends-from low x xs (omega (arith, up.0)) up.1) vp (λ s h. apart s (or_right (eqb x s) (has xs s) h)) in
    let not_later : has xs x ≡ false = has-below x x xs up.1 (omega arith) in
    let not_there : has ys x ≡ false = apart x (or_left (eqb x x) (has xs x) (eq-eqb x x refl)) in
    let new : has (union_of xs ys) x ≡ false = has-joined xs ys x ∙ or_from (has xs x) (has ys x) not_later not_there in
    Ascends-with_server low x (union_of xs ys) rest up.0 new

-- sums and tests over a joined set
sum_by-with_server : (f : ℕ → ℕ) (server : ℕ) (xs : List ℕ) → sum_by f (with_server server xs) ≡ f server + sum_by f xs
sum_by-with_server f server [] = omega arith
sum_by-with_server f server (x ∷ xs) =
    elim (cases_lt server x) [
      | inl less ↦ rw (lt-ltb server x less) (sum_by-cons f server (x ∷ xs))
      | inr more ↦
          let head = sum_by-cons f x (with_server server xs) in
          let tail = sum_by-cons f x xs in
          let rest = sum_by-with_server f server xs in
          rw (le-ltb server x more) (omega arith)
    ]

pub sum_by-joined : (f : ℕ → ℕ) (xs ys : List ℕ) → sum_by f (union_of xs ys) ≡ sum_by f xs + sum_by f ys
sum_by-joined f [] ys = omega arith
sum_by-joined f (x ∷ xs) ys =
    let head = sum_by-with_server f x (union_of xs ys) in
    let tail = sum_by-cons f x xs in
    let rest = sum_by-joined f xs ys in
    omega arith

list_all-with_server : (p : ℕ → Bool) (server : ℕ) (xs : List ℕ) → list_all p (with_server server xs) ≡ (p server && list_all p xs)
list_all-with_server p server [] = refl
list_all-with_server p server (x ∷ xs) =
    elim (cases_lt server x) [
      | inl less ↦ rw (lt-ltb server x less) refl
      | inr more ↦
          rw (le-ltb server x more, list_all-with_server p server xs) (and_swap (p x) (p server) (list_all p xs))
    ]

pub list_all-joined : (p : ℕ → Bool) (xs ys : List ℕ) → list_all p (union_of xs ys) ≡ (list_all p xs && list_all p ys)
list_all-joined p [] ys = refl
list_all-joined p (x ∷ xs) ys =
    list_all-with_server p x (union_of xs ys) ∙ (ap (λ b. p x && b) (list_all-joined p xs ys) ∙ sym (and_assoc (p x) (list_all p xs) (list_all p ys)))

pub joined-nil : (low : ℕ) (xs : List ℕ) → Ascends low xs → union_of xs [] ≡ xs
joined-nil low [] up = refl
joined-nil low (x ∷ xs) up = rw (joined-nil x xs up.1) (with_server-first x xs up.1)
  where
    with_server-first : (x : ℕ) (xs : List ℕ) → Ascends x xs → with_server x xs ≡ x ∷ xs
    with_server-first x [] up = refl
    with_server-first x (y ∷ ys) up = rw (lt-ltb x y up.0) refl

-- ---- complement

holds-with : (test : ℕ → Bool) (top : ℕ) (sets : List (List ℕ)) → holds_member test (map (λ q. top ∷ q) sets) ≡ (test top && holds_member test sets)
holds-with test top [] = sym (and-false (test top))
holds-with test top (q ∷ sets) =
    ap (λ b. (test top && list_all test q) || b) (holds-with test top sets) ∙ sym (and-or_distrib_left (test top) (list_all test q) (holds_member test sets))

holds-joined : (test : ℕ → Bool) (q : List ℕ) (rights : List (List ℕ)) → holds_member test (map (union_of q) rights) ≡ (list_all test q && holds_member test rights)
holds-joined test q [] = sym (and-false (list_all test q))
holds-joined test q (p ∷ rights) =
    rw (list_all-joined test q p, holds-joined test q rights) (sym (and-or_distrib_left (list_all test q) (list_all test p) (holds_member test rights)))

holds-pairs : (test : ℕ → Bool) (lefts rights : List (List ℕ)) → holds_member test (joined_pairs lefts rights) ≡ (holds_member test lefts && holds_member test rights)
holds-pairs test [] rights = refl
holds-pairs test (q ∷ lefts) rights =
    list_any-append (list_all test) (map (union_of q) rights) (joined_pairs lefts rights)
    ∙ (rw (holds-joined test q rights, holds-pairs test lefts rights) (sym (and-or_distrib_right (list_all test q) (holds_member test lefts) (holds_member test rights))))

pub holds-leaf : (test : ℕ → Bool) (top : ℕ) → holds_member test (members zero top) ≡ test top
unfolding members
holds-leaf test top = or-false (test top && true) ∙ and-true (test top)

pub holds-fork : (test : ℕ → Bool) (height top : ℕ) → holds_member test (members (suc height) top) ≡ two_of (test top) (holds_member test (members height (left_of top))) (holds_member test (members height (right_of top)))
unfolding members
holds-fork test height top =
    let lefts = members height (left_of top) in
    let rights = members height (right_of top) in
    list_any-append (list_all test) (map (λ q. top ∷ q) lefts ++ map (λ p. top ∷ p) rights) (joined_pairs lefts rights)
    ∙ rw (list_any-append (list_all test) (map (λ q. top ∷ q) lefts) (map (λ p. top ∷ p) rights), holds-with test top lefts, holds-with test top rights, holds-pairs test lefts rights) refl

two_of-not : (a b c : Bool) → two_of (not a) (not b) (not c) ≡ not (two_of a b c)
two_of-not true true true = refl
two_of-not true true false = refl
two_of-not true false true = refl
two_of-not true false false = refl
two_of-not false true true = refl
two_of-not false true false = refl
two_of-not false false true = refl
two_of-not false false false = refl

-- what a fork holds, from what its top and its sides hold
pub holds-from : (set : ℕ → Bool) (height below other top left_top right_top : ℕ) (here left right : Bool) → height ≡ suc below → height ≡ suc other → left_top ≡ left_of top → right_top ≡ right_of top → set top ≡ here → left ≡ holds_member set (members below left_top) → right ≡ holds_member set (members other right_top) → two_of here left right ≡ holds_member set (members height top)
holds-from set height below other top left_top right_top here left right left_height right_height left_is right_is chosen left_holds right_holds =
    let same : other ≡ below = omega (arith, left_height, right_height) in
    rw (left_holds, right_holds, ← chosen, left_is, right_is, same, left_height) (sym (holds-fork set below top))

-- exactly one of a set and its complement holds a member
pub holds-complement : (test : ℕ → Bool) (height top : ℕ) → holds_member (λ s. not (test s)) (members height top) ≡ not (holds_member test (members height top))
holds-complement test zero top = holds-leaf (λ s. not (test s)) top ∙ sym (ap not (holds-leaf test top))
holds-complement test (suc height) top =
    rw (holds-fork (λ s. not (test s)) height top, holds-complement test height (left_of top), holds-complement test height (right_of top), two_of-not (test top) (holds_member test (members height (left_of top))) (holds_member test (members height (right_of top))))
    (sym (ap not (holds-fork test height top)))

pub holds-at_leaf : (set : ℕ → Bool) (height top : ℕ) (here : Bool) → height ≡ 0 → set top ≡ here → here ≡ holds_member set (members height top)
holds-at_leaf set height top here low chosen = rw (low, ← chosen) (sym (holds-leaf set top))

-- as exactly one of the two holds a member, each says what the other does not
pub holds-otherwise : (set : ℕ → Bool) (height top : ℕ) (answer : Bool) → answer ≡ holds_member set (members height top) → answer ≡ not (holds_member (λ s. not (set s)) (members height top))
holds-otherwise set height top answer is = is ∙ sym (ap not (holds-complement set height top) ∙ not-not (holds_member set (members height top)))

-- ---- sameness

-- an equality of servers compares, in one tree, the numbers alone
abbrev pub ComparesNumbers : (Server → Server → Bool) → Type 0
ComparesNumbers equal = (levels some other : ℕ) → equal (record { number = some; levels = levels }) (record { number = other; levels = levels }) ≡ nat_eq some other

pointwise-servers_of : (equal : Server → Server → Bool) (levels : ℕ) (some others : List ℕ) → ComparesNumbers equal → pointwise equal (servers_of levels some) (servers_of levels others) ≡ pointwise nat_eq some others
pointwise-servers_of equal levels [] [] numbers = refl
pointwise-servers_of equal levels [] (y ∷ ys) numbers = refl
pointwise-servers_of equal levels (x ∷ xs) [] numbers = refl
pointwise-servers_of equal levels (x ∷ xs) (y ∷ ys) numbers =
    rw (numbers levels x y, pointwise-servers_of equal levels xs ys numbers) refl

pub same-servers : (equal : Server → Server → Bool) (levels other_levels : ℕ) (servers others : List Server) → ComparesNumbers equal → servers ≡ servers_of levels (numbers_of servers) → others ≡ servers_of other_levels (numbers_of others) → eqb levels other_levels ≡ true → pointwise equal servers others ≡ is_same (record { servers = numbers_of servers; levels = levels }) (record { servers = numbers_of others; levels = other_levels })
same-servers equal levels other_levels servers others numbers in_tree in_other same =
    let one : levels ≡ other_levels = eqb-true levels other_levels same in
    let P : List Server → Type 0 = λ xs. pointwise equal servers others ≡ pointwise equal xs others in
    let Q : List Server → Type 0 = λ ys. pointwise equal servers others ≡ pointwise equal (servers_of levels (numbers_of servers)) ys in
    let there : others ≡ servers_of levels (numbers_of others) = rw (← one) at in_other in
    rw same (subst Q there (subst P in_tree refl) ∙ pointwise-servers_of equal levels (numbers_of servers) (numbers_of others) numbers)
