-- The servers of a tree that are marked up, as they are gathered upwards, and what the set of them says of one.
use Rattle.std.proofs.Common.{◌≡◌, ◌==◌, ◌+◌, ◌-◌, ◌^◌, ◌<◌, ◌≤◌, ℕ, zero, suc, Bool, true, false, cond, List, [], ◌∷◌, ◌++◌, Some, filter, find, get_or, refl, ap, sym, subst, ◌∙◌, arith}
use Rattle.std.{proofs.lemmas.{Bool.{eq-eqb, eqb-true}, List.append-nil}, specs.List.All}
use Rattle.std.proofs.lemmas.List.Elements.{All-cons, All-filter, All-head, All-nil, All-tail, filter-append}
use Rattle.tq_shape.specs.{ServerSet.{Servers, has_number, servers_of_numbers}, Tree.{IsServer, Server}}
use Rattle.tq_live.specs.{Live.{Live, is_up}, View.upwards}
use Rattle.tq_tables.proofs.RowLaws.{upwards-push}
use Rattle.tq_refresh.specs.Plan.{servers_in, servers_up}

-- ---- numbers upwards that pass a test

no_less : (number first : ℕ) → number < first → (first == number) ≡ false
no_less number first less = grind (arith, less)

module _ (p : ℕ → Bool) where
  has-smaller-step : (b : Bool) (first number : ℕ) (rest : List ℕ) → number < first → has_number rest number ≡ false → has_number (cond b (first ∷ rest) rest) number ≡ false
  has-smaller-step true first number rest less none = rw (no_less number first less) none
  has-smaller-step false first number rest less none = none

  -- none is smaller than the first
  has-smaller : (first count number : ℕ) → number < first → has_number (filter p (upwards first count)) number ≡ false
  has-smaller first zero number less = refl
  has-smaller first (suc count) number less =
      has-smaller-step (p first) first number (filter p (upwards (first + 1) count)) less (has-smaller (first + 1) count number (omega arith))

  here : (b : Bool) (first : ℕ) (rest : List ℕ) → has_number rest first ≡ false → has_number (cond b (first ∷ rest) rest) first ≡ b
  here true first rest none = rw (eq-eqb first first refl) refl
  here false first rest none = none

  there : (b : Bool) (first number : ℕ) (rest : List ℕ) → (first == number) ≡ false → has_number (cond b (first ∷ rest) rest) number ≡ has_number rest number
  there true first number rest other = rw other refl
  there false first number rest other = refl

  either : (first number : ℕ) (rest : List ℕ) (same : Bool) → (first == number) ≡ same → has_number rest first ≡ false
      → (first + 1 ≤ number → has_number rest number ≡ p number) → first ≤ number → has_number (cond (p first) (first ∷ rest) rest) number ≡ p number
  either first number rest true is none more from =
      let one : first ≡ number = eqb-true first number is in
      subst (λ (n : ℕ). has_number (cond (p first) (first ∷ rest) rest) n ≡ p n) one (here (p first) first rest none)
  either first number rest false is none more from =
      there (p first) first number rest is ∙ more (grind (arith, is, from))

  -- each of them is there exactly where it passes
  has-upwards : (first count number : ℕ) → first ≤ number → number < first + count → has_number (filter p (upwards first count)) number ≡ p number
  has-upwards first zero number from below = absurd (omega arith)
  has-upwards first (suc count) number from below =
      either first number (filter p (upwards (first + 1) count)) (first == number) refl (has-smaller (first + 1) count first (omega arith))
      (λ more. has-upwards (first + 1) count number more (omega arith)) from

all-below : (first count bound : ℕ) → first + count ≤ bound → All (λ number. number < bound) (upwards first count)
all-below first zero bound within = All-nil (λ number. number < bound)
all-below first (suc count) bound within =
    All-cons (λ number. number < bound) first (upwards (first + 1) count) (omega arith) (all-below (first + 1) count bound (omega arith))

filter-push : (p : ℕ → Bool) (below : ℕ) (b : Bool) → p (1 + below) ≡ b → filter p (upwards 1 (below + 1)) ≡ filter p (upwards 1 below) ++ cond b ((1 + below) ∷ []) []
filter-push p below b passes =
    ap (filter p) (upwards-push 1 below) ∙ filter-append p (upwards 1 below) ((1 + below) ∷ [])
    ∙ ap (λ c. filter p (upwards 1 below) ++ cond c ((1 + below) ∷ []) []) passes

-- ---- the servers that are marked up

-- those of a tree with these numbers
abbrev of_numbers : Live → List ℕ → Servers
of_numbers live numbers = record { levels = live.levels; numbers = numbers }

-- those among the first so many
abbrev pub up_among : Live → ℕ → Servers
up_among live count = of_numbers live (filter (is_up live) (upwards 1 count))

module _ (live : Live) (below : ℕ) (server : Server) (old new : Servers) (so_far : old ≡ up_among live below) (number : server.number ≡ 1 + below) where
  -- one server more that is up, or that is not
  pub one_up : is_up live server.number ≡ true → (All (λ other. other < server.number) old.numbers → new ≡ record { levels = old.levels; numbers = old.numbers ++ server.number ∷ [] })
      → new ≡ up_among live (below + 1)
  one_up up put =
      let less : All (λ other. other < server.number) old.numbers =
      subst (λ (s : Servers). All (λ other. other < server.number) s.numbers) (sym so_far)
      (All-filter (is_up live) (λ other. other < server.number) (upwards 1 below) (all-below 1 below server.number (omega (arith, number)))) in
      put less
      ∙ (λ j. record { levels = (so_far j).levels; numbers = (so_far j).numbers ++ number j ∷ [] })
      ∙ ap (of_numbers live) (sym (filter-push (is_up live) below true (ap (is_up live) (sym number) ∙ up)))

  pub one_down : is_up live server.number ≡ false → new ≡ old → new ≡ up_among live (below + 1)
  one_down down stays =
      stays ∙ so_far
      ∙ ap (of_numbers live) (sym (filter-push (is_up live) below false (ap (is_up live) (sym number) ∙ down) ∙ append-nil (filter (is_up live) (upwards 1 below))))

-- a server of the tree is in the set exactly where it is marked up
has-up : (live : Live) (number : ℕ) → IsServer live.levels number → has_number (servers_up live).numbers number ≡ is_up live number
has-up live number is =
    let from = is.0 in
    let below = is.1 in
    has-upwards (is_up live) 1 (2 ^ live.levels - 1) number (omega (arith, from)) (omega (arith, below))

-- ---- sets of a tree's servers: where two tests agree on the numbers, and that the set of those that are up agrees with the marks

module _ (p q : ℕ → Bool) (levels : ℕ) where
  find-same : (numbers : List ℕ) → All (λ number. p number ≡ q number) numbers → find (λ server. p server.number) (servers_of_numbers levels numbers) ≡ find (λ server. q server.number) (servers_of_numbers levels numbers)
  find-same [] all = refl
  find-same (n ∷ ns) all =
      let server : Server = record { number = n; levels = levels } in
      ap (λ b. cond b (Some server) (find (λ (s : Server). p s.number) (servers_of_numbers levels ns))) (All-head (λ number. p number ≡ q number) n ns all)
      ∙ ap (λ found. cond (q n) (Some server) found) (find-same ns (All-tail (λ number. p number ≡ q number) n ns all))

  filter-same : (numbers : List ℕ) → All (λ number. p number ≡ q number) numbers → filter (λ server. p server.number) (servers_of_numbers levels numbers) ≡ filter (λ server. q server.number) (servers_of_numbers levels numbers)
  filter-same [] all = refl
  filter-same (n ∷ ns) all =
      let server : Server = record { number = n; levels = levels } in
      ap (λ b. cond b (server ∷ filter (λ (s : Server). p s.number) (servers_of_numbers levels ns)) (filter (λ (s : Server). p s.number) (servers_of_numbers levels ns))) (All-head (λ number. p number ≡ q number) n ns all)
      ∙ ap (λ rest. cond (q n) (server ∷ rest) rest) (filter-same ns (All-tail (λ number. p number ≡ q number) n ns all))

module _ (live : Live) (up set : Servers) (is : up ≡ servers_up live) (levels : set.levels ≡ up.levels) (of_tree : All (IsServer set.levels) set.numbers) where
  agree : All (λ number. has_number up.numbers number ≡ is_up live number) set.numbers
  agree = λ k d h.
      ap (λ (s : Servers). has_number s.numbers (get_or set.numbers k d)) is
      ∙ has-up live (get_or set.numbers k d) (subst (λ (l : ℕ). IsServer l (get_or set.numbers k d)) (levels ∙ ap (λ (s : Servers). s.levels) is) (of_tree k d h))

  -- the first that is up
  pub find-up : find (λ server. has_number up.numbers server.number) (servers_in set) ≡ find (λ server. is_up live server.number) (servers_in set)
  find-up = find-same (has_number up.numbers) (is_up live) set.levels set.numbers agree

  -- and all that are
  pub filter-up : filter (λ server. has_number up.numbers server.number) (servers_in set) ≡ filter (λ server. is_up live server.number) (servers_in set)
  filter-up = filter-same (has_number up.numbers) (is_up live) set.levels set.numbers agree
