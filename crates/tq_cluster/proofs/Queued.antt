-- Sums over passes and over messages. Each step keeps the rule of the queue.
use Rattle.std.proofs.Common.{◌≡◌, ◌≢◌, ◌<◌, ℕ, zero, suc, ◌+◌, List, [], ◌∷◌, ◌++◌, length, set, refl, sym, ◌∙◌, ap, arith, append-nil, ◌-◌, Bool, true, false, true≢false, subst, ⊎_elim, append_assoc}
use mathlib.Core.Option.{some, some-ne-none, some_inj}
use lib.ListN.{get_elem?}
use Rattle.tq_cluster.specs.declared.pass_knowledge.PassKnowledge.{PassKnowledge}
use Rattle.tq_cluster.specs.Rule.{weigh, weigh_from, total, hand, IsInOrder, IsPrefixTaken}
use Rattle.crossbeam_channel.specs.Fifo.{Pushes, Pops, Forks, Merges, Learns}
use Rattle.atomic_table.proofs.Lists.{at_set, at_snoc}

module _ {M : Type 0} where
  pub weigh-append : (h : ℕ → M → ℕ) (ps qs : List (ℕ × M)) → weigh h (ps ++ qs) ≡ weigh h ps + weigh h qs
  weigh-append h [] qs = omega arith
  weigh-append h (p ∷ ps) qs = omega (arith, weigh-append h ps qs)

  pub weigh_from-snoc : (h : ℕ → M → ℕ) (n : ℕ) (xs : List M) (x : M) → weigh_from h n (xs ++ x ∷ []) ≡ weigh_from h n xs + h (length xs + n) x
  weigh_from-snoc h n [] x = let e : 0 + n ≡ n = omega arith in omega (arith, ap (λ k. h k x) e)
  weigh_from-snoc h n (y ∷ xs) x =
      let e : length xs + (n + 1) ≡ length (y ∷ xs) + n = omega arith in
      omega (arith, weigh_from-snoc h (n + 1) xs x, ap (λ k. h k x) e)

  -- after a change of one pass
  pub total_set : (f : PassKnowledge M → ℕ) (views : List (PassKnowledge M)) (pass : ℕ) (v w : PassKnowledge M) → get_elem? views pass ≡ some v → total f (set views pass w) + f v ≡ total f views + f w
  total_set f [] pass v w at = absurd (some-ne-none v (sym at))
  total_set f (u ∷ views) zero v w at = let e : u ≡ v = some_inj.0 at in omega (arith, ap f e)
  total_set f (u ∷ views) (suc pass) v w at = omega (arith, total_set f views pass v w at)

  pub total_snoc : (f : PassKnowledge M → ℕ) (views : List (PassKnowledge M)) (v : PassKnowledge M) → total f (views ++ v ∷ []) ≡ total f views + f v
  total_snoc f [] v = omega arith
  total_snoc f (u ∷ views) v = omega (arith, total_snoc f views v)

  -- where no pass has a part, and f is 0 of each such pass
  pub total_none : (f : PassKnowledge M → ℕ) (views : List (PassKnowledge M)) → total (λ v. v.parts) views ≡ 0 → ((pass : ℕ) (v : PassKnowledge M) → get_elem? views pass ≡ some v → v.parts ≡ 0 → f v ≡ 0) → total f views ≡ 0
  total_none f [] none idle = refl
  total_none f (u ∷ views) none idle =
      let here : f u ≡ 0 = idle 0 u refl (omega arith) in
      omega (arith, total_none f views (omega arith) (λ pass v at. idle (suc pass) v at))

  -- where one pass has all parts, and f is 0 of each pass with none
  pub total_alone : (f : PassKnowledge M → ℕ) (views : List (PassKnowledge M)) (pass : ℕ) (v : PassKnowledge M) → get_elem? views pass ≡ some v → total (λ v. v.parts) views ≡ v.parts → ((pass : ℕ) (v : PassKnowledge M) → get_elem? views pass ≡ some v → v.parts ≡ 0 → f v ≡ 0) → 0 < v.parts → total f views ≡ f v
  total_alone f [] pass v at all idle some_part = absurd (some-ne-none v (sym at))
  total_alone f (u ∷ views) zero v at all idle some_part =
      let e : u ≡ v = some_inj.0 at in
      let same : u.parts ≡ v.parts = ap (λ (x : PassKnowledge M). x.parts) e in
      omega (arith, ap f e, total_none f views (omega arith) (λ pass v at. idle (suc pass) v at))
  total_alone f (u ∷ views) (suc pass) v at all idle some_part =
      let set_v = total_set (λ (x : PassKnowledge M). x.parts) views pass v (record v { parts = 0 }) at in
      let here : f u ≡ 0 = idle 0 u refl (omega arith) in
      omega (arith, total_alone f views pass v at (omega arith) (λ pass v at. idle (suc pass) v at) some_part)

-- ---- steps

module _ {M : Type 0} where
  abbrev All : (ℕ → PassKnowledge M → Type 0) → List (PassKnowledge M) → Type 0
  All F views = (pass : ℕ) (v : PassKnowledge M) → get_elem? views pass ≡ some v → F pass v

  -- a fact of each pass, after a change of one
  all_set : (F : ℕ → PassKnowledge M → Type 0) (views : List (PassKnowledge M)) (pass : ℕ) (w : PassKnowledge M) → F pass w → ((j : ℕ) (u : PassKnowledge M) → j ≢ pass → get_elem? views j ≡ some u → F j u) → All F (set views pass w)
  all_set F views pass w mine others j u e =
      ⊎_elim (λ (x : (j ≡ pass) × (w ≡ u)). subst (λ (y : ℕ × PassKnowledge M). F y.0 y.1) (λ i. (sym x.0 i, x.1 i)) mine)
      (λ (x : (j ≢ pass) × (get_elem? views j ≡ some u)). others j u x.0 x.1) (at_set views pass j w u e)

  all_one : (F : ℕ → PassKnowledge M → Type 0) (v : PassKnowledge M) → F 0 v → All F (v ∷ [])
  all_one F v f zero u at = subst (F 0) (some_inj.0 at) f
  all_one F v f (suc j) u at = absurd (some-ne-none u (sym at))

  all_snoc : (F : ℕ → PassKnowledge M → Type 0) (vs : List (PassKnowledge M)) (r : PassKnowledge M) → All F vs → ((j : ℕ) → F j r) → All F (vs ++ r ∷ [])
  all_snoc F vs r old new j u e = ⊎_elim (λ x. old j u x) (λ (is : r ≡ u). subst (F j) is (new j)) (at_snoc vs r u j e)

  -- nothing was put
  pub begins : IsInOrder {M = M} [] (hand 1024 true [] [] ∷ [])
  begins = record {
    seat = 0;
    taken = [];
    one_puts = all_one (λ j v. v.puts ≡ true → (j ≡ 0) × (v.put ≡ [])) (hand 1024 true [] []) (λ _. (refl, refl));
    each_once = λ h. refl;
    parts = refl;
    idle = all_one (λ j v. v.parts ≡ 0 → v.taken ≡ []) (hand 1024 true [] []) (λ _. refl);
  }

  -- the pass that puts puts a message
  pub puts : (n pass : ℕ) (v : PassKnowledge M) (x : M) → v.puts ≡ true → Pushes IsInOrder n pass v x (λ w. w ≡ hand v.parts v.puts (v.put ++ x ∷ []) v.taken)
  puts n pass v x may items views room rule at =
      let w : PassKnowledge M = hand v.parts v.puts (v.put ++ x ∷ []) v.taken in
      let mine = rule.one_puts pass v at may in (
        w,
        record {
          seat = rule.seat;
          taken = rule.taken;
          one_puts = all_set (λ j u. u.puts ≡ true → (j ≡ rule.seat) × (u.put ≡ rule.taken ++ (items ++ x ∷ []))) views pass w
              (λ _. (mine.0, ap (λ l. l ++ x ∷ []) mine.1 ∙ append_assoc rule.taken items (x ∷ [])))
              (λ j u other e is. absurd (other ((rule.one_puts j u e is).0 ∙ sym mine.0)));
          each_once = λ h. let s = total_set (λ (u : PassKnowledge M). weigh h u.taken) views pass v w at in let t = rule.each_once h in omega arith;
          parts = let s = total_set (λ (u : PassKnowledge M). u.parts) views pass v w at in let t = rule.parts in omega arith;
          idle = all_set (λ j u. u.parts ≡ 0 → u.taken ≡ []) views pass w (rule.idle pass v at) (λ j u _ e. rule.idle j u e);
        },
        refl,
      )

  -- a pass takes the first message of the queue
  pub takes : (pass : ℕ) (v : PassKnowledge M) → 0 < v.parts → Pops IsInOrder pass v (λ x w. (place : ℕ) × (w ≡ hand v.parts v.puts v.put (v.taken ++ (place, x) ∷ [])))
  takes pass v some_part x items views rule at =
      let place = length rule.taken in
      let taken = rule.taken ++ x ∷ [] in
      let w : PassKnowledge M = hand v.parts v.puts v.put (v.taken ++ (place, x) ∷ []) in
      let same : rule.taken ++ (x ∷ items) ≡ taken ++ items = sym (append_assoc rule.taken (x ∷ []) items) in
      let old : All (λ j u. u.puts ≡ true → (j ≡ rule.seat) × (u.put ≡ taken ++ items)) views = λ j u e is. ((rule.one_puts j u e is).0, (rule.one_puts j u e is).1 ∙ same) in (
        w,
        record {
          seat = rule.seat;
          taken = taken;
          one_puts = all_set (λ j u. u.puts ≡ true → (j ≡ rule.seat) × (u.put ≡ taken ++ items)) views pass w (old pass v at) (λ j u _ e. old j u e);
          each_once = λ h.
              let s = total_set (λ (u : PassKnowledge M). weigh h u.taken) views pass v w at in
              let t = rule.each_once h in
              let here : place + 0 ≡ place = omega arith in
              omega (arith, weigh-append h v.taken ((place, x) ∷ []), weigh_from-snoc h 0 rule.taken x, ap (λ k. h k x) here);
          parts = let s = total_set (λ (u : PassKnowledge M). u.parts) views pass v w at in let t = rule.parts in omega arith;
          idle = all_set (λ j u. u.parts ≡ 0 → u.taken ≡ []) views pass w (λ none. absurd (omega arith)) (λ j u _ e. rule.idle j u e);
        },
        (place, refl),
      )

  -- a pass that takes is cut off
  pub forks : (pass : ℕ) (v : PassKnowledge M) → 1 < v.parts → Forks IsInOrder pass v (hand (v.parts - 1) v.puts v.put v.taken) (hand 1 false [] [])
  forks pass v two_parts items views rule at =
      let l : PassKnowledge M = hand (v.parts - 1) v.puts v.put v.taken in
      let r : PassKnowledge M = hand 1 false [] [] in
      let vs : List (PassKnowledge M) = set views pass l in
      record {
        seat = rule.seat;
        taken = rule.taken;
        one_puts = all_snoc (λ j u. u.puts ≡ true → (j ≡ rule.seat) × (u.put ≡ rule.taken ++ items)) vs r
            (all_set (λ j u. u.puts ≡ true → (j ≡ rule.seat) × (u.put ≡ rule.taken ++ items)) views pass l (rule.one_puts pass v at) (λ j u _ e. rule.one_puts j u e))
            (λ j is. absurd (true≢false (sym is)));
        each_once = λ h.
            let s = total_set (λ (u : PassKnowledge M). weigh h u.taken) views pass v l at in
            let t = rule.each_once h in
            omega (arith, total_snoc (λ (u : PassKnowledge M). weigh h u.taken) vs r);
        parts =
            let s = total_set (λ (u : PassKnowledge M). u.parts) views pass v l at in
            let t = rule.parts in
            omega (arith, total_snoc (λ (u : PassKnowledge M). u.parts) vs r);
        idle = all_snoc (λ j u. u.parts ≡ 0 → u.taken ≡ []) vs r
            (all_set (λ j u. u.parts ≡ 0 → u.taken ≡ []) views pass l (λ none. absurd (omega arith)) (λ j u _ e. rule.idle j u e))
            (λ j none. refl);
      }

  -- a pass takes in what another took
  pub merges : (pass : ℕ) (v : PassKnowledge M) (other : ℕ) (u : PassKnowledge M) → 0 < v.parts → u.puts ≡ false → Merges IsInOrder pass v other u (hand (v.parts + u.parts) v.puts v.put (v.taken ++ u.taken)) (hand 0 false [] [])
  merges pass v other u some_part takes_only items views rule at two at' =
      let both : PassKnowledge M = hand (v.parts + u.parts) v.puts v.put (v.taken ++ u.taken) in
      let none : PassKnowledge M = hand 0 false [] [] in
      let vs : List (PassKnowledge M) = set views pass both in
      let P : ℕ → PassKnowledge M → Type 0 = λ j y. y.puts ≡ true → (j ≡ rule.seat) × (y.put ≡ rule.taken ++ items) in
      let Q : ℕ → PassKnowledge M → Type 0 = λ j y. y.parts ≡ 0 → y.taken ≡ [] in
      record {
        seat = rule.seat;
        taken = rule.taken;
        one_puts = all_set P vs other none (λ is. absurd (true≢false (sym is)))
            (λ j y _ e. all_set P views pass both (rule.one_puts pass v at) (λ j' y' _ e'. rule.one_puts j' y' e') j y e);
        each_once = λ h.
            let s = total_set (λ (y : PassKnowledge M). weigh h y.taken) views pass v both at in
            let s' = total_set (λ (y : PassKnowledge M). weigh h y.taken) vs other u none at' in
            let t = rule.each_once h in
            omega (arith, weigh-append h v.taken u.taken);
        parts =
            let s = total_set (λ (y : PassKnowledge M). y.parts) views pass v both at in
            let s' = total_set (λ (y : PassKnowledge M). y.parts) vs other u none at' in
            let t = rule.parts in
            omega arith;
        idle = all_set Q vs other none (λ _. refl)
            (λ j y _ e. all_set Q views pass both (λ zero_parts. absurd (omega arith)) (λ j' y' _ e'. rule.idle j' y' e') j y e);
      }

  -- the pass with all parts that puts learns the whole
  pub learns : (pass : ℕ) (v : PassKnowledge M) → v.parts ≡ 1024 → v.puts ≡ true → Learns IsInOrder pass v (λ items. IsPrefixTaken v.put v.taken items)
  learns pass v all may items views rule at = (
    rule.taken,
    (rule.one_puts pass v at may).1,
    λ h.
        let alone = total_alone (λ (u : PassKnowledge M). weigh h u.taken) views pass v at (rule.parts ∙ sym all) (λ j u e none. ap (weigh h) (rule.idle j u e none)) (omega arith) in
        sym alone ∙ rule.each_once h,
  )
