-- Numbers put into a set one after the other: their order does not matter.
use Rattle.std.proofs.Common.{◌≡◌, ℕ, ◌<◌, List, [], ◌∷◌, Bool, true, false, cond, nat_lt, refl, sym, ap, ◌∙◌, arith, inl, inr}
use Rattle.std.proofs.lemmas.Bool.{cases_lt, cases_eq, lt-ltb, le-ltb, eq-eqb, ne_eqb}
use Rattle.tq_shape.specs.ServerSet.{Ascends, with_number}
use Rattle.tq_coterie.specs.Coterie.{union_of, with_server}
use Rattle.tq_live.specs.Least.{with_all}

with-below : (number first : ℕ) (rest : List ℕ) → number < first → with_number number (first ∷ rest) ≡ number ∷ first ∷ rest
with-below number first rest less = rw (lt-ltb number first less) refl

with-there : (number first : ℕ) (rest : List ℕ) → number ≡ first → with_number number (first ∷ rest) ≡ first ∷ rest
with-there number first rest same = rw (le-ltb number first (omega (arith, same)), eq-eqb number first same) refl

with-later : (number first : ℕ) (rest : List ℕ) → first < number → with_number number (first ∷ rest) ≡ first ∷ with_number number rest
with-later number first rest less = rw (le-ltb number first (omega (arith, less)), ne_eqb number first (λ same. absurd (omega (arith, less, same)))) refl

-- two numbers may be put in in either order
swap-less : (low high : ℕ) (set : List ℕ) → low < high → with_number low (with_number high set) ≡ with_number high (with_number low set)
swap-less low high [] less = with-below low high [] less ∙ sym (with-later high low [] less)
swap-less low high (first ∷ rest) less =
    elim (cases_lt low first) [
      | inl below ↦ low-first below
      | inr not_below ↦
          let later : first < high = omega (arith, less, not_below) in
          elim (cases_eq low first) [
            | inl same ↦
                ap (with_number low) (with-later high first rest later)
                ∙ (with-there low first (with_number high rest) same
                ∙ (sym (with-later high first rest later) ∙ ap (with_number high) (sym (with-there low first rest same))))
            | inr other ↦
                let above : first < low = omega (arith, not_below, other) in
                ap (with_number low) (with-later high first rest later)
                ∙ (with-later low first (with_number high rest) above
                ∙ (ap (λ numbers. first ∷ numbers) (swap-less low high rest less)
                ∙ (sym (with-later high first (with_number low rest) later) ∙ ap (with_number high) (sym (with-later low first rest above)))))
          ]
    ]
  where
    after : low < first → with_number high (with_number low (first ∷ rest)) ≡ low ∷ with_number high (first ∷ rest)
    after below = ap (with_number high) (with-below low first rest below) ∙ with-later high low (first ∷ rest) less

    low-first : low < first → with_number low (with_number high (first ∷ rest)) ≡ with_number high (with_number low (first ∷ rest))
    low-first below =
        elim (cases_lt high first) [
          | inl under ↦
              ap (with_number low) (with-below high first rest under)
              ∙ (with-below low high (first ∷ rest) less ∙ (ap (λ numbers. low ∷ numbers) (sym (with-below high first rest under)) ∙ sym (after below)))
          | inr not_under ↦
              elim (cases_eq high first) [
                | inl same ↦
                    ap (with_number low) (with-there high first rest same)
                    ∙ (with-below low first rest below ∙ (ap (λ numbers. low ∷ numbers) (sym (with-there high first rest same)) ∙ sym (after below)))
                | inr other ↦
                    let later : first < high = omega (arith, not_under, other) in
                    ap (with_number low) (with-later high first rest later)
                    ∙ (with-below low first (with_number high rest) below ∙ (ap (λ numbers. low ∷ numbers) (sym (with-later high first rest later)) ∙ sym (after below)))
              ]
        ]

with-swap : (one other : ℕ) (set : List ℕ) → with_number one (with_number other set) ≡ with_number other (with_number one set)
with-swap one other set =
    elim (cases_lt one other) [
      | inl less ↦ swap-less one other set less
      | inr most ↦
          elim (cases_eq one other) [
            | inl same ↦ ap (λ n. with_number n (with_number other set)) same ∙ ap (λ n. with_number other (with_number n set)) (sym same)
            | inr different ↦ sym (swap-less other one set (omega (arith, most, different)))
          ]
    ]

-- one put in before the others is one put in behind them
pub with_all-after : (number : ℕ) (servers set : List ℕ) → with_all servers (with_number number set) ≡ with_number number (with_all servers set)
with_all-after number [] set = refl
with_all-after number (first ∷ rest) set = ap (with_number first) (with_all-after number rest set) ∙ with-swap first number (with_all rest set)

-- one more in its place is one more put in
with_all-with_server : (server : ℕ) (servers set : List ℕ) → with_all (with_server server servers) set ≡ with_number server (with_all servers set)
with_all-with_server server [] set = refl
with_all-with_server server (first ∷ rest) set =
    by_order (nat_lt server first) (ap (with_number first) (with_all-with_server server rest set) ∙ with-swap first server (with_all rest set))
  where
    by_order : (less : Bool) → with_number first (with_all (with_server server rest) set) ≡ with_number server (with_number first (with_all rest set))
        → with_all (cond less (server ∷ first ∷ rest) (first ∷ with_server server rest)) set ≡ with_number server (with_number first (with_all rest set))
    by_order true later = refl
    by_order false later = later

-- those of both lists are those of one put in to those of the other
pub with_all-joined : (servers others set : List ℕ) → with_all (union_of servers others) set ≡ with_all servers (with_all others set)
with_all-joined [] others set = refl
with_all-joined (first ∷ rest) others set = with_all-with_server first (union_of rest others) set ∙ ap (with_number first) (with_all-joined rest others set)

with-first : (number : ℕ) (rest : List ℕ) → Ascends number rest → with_number number rest ≡ number ∷ rest
with-first number [] up = refl
with-first number (first ∷ rest) up = with-below number first rest up.0

-- put in to none, ascending numbers are the set
pub with_all-none : (low : ℕ) (servers : List ℕ) → Ascends low servers → with_all servers [] ≡ servers
with_all-none low [] up = refl
with_all-none low (first ∷ rest) up = ap (with_number first) (with_all-none first rest up.1) ∙ with-first first rest up.1
