-- A journal as it is kept, the oldest entry first, and its reverse, the newest first: one state, one legality, one numbering.
use Rattle.std.{specs.Prelude.slice_get, proofs.lemmas.Bool.{cond-true, cond-false, eq-eqb, ne_eqb}}
use Rattle.std.proofs.Common.{◌≡◌, ℕ, zero, suc, ◌+◌, ◌≤◌, ◌<◌, List, [], ◌∷◌, ◌++◌, length, Some, None, refl, sym, ap, subst, ◌∙◌, arith, append_assoc, reverse}
use Rattle.std.proofs.lemmas.List.{reverse-append, append-nil, length-append, length-reverse}
use Rattle.tq_shape.specs.{Journal.{state_from, IsLegalFrom, state_after, IsLegal, entry_at}, declared.part.Entry.Entry}

pub reverse-push : {E : Type 0} (es : List E) (e : E) → reverse (es ++ e ∷ []) ≡ e ∷ reverse es
reverse-push es e = reverse-append es (e ∷ [])

-- the first of the older ones comes last
reverse_onto : {E : Type 0} (e : E) (es earlier : List E) → reverse (e ∷ es) ++ earlier ≡ reverse es ++ e ∷ earlier
reverse_onto e es earlier = ap (λ xs. xs ++ earlier) (reverse-append (e ∷ []) es) ∙ append_assoc (reverse es) (e ∷ []) earlier

module _ {S A R : Type 0} (reply : S → ℕ → A → R) (after : S → ℕ → A → S) (opening : S) where
  state_onto : (es earlier : List (Entry A R)) (n : ℕ) → n ≡ suc (length earlier)
      → state_from after (state_after after opening earlier) n es ≡ state_after after opening (reverse es ++ earlier)
  state_onto [] earlier n at = refl
  state_onto (e ∷ es) earlier n at =
      ap (λ (m : ℕ). state_from after (after (state_after after opening earlier) m e.ask) (n + 1) es) at
      ∙ state_onto es (e ∷ earlier) (n + 1) (omega arith)
      ∙ ap (state_after after opening) (sym (reverse_onto e es earlier))

  legal_onto : (es earlier : List (Entry A R)) (n : ℕ) → n ≡ suc (length earlier)
      → IsLegalFrom reply after (state_after after opening earlier) n es → IsLegal reply after opening earlier → IsLegal reply after opening (reverse es ++ earlier)
  legal_onto [] earlier n at from legal = legal
  legal_onto (e ∷ es) earlier n at from legal =
      let here : e.reply ≡ reply (state_after after opening earlier) (suc (length earlier)) e.ask = from.0 ∙ ap (λ (m : ℕ). reply (state_after after opening earlier) m e.ask) at in
      let rest : IsLegalFrom reply after (state_after after opening (e ∷ earlier)) (n + 1) es =
      subst (λ (m : ℕ). IsLegalFrom reply after (after (state_after after opening earlier) m e.ask) (n + 1) es) at from.1 in
      subst (IsLegal reply after opening) (sym (reverse_onto e es earlier)) (legal_onto es (e ∷ earlier) (n + 1) (omega arith) rest (here, legal))

  onto_legal : (es earlier : List (Entry A R)) (n : ℕ) → n ≡ suc (length earlier)
      → IsLegal reply after opening (reverse es ++ earlier) → IsLegalFrom reply after (state_after after opening earlier) n es × IsLegal reply after opening earlier
  onto_legal [] earlier n at legal = (tt, legal)
  onto_legal (e ∷ es) earlier n at legal =
      let both = onto_legal es (e ∷ earlier) (n + 1) (omega arith) (subst (IsLegal reply after opening) (reverse_onto e es earlier) legal) in
      let here : e.reply ≡ reply (state_after after opening earlier) n e.ask = both.1.0 ∙ ap (λ (m : ℕ). reply (state_after after opening earlier) m e.ask) (sym at) in
      let rest : IsLegalFrom reply after (after (state_after after opening earlier) n e.ask) (n + 1) es =
      subst (λ (m : ℕ). IsLegalFrom reply after (after (state_after after opening earlier) m e.ask) (n + 1) es) (sym at) both.0 in
      ((here, rest), both.1.1)

  -- the part after a journal
  pub state-reverse : (es : List (Entry A R)) → state_from after opening 1 es ≡ state_after after opening (reverse es)
  state-reverse es = state_onto es [] 1 refl ∙ ap (state_after after opening) (append-nil (reverse es))

  -- a legal journal
  pub legal-reverse : (es : List (Entry A R)) → IsLegalFrom reply after opening 1 es → IsLegal reply after opening (reverse es)
  legal-reverse es from = subst (IsLegal reply after opening) (append-nil (reverse es)) (legal_onto es [] 1 refl from tt)

  pub reverse-legal : (es : List (Entry A R)) → IsLegal reply after opening (reverse es) → IsLegalFrom reply after opening 1 es
  reverse-legal es legal = (onto_legal es [] 1 refl (subst (IsLegal reply after opening) (sym (append-nil (reverse es))) legal)).0

  -- one entry more, with the reply that the part gives
  pub legal-push : (es : List (Entry A R)) (e : Entry A R) → IsLegalFrom reply after opening 1 es
      → e.reply ≡ reply (state_from after opening 1 es) (suc (length es)) e.ask → IsLegalFrom reply after opening 1 (es ++ e ∷ [])
  legal-push es e from is =
      let number : length es ≡ length (reverse es) = sym (length-reverse es) in
      let said : e.reply ≡ reply (state_after after opening (reverse es)) (suc (length (reverse es))) e.ask =
      is ∙ ap (λ (s : S). reply s (suc (length es)) e.ask) (state-reverse es) ∙ ap (λ (n : ℕ). reply (state_after after opening (reverse es)) (suc n) e.ask) number in
      reverse-legal (es ++ e ∷ []) (subst (IsLegal reply after opening) (sym (reverse-push es e)) (said, legal-reverse es from))

  pub state-push : (es : List (Entry A R)) (e : Entry A R)
      → state_from after opening 1 (es ++ e ∷ []) ≡ after (state_from after opening 1 es) (suc (length es)) e.ask
  state-push es e =
      state-reverse (es ++ e ∷ [])
      ∙ ap (state_after after opening) (reverse-push es e)
      ∙ ap (λ (n : ℕ). after (state_after after opening (reverse es)) (suc n) e.ask) (length-reverse es)
      ∙ ap (λ (s : S). after s (suc (length es)) e.ask) (sym (state-reverse es))

-- ---- the entry of a number

module _ {E : Type 0} where
  at_past : (K : List E) (n : ℕ) → length K < n → entry_at K n ≡ None
  at_past [] n past = refl
  at_past (e ∷ K) n past =
      cond-false _ (Some e) (entry_at K n) (ne_eqb n (suc (length K)) (λ p. absurd (omega arith))) ∙ at_past K n (omega arith)

  at_under : (es K : List E) (n : ℕ) → n ≤ length K → entry_at (es ++ K) n ≡ entry_at K n
  at_under [] K n low = refl
  at_under (e ∷ es) K n low =
      let long = length-append es K in
      cond-false _ (Some e) (entry_at (es ++ K) n) (ne_eqb n (suc (length (es ++ K))) (λ p. absurd (omega arith))) ∙ at_under es K n low

  at_onto : (es earlier : List E) (i n : ℕ) → n ≡ suc i + length earlier → entry_at (reverse es ++ earlier) n ≡ slice_get es i
  at_onto [] earlier i n at = at_past earlier n (omega arith)
  at_onto (e ∷ es) earlier zero n at =
      ap (λ (K : List E). entry_at K n) (reverse_onto e es earlier)
      ∙ at_under (reverse es) (e ∷ earlier) n (omega arith)
      ∙ cond-true _ (Some e) (entry_at earlier n) (eq-eqb n (suc (length earlier)) (omega arith))
  at_onto (e ∷ es) earlier (suc i) n at =
      ap (λ (K : List E). entry_at K n) (reverse_onto e es earlier)
      ∙ at_onto es (e ∷ earlier) i n (omega arith)

  -- the entry of a number is the item before that place
  pub at-reverse : (es : List E) (i : ℕ) → entry_at (reverse es) (suc i) ≡ slice_get es i
  at-reverse es i = ap (λ (K : List E). entry_at K (suc i)) (sym (append-nil (reverse es))) ∙ at_onto es [] i (suc i) (omega arith)
