-- The entries of a journal that grows, and values in lists. A journal that is one entry longer.
use Rattle.std.proofs.Common.{◌≡◌, ℕ, suc, ◌≤◌, ◌<◌, Bool, true, false, cond, eqb, List, [], ◌∷◌, ◌++◌, length, map, filter, Option, Some, None, refl, sym, ap, ◌∙◌, ◌⊎◌, inl, inr, arith, ◌+◌, subst, length-append}
use Rattle.std.proofs.lemmas.Bool.{cases_Bool, cond-true, cond-false, eqb-true, eq-eqb, ne_eqb, and_parts, or_cases, or_left, or_right, false≢true, true≢false}
use Rattle.std.specs.List.{list_any, list_all, find}
use Rattle.tq_shape.specs.{Journal.{entry_at, Has, entry, state_from, IsLegalFrom}, declared.part.Entry.Entry}
use Rattle.tq_shape.specs.Agrees.{Agrees}

pub Some-same : {A : Type 0} {x y : A} → Some x ≡ Some y → x ≡ y
Some-same h = cc

module _ {E : Type 0} where
  pub at-cases : (e : E) (K : List E) (n : ℕ) (x : E) → entry_at (e ∷ K) n ≡ Some x → ((n ≡ suc (length K)) × (e ≡ x)) ⊎ (entry_at K n ≡ Some x)
  at-cases e K n x h =
      elim (cases_Bool (eqb n (suc (length K)))) [
        | inl t ↦ inl (eqb-true _ _ t, Some-same (sym (cond-true _ (Some e) (entry_at K n) t) ∙ h))
        | inr f ↦ inr (sym (cond-false _ (Some e) (entry_at K n) f) ∙ h)
      ]

  pub at-bound : (K : List E) (n : ℕ) (x : E) → entry_at K n ≡ Some x → n ≤ length K
  at-bound [] n x h = cc
  at-bound (e ∷ K) n x h =
      elim (at-cases e K n x h) [
        | inl p ↦ omega arith
        | inr q ↦ let b = at-bound K n x q in omega arith
      ]

  pub at-positive : (K : List E) (n : ℕ) (x : E) → entry_at K n ≡ Some x → 1 ≤ n
  at-positive [] n x h = cc
  at-positive (e ∷ K) n x h =
      elim (at-cases e K n x h) [
        | inl p ↦ omega arith
        | inr q ↦ at-positive K n x q
      ]

  pub at-old : (e : E) (K : List E) (n : ℕ) (x : E) → entry_at K n ≡ Some x → entry_at (e ∷ K) n ≡ Some x
  at-old e K n x h =
      let b = at-bound K n x h in
      let ne : n ≡ suc (length K) → ⊥ = λ p. absurd (omega arith) in
      cond-false _ (Some e) (entry_at K n) (ne_eqb n (suc (length K)) ne) ∙ h

  pub at-new : (e : E) (K : List E) → entry_at (e ∷ K) (suc (length K)) ≡ Some e
  at-new e K = cond-true _ (Some e) (entry_at K (suc (length K))) (eq-eqb _ _ refl)

  pub at-before : (e : E) (K : List E) (n : ℕ) (x : E) → entry_at (e ∷ K) n ≡ Some x → n < suc (length K) → entry_at K n ≡ Some x
  at-before e K n x h l =
      elim (at-cases e K n x h) [
        | inl p ↦ absurd (omega arith)
        | inr q ↦ q
      ]

  pub at-same : (K : List E) (n : ℕ) (x y : E) → entry_at K n ≡ Some x → entry_at K n ≡ Some y → x ≡ y
  at-same K n x y p q = Some-same (sym p ∙ q)

pub Has-map : {A B : Type 0} (f : A → B) (xs : List A) (y : B) → Has (map f xs) y → (x : A) × Has xs x × (f x ≡ y)
Has-map f [] y h = absurd h
Has-map f (x ∷ xs) y (inl e) = (x, inl refl, e)
Has-map f (x ∷ xs) y (inr h) = let r = Has-map f xs y h in (r.0, inr r.1, r.2)

pub map-Has : {A B : Type 0} (f : A → B) (xs : List A) (x : A) → Has xs x → Has (map f xs) (f x)
map-Has f [] x h = absurd h
map-Has f (y ∷ xs) x (inl e) = inl (ap f e)
map-Has f (y ∷ xs) x (inr h) = inr (map-Has f xs x h)

pub any-Has : {A : Type 0} (p : A → Bool) (xs : List A) → list_any p xs ≡ true → (x : A) × Has xs x × (p x ≡ true)
any-Has p [] h = absurd (false≢true h)
any-Has p (x ∷ xs) h =
    elim (or_cases (p x) (list_any p xs) h) [
      | inl t ↦ (x, inl refl, t)
      | inr r ↦ let w = any-Has p xs r in (w.0, inr w.1, w.2)
    ]

pub Has-any : {A : Type 0} (p : A → Bool) (xs : List A) (x : A) → Has xs x → p x ≡ true → list_any p xs ≡ true
Has-any p [] x h t = absurd h
Has-any p (y ∷ xs) x (inl e) t = or_left (p y) (list_any p xs) (ap p e ∙ t)
Has-any p (y ∷ xs) x (inr h) t = or_right (p y) (list_any p xs) (Has-any p xs x h t)

pub all-Has : {A : Type 0} (p : A → Bool) (xs : List A) → list_all p xs ≡ true → (x : A) → Has xs x → p x ≡ true
all-Has p [] t x h = absurd h
all-Has p (y ∷ xs) t x (inl e) = ap p (sym e) ∙ (and_parts (p y) (list_all p xs) t).0
all-Has p (y ∷ xs) t x (inr h) = all-Has p xs (and_parts (p y) (list_all p xs) t).1 x h

pub find-Has : {A : Type 0} (p : A → Bool) (xs : List A) (x : A) → find p xs ≡ Some x → Has xs x × (p x ≡ true)
find-Has p [] x h = cc
find-Has p (y ∷ xs) x h =
    elim (cases_Bool (p y)) [
      | inl t ↦ let e : y ≡ x = Some-same (sym (cond-true _ (Some y) (find p xs) t) ∙ h) in (inl e, ap p (sym e) ∙ t)
      | inr f ↦ let r = find-Has p xs x (sym (cond-false _ (Some y) (find p xs) f) ∙ h) in (inr r.0, r.1)
    ]

pub none-Has : {A : Type 0} (p : A → Bool) (xs : List A) → find p xs ≡ None → (x : A) → Has xs x → p x ≡ true → ⊥
none-Has p [] n x h t = h
none-Has p (y ∷ xs) n x (inl e) t =
    let s : Path (Option _) (Some y) None = sym (cond-true (p y) (Some y) (find p xs) (ap p e ∙ t)) ∙ n in cc
none-Has p (y ∷ xs) n x (inr h) t =
    elim (cases_Bool (p y)) [
      | inl u ↦ let s : Path (Option _) (Some y) None = sym (cond-true (p y) (Some y) (find p xs) u) ∙ n in cc
      | inr f ↦ none-Has p xs (sym (cond-false (p y) (Some y) (find p xs) f) ∙ n) x h t
    ]

pub Has-append : {A : Type 0} (xs ys : List A) (x : A) → Has (xs ++ ys) x → Has xs x ⊎ Has ys x
Has-append [] ys x h = inr h
Has-append (y ∷ xs) ys x (inl e) = inl (inl e)
Has-append (y ∷ xs) ys x (inr h) =
    elim (Has-append xs ys x h) [
      | inl l ↦ inl (inr l)
      | inr r ↦ inr r
    ]

pub append-Has : {A : Type 0} (xs ys : List A) (x : A) → Has xs x ⊎ Has ys x → Has (xs ++ ys) x
append-Has [] ys x (inl h) = absurd h
append-Has [] ys x (inr h) = h
append-Has (y ∷ xs) ys x (inl (inl e)) = inl e
append-Has (y ∷ xs) ys x (inl (inr h)) = inr (append-Has xs ys x (inl h))
append-Has (y ∷ xs) ys x (inr h) = inr (append-Has xs ys x (inr h))

pub Has-filter : {A : Type 0} (p : A → Bool) (xs : List A) (x : A) → Has (filter p xs) x → Has xs x × (p x ≡ true)
Has-filter p [] x h = absurd h
Has-filter p (y ∷ xs) x h = by (p y) refl h (λ k. Has-filter p xs x k)
  where
    by : (b : Bool) → p y ≡ b → Has (cond b (y ∷ filter p xs) (filter p xs)) x → (Has (filter p xs) x → Has xs x × (p x ≡ true)) → Has (y ∷ xs) x × (p x ≡ true)
    by true t (inl e) ih = (inl e, ap p (sym e) ∙ t)
    by true t (inr k) ih = let r = ih k in (inr r.0, r.1)
    by false t k ih = let r = ih k in (inr r.0, r.1)

pub filter-Has : {A : Type 0} (p : A → Bool) (xs : List A) (x : A) → Has xs x → p x ≡ true → Has (filter p xs) x
filter-Has p [] x h t = h
filter-Has p (y ∷ xs) x h t = by (p y) refl h (λ r. filter-Has p xs x r t)
  where
    by : (b : Bool) → p y ≡ b → (y ≡ x) ⊎ Has xs x → (Has xs x → Has (filter p xs) x) → Has (cond b (y ∷ filter p xs) (filter p xs)) x
    by true q (inl e) ih = inl e
    by true q (inr r) ih = inr (ih r)
    by false q (inl e) ih = absurd (true≢false (sym t ∙ ap p (sym e) ∙ q))
    by false q (inr r) ih = ih r

-- ---- one more

module _ {S A R : Type 0} (reply : S → ℕ → A → R) (after : S → ℕ → A → S) where
  pub state-snoc : (s : S) (n : ℕ) (js : List (Entry A R)) (e : Entry A R) → state_from after s n (js ++ e ∷ []) ≡ after (state_from after s n js) (length js + n) e.ask
  state-snoc s n [] e = ap (λ k. after s k e.ask) (omega arith)
  state-snoc s n (j ∷ js) e =
      state-snoc (after s n j.ask) (n + 1) js e
      ∙ ap (λ k. after (state_from after (after s n j.ask) (n + 1) js) k e.ask) (omega arith)

  pub legal-snoc : (s : S) (n : ℕ) (js : List (Entry A R)) (e : Entry A R) → IsLegalFrom reply after s n js → e.reply ≡ reply (state_from after s n js) (length js + n) e.ask → IsLegalFrom reply after s n (js ++ e ∷ [])
  legal-snoc s n [] e legal is = (is ∙ ap (λ k. reply s k e.ask) (omega arith), tt)
  legal-snoc s n (j ∷ js) e legal is = (
    legal.0,
    legal-snoc (after s n j.ask) (n + 1) js e legal.1 (is ∙ ap (λ k. reply (state_from after (after s n j.ask) (n + 1) js) k e.ask) (omega arith)),
  )

  pub agrees-snoc : (opening : S → S) (is_ready : S → ℕ → Type 0)
      → ((s : S) (n : ℕ) (a : A) → is_ready s n → is_ready (after s n a) (n + 1))
      → ((s : S) (n : ℕ) (a : A) → opening (after s n a) ≡ opening s)
      → (part : S) (js : List (Entry A R)) (limit : ℕ) (ask : A) → Agrees opening is_ready reply after part js limit → length js < limit
      → Agrees opening is_ready reply after (after part (length js + 1) ask) (js ++ entry ask (reply part (length js + 1) ask) ∷ []) limit
  agrees-snoc opening is_ready stays keeps part js limit ask agrees room =
      let o = opening part in
      let e = entry ask (reply part (length js + 1) ask) in
      let same : opening (after part (length js + 1) ask) ≡ o = keeps part (length js + 1) ask in
      let here : part ≡ state_from after o 1 js = agrees.replays in
      let one_more : length (js ++ e ∷ []) ≡ length js + 1 = length-append js (e ∷ []) in
      record {
        legal = subst (λ p. IsLegalFrom reply after p 1 (js ++ e ∷ [])) (sym same) (legal-snoc o 1 js e agrees.legal (ap (λ p. reply p (length js + 1) ask) here));
        replays = ap (λ p. after p (length js + 1) ask) here ∙ sym (state-snoc o 1 js e) ∙ ap (λ p. state_from after p 1 (js ++ e ∷ [])) (sym same);
        ready = subst (λ k. is_ready (after part (length js + 1) ask) (k + 1)) (sym one_more) (stays part (length js + 1) ask agrees.ready);
        room = omega (arith, one_more);
      }
