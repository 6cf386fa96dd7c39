-- What the two columns of an `Ordered` are to its value. The place of a key in a list of keys, and how an ordered map
-- keeps it.
use Rattle.std.proofs.Common.{◌≡◌, ◌-◌, ◌<◌, ℕ, Bool, List, swap_remove, arith, subst, length, min, sym, ap, ◌∙◌, Vec, zip, ◌≢◌, Result, Ok, Err, OnErr, IsOk, drop, take-append-drop, ◌+◌, ◌≤◌, true, false, cond, [], ◌∷◌, ◌++◌, get_or, take, Option, Some, None, position, nat_lt, refl, true≢false, is_some, unwrap_or, inl, inr, lt-ltb, le-ltb, ltb-true, ltb-false, take_all, length-take-le, get_or-take, is_eq, length-append}
use Rattle.std.proofs.lemmas.{Bool.Decides.eqb_tells, Grind.get_or-set_at, Map.Keys.apart_from_distinct}
use Rattle.std.proofs.lemmas.List.{get_or_default, take_more, get_or_push, get_or_append_left, get_or-set_other, take-append-le}
use Rattle.std.proofs.{lemmas.List.Sums.{position_or_len_is, fails_before_first, passes_at_first}, Math.Decide.dec_lt}
use Rattle.std.specs.{Prelude.⊤, Map.{keys_of, values_of, lookup}, Cmp.IsEquivalence, declared.cmp.Ordering.Ordering}
use Rattle.std.specs.{List.{IsDistinct, position_or_len}, BTreeMap.{BTreeMap, is_at}}
use Rattle.indexmap.{specs.IndexMap.{IndexMap, spare}, proofs.MapLemmas.{distinct_from_apart, some_index}}
use Rattle.std_collections.proofs.Zip.{length-zip_even, keys_of-zip, values_of-zip, zip-swap_remove}
use Rattle.std_collections.proofs.HashLookup.{distinct_swap_remove, length-swap_remove}
use Rattle.tq_store.specs.Bounded.{with_spare, ArePlaced}
use Rattle.std.specs.BTreeMap as ordered

module _ {K V Z : Type 0} where
  pub record Opened (ks : Vec K Z) (vs : Vec V Z) (m : IndexMap K V ⊤) : Type 0 where
    pub entries : zip ks.items vs.items ≡ m.entries
    pub spare : min ks.cap vs.cap - length ks.items ≡ spare m
    pub keys : ks.items ≡ keys_of m.entries
    pub values : vs.items ≡ values_of m.entries
    pub keys_length : length ks.items ≡ length m.entries
    pub values_length : length vs.items ≡ length m.entries
    pub keys_len : ks.len ≡ length m.entries
    pub values_len : vs.len ≡ length m.entries

  -- from the view's equation and the invariant
  pub opened : (ks : Vec K Z) (vs : Vec V Z) (m : IndexMap K V ⊤) → with_spare (zip ks.items vs.items) (min ks.cap vs.cap - length ks.items) ≡ m
      → length vs.items ≡ length ks.items → Opened ks vs m
  opened ks vs m p even =
      let e : zip ks.items vs.items ≡ m.entries = ap (λ r. r.entries) p in
      let n : length ks.items ≡ length m.entries = sym (length-zip_even ks.items vs.items even) ∙ ap length e in
      record {
        entries = e;
        spare = ap spare p;
        keys = sym (keys_of-zip ks.items vs.items even) ∙ ap keys_of e;
        values = sym (values_of-zip ks.items vs.items even) ∙ ap values_of e;
        keys_length = n;
        values_length = even ∙ n;
        keys_len = ks.ok.0 ∙ n;
        values_len = vs.ok.0 ∙ even ∙ n;
      }

-- keys that differ, and one that is taken out
pub distinct_removed : {K V : Type 0} {eq : K → K → Bool} → IsEquivalence eq → (ks : List K) (vs : List V) (i : ℕ) (k : K) (v : V) → length vs ≡ length ks → i < length ks → IsDistinct eq ks
    → IsDistinct eq (swap_remove ks i k)
distinct_removed {eq = eq} laws ks vs i k v even within distinct =
    let after : length (swap_remove vs i v) ≡ length (swap_remove ks i k) = omega (arith, length-swap_remove ks i k within, length-swap_remove vs i v (omega (arith, within, even)), even) in
    let inside : i < length (zip ks vs) = omega (arith, within, length-zip_even ks vs even) in
    subst (IsDistinct eq) (ap keys_of (sym (zip-swap_remove ks vs i k v even)) ∙ keys_of-zip (swap_remove ks i k) (swap_remove vs i v) after)
    (distinct_swap_remove eq laws (zip ks vs) i (k, v) inside (subst (IsDistinct eq) (sym (keys_of-zip ks vs even)) distinct))

-- ---- placed

module _ {K : Type 0} (t : K → Bool) where
  -- the first key that passes has the place
  pub position_first : (ks : List K) (i : ℕ) (d : K) → i < length ks → ((j : ℕ) → j < i → t (get_or ks j d) ≡ false) → t (get_or ks i d) ≡ true → position t ks ≡ Some i
  position_first ks i d within fails passes =
      let n : position_or_len t ks ≡ i = position_or_len_is t ks i d (omega arith) fails (λ _. passes) in
      ap (λ m. cond (nat_lt m (length ks)) (Some m) None) n ∙ ap (λ b. cond b (Some i) None) (lt-ltb i (length ks) within)

  -- no key passes
  pub position_none : (ks : List K) → ((j : ℕ) (d : K) → j < length ks → t (get_or ks j d) ≡ false) → position t ks ≡ None
  position_none [] fails = refl
  position_none (k ∷ ks) fails =
      let n : position_or_len t (k ∷ ks) ≡ length (k ∷ ks) = position_or_len_is t (k ∷ ks) (length (k ∷ ks)) k (omega arith) (λ j h. fails j k h) (λ h. absurd (omega arith)) in
      ap (λ m. cond (nat_lt m (length (k ∷ ks))) (Some m) None) n ∙ ap (λ b. cond b (Some (length (k ∷ ks))) None) (le-ltb (length (k ∷ ks)) (length (k ∷ ks)) (omega arith))

  -- what a place says
  pub record At (ks : List K) (i : ℕ) : Type 0 where
    pub within : i < length ks
    pub passes : (d : K) → t (get_or ks i d) ≡ true
    pub fails : (j : ℕ) (d : K) → j < i → t (get_or ks j d) ≡ false

  pub At-position : (ks : List K) (i : ℕ) → position t ks ≡ Some i → At ks i
  At-position ks i found = by (nat_lt (position_or_len t ks) (length ks)) refl
    where
      by : (b : Bool) → nat_lt (position_or_len t ks) (length ks) ≡ b → At ks i
      by true e =
          let same : position_or_len t ks ≡ i = ap (λ r. unwrap_or r i) (sym (ap (λ b. cond b (Some (position_or_len t ks)) None) e) ∙ found) in
          let within : position_or_len t ks < length ks = ltb-true _ _ e in
          record {
            within = omega (arith, within, same);
            passes = λ d. ap (λ n. t (get_or ks n d)) (sym same) ∙ passes_at_first t ks d within;
            fails = λ j d h. fails_before_first t ks j d (omega (arith, h, same));
          }
      by false e = absurd (true≢false (sym (ap is_some (sym (ap (λ b. cond b (Some (position_or_len t ks)) None) e) ∙ found))))

  -- what none says
  pub none_passes : (ks : List K) → position t ks ≡ None → (j : ℕ) (d : K) → j < length ks → t (get_or ks j d) ≡ false
  none_passes ks missing j d h = by (nat_lt (position_or_len t ks) (length ks)) refl
    where
      by : (b : Bool) → nat_lt (position_or_len t ks) (length ks) ≡ b → t (get_or ks j d) ≡ false
      by true e = absurd (true≢false (ap is_some (sym (ap (λ b. cond b (Some (position_or_len t ks)) None) e) ∙ missing)))
      by false e = fails_before_first t ks j d (omega (arith, h, ltb-false _ _ e))

  -- more keys at the end leave a place as it is
  pub position_longer : (ks ls : List K) (i : ℕ) → position t ks ≡ Some i → position t (ks ++ ls) ≡ Some i
  position_longer [] ls i found = absurd (true≢false (sym (ap is_some found)))
  position_longer (k ∷ ks) ls i found =
      let at = At-position (k ∷ ks) i found in
      let l = k ∷ ks in
      position_first (l ++ ls) i k (omega (arith, at.within, length-append l ls))
      (λ j h. ap t (get_or_append_left l ls k j (omega (arith, h, at.within))) ∙ at.fails j k h)
      (ap t (get_or_append_left l ls k i at.within) ∙ at.passes k)

module _ {K : Type 0} {eq : K → K → Bool} (o : IsEquivalence eq) where
  -- of keys that differ, one that is equal to q has q's place
  pub own_place : (ks : List K) (q : K) (i : ℕ) (d : K) → IsDistinct eq ks → i < length ks → eq q (get_or ks i d) ≡ true → position (eq q) ks ≡ Some i
  own_place ks q i d distinct within hit =
      position_first (eq q) ks i d within
      (λ j h. o.congr q (get_or ks i d) (get_or ks j d) hit ∙ o.symm (get_or ks i d) (get_or ks j d) ∙ apart_from_distinct eq ks j i d distinct h within)
      hit

  -- a key that was not there goes last
  pub position_push : (ks : List K) (k q : K) → position (eq k) ks ≡ None → position (eq q) (ks ++ k ∷ []) ≡ cond (eq k q) (Some (length ks)) (position (eq q) ks)
  position_push ks k q absent = by (eq k q) refl
    where
      last : eq q (get_or (ks ++ k ∷ []) (length ks) k) ≡ eq k q
      last = ap (eq q) (get_or_push ks k k (length ks) refl) ∙ o.symm q k

      before : (j : ℕ) (d : K) → j < length ks → eq q (get_or (ks ++ k ∷ []) j d) ≡ eq q (get_or ks j d)
      before j d h = ap (eq q) (get_or_append_left ks (k ∷ []) d j h)

      missing : (r : Option ℕ) → position (eq q) ks ≡ r → eq k q ≡ false → position (eq q) (ks ++ k ∷ []) ≡ r
      missing (Some i) found e = position_longer (eq q) ks (k ∷ []) i found
      missing None none e =
          position_none (eq q) (ks ++ k ∷ [])
          (λ j d h. elim (dec_lt j (length ks)) [
            | yes less ↦ before j d less ∙ none_passes (eq q) ks none j d less
            | no more ↦ ap (eq q) (get_or_push ks k d j (omega (arith, more, h, length-append ks (k ∷ [])))) ∙ o.symm q k ∙ e
          ])

      by : (b : Bool) → eq k q ≡ b → position (eq q) (ks ++ k ∷ []) ≡ cond (eq k q) (Some (length ks)) (position (eq q) ks)
      by true e =
          position_first (eq q) (ks ++ k ∷ []) (length ks) k (omega (arith, length-append ks (k ∷ [])))
          (λ j h. before j k h ∙ sym (o.congr k q (get_or ks j k) e) ∙ none_passes (eq k) ks absent j k h)
          (last ∙ e)
          ∙ sym (ap (λ b. cond b (Some (length ks)) (position (eq q) ks)) e)
      by false e = missing (position (eq q) ks) refl e ∙ sym (ap (λ b. cond b (Some (length ks)) (position (eq q) ks)) e)

module _ {K : Type 0} (cmp : K → K → Ordering) (eq : K → K → Bool) where
  -- keys at the end that the ordered map has not
  pub placed_longer : (places : BTreeMap K ℕ) (n : ℕ) (ks ls : List K) → ArePlaced cmp eq places n ks → ArePlaced cmp eq places n (ks ++ ls)
  placed_longer places n ks ls h = (omega (arith, h.0, length-append ks ls), λ q. h.1 q ∙ ap (position (eq q)) (sym (take-append-le n ks ls h.0)))

  -- the same map
  pub placed_same : (old new : BTreeMap K ℕ) (n : ℕ) (ks : List K) → new.entries ≡ old.entries → ArePlaced cmp eq old n ks → ArePlaced cmp eq new n ks
  placed_same old new n ks same h = (h.0, λ q. ap (λ es. lookup (is_at (cmp q)) es) same ∙ h.1 q)

  module _ (o : IsEquivalence eq) (matches : (x y : K) → eq x y ≡ is_eq (cmp x y)) where
    -- the next key that the ordered map had not
    pub placed_next : (old new : BTreeMap K ℕ) (n : ℕ) (ks : List K) (k : K) → IsDistinct eq ks → n < length ks → k ≡ get_or ks n k
        → ((q : K) → ordered.get cmp new q ≡ cond (is_at (cmp k) q) (Some n) (ordered.get cmp old q)) → ArePlaced cmp eq old n ks → ArePlaced cmp eq new (n + 1) ks
    placed_next old new n ks k distinct within is updates h = (
      omega (arith, within),
      λ q.
          let ls = take n ks in
          let long : length ls ≡ n = length-take-le n ks h.0 in
          let absent : position (eq k) ls ≡ None =
          position_none (eq k) ls
          (λ j d less.
          let below : j < n = omega (arith, less, long) in
          ap (eq k) (get_or-take n ks j d below)
          ∙ o.symm k (get_or ks j d)
          ∙ ap (eq (get_or ks j d)) (is ∙ get_or_default ks n k d within)
          ∙ apart_from_distinct eq ks j n d distinct below within)
          in
          updates q
          ∙ ap (λ b. cond b (Some n) (ordered.get cmp old q)) (sym (matches k q))
          ∙ ap (cond (eq k q) (Some n)) (h.1 q)
          ∙ ap (λ m. cond (eq k q) (Some m) (position (eq q) ls)) (sym long)
          ∙ sym (position_push o ls k q absent)
          ∙ ap (position (eq q)) (sym (take_more ks n k within ∙ ap (λ x. ls ++ x ∷ []) (sym is))),
    )

-- the last key goes to the place of one that is taken out
module _ {K : Type 0} (cmp : K → K → Ordering) (eq : K → K → Bool) (o : IsEquivalence eq) (matches : (x y : K) → eq x y ≡ is_eq (cmp x y))
    (old mid : BTreeMap K ℕ) (ks : List K) (n p : ℕ) (k any : K) (distinct : IsDistinct eq ks) (within : p < length ks) (is : k ≡ get_or ks p k)
    (all : n ≡ length ks) (placed : ArePlaced cmp eq old n ks) (removed : (q : K) → ordered.get cmp mid q ≡ cond (is_at (cmp k) q) None (ordered.get cmp old q)) where
  -- the keys after it
  abbrev ls : List K
  ls = swap_remove ks p any

  short : length ls ≡ n - 1
  short = omega (arith, length-swap_remove ks p any within, all)

  moved : (d : K) → p < n - 1 → get_or ls p d ≡ get_or ks (n - 1) d
  moved d more =
      get_or-take (length ks - 1) _ p d (omega (arith, more, all)) ∙ get_or-set_at ks p p (get_or ks (length ks - 1) any) d refl within
      ∙ get_or_default ks (length ks - 1) any d (omega (arith, within)) ∙ ap (λ m. get_or ks (m - 1) d) (sym all)

  kept : (j : ℕ) (d : K) → j ≢ p → j < n - 1 → get_or ls j d ≡ get_or ks j d
  kept j d differ inner = get_or-take (length ks - 1) _ j d (omega (arith, inner, all)) ∙ get_or-set_other ks p j (get_or ks (length ks - 1) any) d differ

  mid_at : (q : K) → ordered.get cmp mid q ≡ cond (eq k q) None (position (eq q) ks)
  mid_at q =
      removed q ∙ ap (λ b. cond b None (ordered.get cmp old q)) (sym (matches k q))
      ∙ ap (cond (eq k q) None) (placed.1 q ∙ ap (position (eq q)) (take_all n ks (omega (arith, all))))

  -- the key at p is k
  is_k : (q : K) (j : ℕ) (d : K) → j ≡ p → eq q (get_or ks j d) ≡ eq k q
  is_k q j d here = ap (λ i. eq q (get_or ks i d)) here ∙ ap (eq q) (sym (is ∙ get_or_default ks p k d within)) ∙ o.symm q k

  -- a key that is another than k has another place than it
  apart : (j : ℕ) (d : K) → j < length ks → j ≢ p → eq k (get_or ks j d) ≡ false
  apart j d h differ = by (eq k (get_or ks j d)) refl
    where
      by : (b : Bool) → eq k (get_or ks j d) ≡ b → eq k (get_or ks j d) ≡ false
      by false e = e
      by true e = absurd (differ (ap (λ r. unwrap_or r j) (sym (own_place o ks k j d distinct h e) ∙ own_place o ks k p k distinct within (ap (eq k) (sym is) ∙ o.refl k))))

  -- k is no more there
  gone : (q : K) → eq k q ≡ true → position (eq q) ls ≡ None
  gone q e =
      position_none (eq q) ls
      (λ j d h. sym (o.congr k q (get_or ls j d) e) ∙ elim (eqb_tells j p) [
        | inr differ ↦ ap (eq k) (kept j d differ.1 (omega (arith, h, short))) ∙ apart j d (omega (arith, h, short, all)) differ.1
        | inl here ↦
            let more : p < n - 1 = omega (arith, here.1, h, short) in
            ap (λ i. eq k (get_or ls i d)) here.1 ∙ ap (eq k) (moved d more) ∙ apart (n - 1) d (omega (arith, within, all)) (λ s. absurd (omega (arith, s, more)))
      ])

  -- a key that is neither k nor the last keeps its place
  other : (q : K) → eq k q ≡ false → ((d : K) → p < n - 1 → eq q (get_or ks (n - 1) d) ≡ false) → position (eq q) ks ≡ position (eq q) ls
  other q not_k not_last = by (position (eq q) ls) refl
    where
      by : (r : Option ℕ) → position (eq q) ls ≡ r → position (eq q) ks ≡ r
      by (Some j) found =
          let at = At-position (eq q) ls j found in
          let differ : j ≢ p = λ s.
          let more : p < n - 1 = omega (arith, s, at.within, short) in
          true≢false (sym (at.passes k) ∙ ap (λ i. eq q (get_or ls i k)) s ∙ ap (eq q) (moved k more) ∙ not_last k more) in
          own_place o ks q j k distinct (omega (arith, at.within, short, all)) (ap (eq q) (sym (kept j k differ (omega (arith, at.within, short)))) ∙ at.passes k)
      by None none =
          position_none (eq q) ks
          (λ j d h. elim (eqb_tells j p) [
            | inl here ↦ is_k q j d here.1 ∙ not_k
            | inr differ ↦
                elim (dec_lt j (n - 1)) [
                  | yes inner ↦ ap (eq q) (sym (kept j d differ.1 inner)) ∙ none_passes (eq q) ls none j d (omega (arith, inner, short))
                  | no outer ↦
                      let last : j ≡ n - 1 = omega (arith, outer, h, all) in
                      elim (dec_lt p (n - 1)) [
                        | yes more ↦ ap (λ i. eq q (get_or ks i d)) last ∙ not_last d more
                        | no end ↦ absurd (differ.1 (omega (arith, last, end, within, all)))
                      ]
                ]
          ])

  whole : (q : K) → position (eq q) ls ≡ position (eq q) (take (n - 1) ls)
  whole q = ap (position (eq q)) (sym (take_all (n - 1) ls (omega (arith, short))))

  mid_or : (q : K) → ((d : K) → p < n - 1 → eq q (get_or ks (n - 1) d) ≡ false) → ordered.get cmp mid q ≡ position (eq q) ls
  mid_or q not_last = mid_at q ∙ by (eq k q) refl
    where
      by : (b : Bool) → eq k q ≡ b → cond (eq k q) None (position (eq q) ks) ≡ position (eq q) ls
      by true e = ap (λ b. cond b None (position (eq q) ks)) e ∙ sym (gone q e)
      by false e = ap (λ b. cond b None (position (eq q) ks)) e ∙ other q e not_last

  -- the last key itself is taken out
  pub placed_last : n - 1 ≤ p → ArePlaced cmp eq mid (n - 1) ls
  placed_last end = (omega (arith, short), λ q. mid_or q (λ d h. absurd (omega (arith, h, end))) ∙ whole q)

  -- the last key goes to another place
  module _ (l : K) (inside : p < n - 1) (at : l ≡ get_or ks (n - 1) l) where
    pub placed_moved : (new : BTreeMap K ℕ) → ((q : K) → ordered.get cmp new q ≡ cond (is_at (cmp l) q) (Some p) (ordered.get cmp mid q)) → ArePlaced cmp eq new (n - 1) ls
    placed_moved new updates = (omega (arith, short), λ q. updates q ∙ ap (λ b. cond b (Some p) (ordered.get cmp mid q)) (sym (matches l q)) ∙ by q (eq l q) refl ∙ whole q)
      where
        by : (q : K) (b : Bool) → eq l q ≡ b → cond (eq l q) (Some p) (ordered.get cmp mid q) ≡ position (eq q) ls
        by q true e =
            ap (λ b. cond b (Some p) (ordered.get cmp mid q)) e
            ∙ sym (own_place o ls q p l (distinct_removed o ks ks p any any refl within distinct) (omega (arith, inside, short)) (ap (eq q) (moved l inside ∙ sym at) ∙ o.symm q l ∙ e))
        by q false e =
            ap (λ b. cond b (Some p) (ordered.get cmp mid q)) e
            ∙ mid_or q (λ d h. ap (eq q) (get_or_default ks (n - 1) d l (omega (arith, within, all)) ∙ sym at) ∙ o.symm q l ∙ e)

    -- and is in the ordered map
    pub last_there : ordered.get cmp mid l ≡ None → ⊥
    last_there none =
        let differ : eq k l ≡ false = ap (eq k) at ∙ apart (n - 1) l (omega (arith, within, all)) (λ s. absurd (omega (arith, s, inside))) in
        let found : position (eq l) ks ≡ Some (n - 1) = own_place o ks l (n - 1) l distinct (omega (arith, within, all)) (ap (eq l) (sym at) ∙ o.refl l) in
        true≢false (sym (ap is_some (sym none ∙ mid_at l ∙ ap (λ b. cond b None (position (eq l) ks)) differ ∙ found)))

-- a key among the first ones has that place among all
pub placed_found : {K : Type 0} (t : K → Bool) (n : ℕ) (ks : List K) (i : ℕ) → position t (take n ks) ≡ Some i → position t ks ≡ Some i
placed_found t n ks i found = ap (position t) (sym (take-append-drop n ks)) ∙ position_longer t (take n ks) (drop n ks) i found

-- keys that differ, and one more that is another
pub distinct_push : {K : Type 0} {eq : K → K → Bool} → IsEquivalence eq → (ks : List K) (k : K) → IsDistinct eq ks → position (eq k) ks ≡ None → IsDistinct eq (ks ++ k ∷ [])
distinct_push {eq = eq} o ks k distinct absent =
    distinct_from_apart o (ks ++ k ∷ [])
    (λ i j d less within.
    let long = length-append ks (k ∷ []) in
    ap (λ x. eq x (get_or (ks ++ k ∷ []) j d)) (get_or_append_left ks (k ∷ []) d i (omega (arith, less, within, long)))
    ∙ elim (dec_lt j (length ks)) [
      | yes inner ↦ ap (eq (get_or ks i d)) (get_or_append_left ks (k ∷ []) d j inner) ∙ apart_from_distinct eq ks i j d distinct less inner
      | no last ↦
          ap (eq (get_or ks i d)) (get_or_push ks k d j (omega (arith, last, within, long)))
          ∙ o.symm (get_or ks i d) k ∙ none_passes (eq k) ks absent i d (omega (arith, less, within, long))
    ])

-- a result that cannot be refused
pub must_be_ok : {A E P : Type 0} (r : Result A E) → OnErr r P → (P → ⊥) → IsOk r
must_be_ok (Ok x) p not = refl
must_be_ok (Err x) p not = absurd (not p)

-- where no entry has the key, no key is at a place
pub none_found : {K V : Type 0} (t : K → Bool) (es : List (K × V)) → lookup t es ≡ None → position t (keys_of es) ≡ None
none_found t es none = by (position t (keys_of es)) (some_index t es ∙ ap is_some none)
  where
    by : (r : Option ℕ) → is_some r ≡ false → r ≡ None
    by None e = refl
    by (Some i) e = absurd (true≢false e)
