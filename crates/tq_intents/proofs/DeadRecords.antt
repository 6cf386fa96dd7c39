-- A number above all in a list of records. Intents and locks of a number that no vote has, behind a list of stable
-- records: they stand for nothing. What a loop over the records gathers, from record to record.
use Rattle.std.proofs.Common.{◌<◌, ◌≤◌, ◌+◌, ℕ, List, [], ◌∷◌, ◌++◌, map, arith, ◌≡◌, Bool, true, false, cond, Option, Some, None, refl, sym, ap, subst, ◌∙◌, inl, inr, length, get_or, take, drop}
use Rattle.std.proofs.lemmas.{Bool.{cond-false, false≢true, and_right, eqb-true, ne_eqb}, List.{take_more, append-nil}}
use Rattle.std.proofs.{lemmas.List.Elements.filter_map-append, Math.Seq.drop-cons}
use Rattle.std.specs.{Prelude.{◌==◌, ◌&&◌, ◌||◌}, List.{list_any, filter_map, cons_option}, BTreeMap.is_at, FinMap.find}
use Rattle.std.specs.{Map.lookup, Ordering.nat_cmp}
use Rattle.tq_store.specs.declared.write.Write.{Write}
use Rattle.tq_intents.specs.Kept.{IsAbove, IsBelow, vote_records, Votes, IsUnfinished, is_dead, AreDead, ends_vote, write_of, lock_of, vote_of, opened_vote, open_votes, kept_votes, kept_copies, IsIndex}
use Rattle.tq_intents.specs.declared.record.{KeptLock.KeptLock, Record.Record, OpenVote.OpenVote}
use Rattle.tq_intents.specs.declared.record.Record.TheVariants.{Copy, Intent, Keep, Prepared, Gone}
use Rattle.tq_intents.proofs.{CopiesPush.AreOneEach, Votes.swap_test}
use Rattle.std.specs.FinMap as fin
use Rattle.tq_shape.specs.Journal.{Has}
use Prim.Native.Nat.{suc}

pub above_append : (n : ℕ) (xs ys : List Record) → IsAbove n xs → IsAbove n ys → IsAbove n (xs ++ ys)
above_append n [] ys h k = k
above_append n (x ∷ xs) ys h k = (h.0, above_append n xs ys h.1 k)

below_greater : (m n : ℕ) (r : Record) → m ≤ n → IsBelow m r → IsBelow n r
below_greater m n (Copy write) e h = tt
below_greater m n (Intent t k write) e h = omega (arith, e, h)
below_greater m n (Keep t k lock) e h = omega (arith, e, h)
below_greater m n (Prepared t k) e h = omega (arith, e, h)
below_greater m n (Gone t k) e h = omega (arith, e, h)

pub above_greater : (m n : ℕ) (list : List Record) → m ≤ n → IsAbove m list → IsAbove n list
above_greater m n [] e h = tt
above_greater m n (r ∷ rest) e h = (below_greater m n r e h.0, above_greater m n rest e h.1)

above_map : {X : Type 0} (n : ℕ) (f : X → Record) (xs : List X) → ((x : X) → IsBelow n (f x)) → IsAbove n (map f xs)
above_map n f [] h = tt
above_map n f (x ∷ xs) h = (h x, above_map n f xs h)

pub above_copies : (n : ℕ) (writes : List Write) → IsAbove n (map Copy writes)
above_copies n writes = above_map n Copy writes (λ write. tt)

pub above_vote : (t n : ℕ) (writes : List Write) (locks : List KeptLock) → IsAbove (n + 1) (vote_records t n writes locks)
above_vote t n writes locks =
    let less : n < n + 1 = omega arith in
    above_append (n + 1) (map (Intent t n) writes) (map (Keep t n) locks ++ Prepared t n ∷ []) (above_map (n + 1) (Intent t n) writes (λ x. less))
    (above_append (n + 1) (map (Keep t n) locks) (Prepared t n ∷ []) (above_map (n + 1) (Keep t n) locks (λ x. less)) (less, tt))

-- ---- dead records

-- records that a list of options passes over
none-behind : {X Y : Type 0} (h : X → Option Y) (xs ys : List X) → ((y : X) → Has ys y → h y ≡ None) → filter_map h (xs ++ ys) ≡ filter_map h xs
none-behind h [] [] n = refl
none-behind h [] (y ∷ ys) n = ap (λ (o : Option _). cons_option o (filter_map h ys)) (n y (inl refl)) ∙ none-behind h [] ys (λ z k. n z (inr k))
none-behind h (x ∷ xs) ys n = ap (cons_option (h x)) (none-behind h xs ys n)

any-behind : {X : Type 0} (p : X → Bool) (xs ys : List X) → ((y : X) → Has ys y → p y ≡ false) → list_any p (xs ++ ys) ≡ list_any p xs
any-behind p [] [] n = refl
any-behind p [] (y ∷ ys) n = ap (λ (b : Bool). b || list_any p ys) (n y (inl refl)) ∙ any-behind p [] ys (λ z k. n z (inr k))
any-behind p (x ∷ xs) ys n = ap (λ (b : Bool). p x || b) (any-behind p xs ys n)

mismatch : (t u m k n : ℕ) → (k == n) ≡ true → m < n → (t == u && m == k) ≡ false
mismatch t u m k n e less = let is = eqb-true k n e in and_right (t == u) (m == k) (ne_eqb m k (λ p. absurd (omega arith)))

dead-write : (n t m : ℕ) (r : Record) → is_dead n r ≡ true → m < n → write_of t m r ≡ None
dead-write n t m (Copy w) d less = absurd (false≢true d)
dead-write n t m (Intent u k w) d less = cond-false (t == u && m == k) (Some w) None (mismatch t u m k n d less)
dead-write n t m (Keep u k l) d less = refl
dead-write n t m (Prepared u k) d less = refl
dead-write n t m (Gone u k) d less = refl

dead-lock : (n t m : ℕ) (r : Record) → is_dead n r ≡ true → m < n → lock_of t m r ≡ None
dead-lock n t m (Copy w) d less = refl
dead-lock n t m (Intent u k w) d less = refl
dead-lock n t m (Keep u k l) d less = cond-false (t == u && m == k) (Some l) None (mismatch t u m k n d less)
dead-lock n t m (Prepared u k) d less = refl
dead-lock n t m (Gone u k) d less = refl

dead-end : (n t m : ℕ) (r : Record) → is_dead n r ≡ true → ends_vote t m r ≡ false
dead-end n t m (Copy w) d = refl
dead-end n t m (Intent u k w) d = refl
dead-end n t m (Keep u k l) d = refl
dead-end n t m (Prepared u k) d = refl
dead-end n t m (Gone u k) d = absurd (false≢true d)

dead-opened : (n : ℕ) (list : List Record) (r : Record) → is_dead n r ≡ true → opened_vote list r ≡ None
dead-opened n list (Copy w) d = refl
dead-opened n list (Intent u k w) d = refl
dead-opened n list (Keep u k l) d = refl
dead-opened n list (Prepared u k) d = absurd (false≢true d)
dead-opened n list (Gone u k) d = refl

pub dead_above : (n : ℕ) (dead : List Record) → AreDead n dead → IsAbove (n + 1) dead
dead_above n [] d = tt
dead_above n (Copy w ∷ dead) d = (tt, dead_above n dead (λ r k. d r (inr k)))
dead_above n (Intent t m w ∷ dead) d = let e = eqb-true m n (d (Intent t m w) (inl refl)) in (omega arith, dead_above n dead (λ r k. d r (inr k)))
dead_above n (Keep t m l ∷ dead) d = let e = eqb-true m n (d (Keep t m l) (inl refl)) in (omega arith, dead_above n dead (λ r k. d r (inr k)))
dead_above n (Prepared t m ∷ dead) d = absurd (false≢true (d (Prepared t m) (inl refl)))
dead_above n (Gone t m ∷ dead) d = absurd (false≢true (d (Gone t m) (inl refl)))

pub dead_copies : (n : ℕ) (dead : List Record) → AreDead n dead → kept_copies dead ≡ fin.empty
dead_copies n [] d = refl
dead_copies n (Copy w ∷ dead) d = absurd (false≢true (d (Copy w) (inl refl)))
dead_copies n (Intent t m w ∷ dead) d = dead_copies n dead (λ r k. d r (inr k))
dead_copies n (Keep t m l ∷ dead) d = dead_copies n dead (λ r k. d r (inr k))
dead_copies n (Prepared t m ∷ dead) d = dead_copies n dead (λ r k. d r (inr k))
dead_copies n (Gone t m ∷ dead) d = dead_copies n dead (λ r k. d r (inr k))

module _ (n : ℕ) (list dead : List Record) (d : AreDead n dead) where
  ended-dead : (t m : ℕ) → list_any (ends_vote t m) (list ++ dead) ≡ list_any (ends_vote t m) list
  ended-dead t m = any-behind (ends_vote t m) list dead (λ r k. dead-end n t m r (d r k))

  vote_of-dead : (t m : ℕ) → m < n → vote_of (list ++ dead) t m ≡ vote_of list t m
  vote_of-dead t m less =
      let a = none-behind (write_of t m) list dead (λ r k. dead-write n t m r (d r k) less) in
      let b = none-behind (lock_of t m) list dead (λ r k. dead-lock n t m r (d r k) less) in
      λ i. record { number = m; writes = a i; locks = b i }

  opened-all : (rest : List Record) → IsAbove n rest → filter_map (opened_vote (list ++ dead)) rest ≡ filter_map (opened_vote list) rest
  opened-all [] above = refl
  opened-all (Copy w ∷ rest) above = opened-all rest above.1
  opened-all (Intent t m w ∷ rest) above = opened-all rest above.1
  opened-all (Keep t m l ∷ rest) above = opened-all rest above.1
  opened-all (Gone t m ∷ rest) above = opened-all rest above.1
  opened-all (Prepared t m ∷ rest) above =
      let a = ended-dead t m in
      let b = vote_of-dead t m above.0 in
      let tail = opened-all rest above.1 in
      λ i. cons_option (cond {A = Option (ℕ × OpenVote)} (a i) None (Some (t, b i))) (tail i)

  pub open_votes-dead : IsAbove n list → open_votes (list ++ dead) ≡ open_votes list
  open_votes-dead above =
      none-behind (opened_vote (list ++ dead)) list dead (λ r k. dead-opened n (list ++ dead) r (d r k))
      ∙ opened-all list above

pub kept_votes-dead : (list dead : List Record) (n : ℕ) → IsAbove n list → AreDead n dead → kept_votes (list ++ dead) ≡ kept_votes list
kept_votes-dead list dead n above d = ap (λ (es : List (ℕ × OpenVote)). fin.from_entries es) (open_votes-dead n list dead d above)

pub IsIndex-dead : (old new dead : List Record) (entries : List (ℕ × OpenVote)) → IsUnfinished old dead → new ≡ old ++ dead → IsIndex old entries → IsIndex new entries
IsIndex-dead old new dead entries unfinished e h =
    record {
      one_each = subst AreOneEach (sym (ap open_votes e ∙ open_votes-dead unfinished.number old dead unfinished.dead unfinished.newest)) h.one_each;
      each = λ txn. h.each txn ∙ ap (λ (m : Votes). fin.get m txn) (sym (ap kept_votes e ∙ kept_votes-dead old dead unfinished.number unfinished.newest unfinished.dead));
    }

-- ---- gathered

module _ {X Y : Type 0} (f : X → Option Y) (xs : List X) (i : ℕ) (x : X) where
  gathered_more : i < length xs → get_or xs i x ≡ x → filter_map f (take (i + 1) xs) ≡ filter_map f (take i xs) ++ cons_option (f x) []
  gathered_more h e = ap (filter_map f) (take_more xs i x h ∙ ap (λ y. take i xs ++ y ∷ []) e) ∙ filter_map-append f (take i xs) (x ∷ [])

  pub gathered_none : i < length xs → x ≡ get_or xs i x → None ≡ f x → filter_map f (take i xs) ≡ filter_map f (take (i + 1) xs)
  gathered_none h e n = sym (gathered_more h (sym e) ∙ ap (λ o. filter_map f (take i xs) ++ cons_option o []) (sym n) ∙ append-nil (filter_map f (take i xs)))

  pub gathered_some : i < length xs → x ≡ get_or xs i x → (y : Y) → Some y ≡ f x → filter_map f (take i xs) ++ y ∷ [] ≡ filter_map f (take (i + 1) xs)
  gathered_some h e y s = sym (gathered_more h (sym e) ∙ ap (λ o. filter_map f (take i xs) ++ cons_option o []) (sym s))

-- the vote that a record opens
pub opened_ended : (list : List Record) (r : Record) (t n : ℕ) → r ≡ Prepared t n → list_any (ends_vote t n) list ≡ true → None ≡ opened_vote list r
opened_ended list r t n e h = sym (ap (opened_vote list) e ∙ ap (λ b. cond {A = Option (ℕ × OpenVote)} b None (Some (t, vote_of list t n))) h)

pub opened_open : (list : List Record) (r : Record) (t n : ℕ) (writes : List Write) (locks : List KeptLock) → r ≡ Prepared t n → list_any (ends_vote t n) list ≡ false → writes ≡ filter_map (write_of t n) list → locks ≡ filter_map (lock_of t n) list → Some (t, record { number = n; writes = writes; locks = locks }) ≡ opened_vote list r
opened_open list r t n writes locks e h f g =
    (λ i. Some (t, record { number = n; writes = f i; locks = g i }))
    ∙ sym (ap (opened_vote list) e ∙ ap (λ b. cond {A = Option (ℕ × OpenVote)} b None (Some (t, vote_of list t n))) h)

next : (k : ℕ) → suc k ≡ k + 1
next k = omega arith

-- the index, from the last record backwards
module _ (list : List Record) (k : ℕ) (r : Record) where
  one_more : k < length list → r ≡ get_or list k r → filter_map (opened_vote list) (drop k list) ≡ cons_option (opened_vote list r) (filter_map (opened_vote list) (drop (k + 1) list))
  one_more h e = ap (filter_map (opened_vote list)) (drop-cons list k r h ∙ ap (λ m. get_or list k r ∷ drop m list) (next k) ∙ ap (λ y. y ∷ drop (k + 1) list) (sym e))

  pub index_some : (entries after : List (ℕ × OpenVote)) (t : ℕ) (v : OpenVote) → k < length list → r ≡ get_or list k r → Some (t, v) ≡ opened_vote list r
      → ((q : ℕ) → lookup (is_at (nat_cmp q)) after ≡ cond (is_at (nat_cmp t) q) (Some v) (lookup (is_at (nat_cmp q)) entries))
      → ((q : ℕ) → lookup (is_at (nat_cmp q)) entries ≡ find nat_cmp q (filter_map (opened_vote list) (drop (k + 1) list)))
      → (q : ℕ) → lookup (is_at (nat_cmp q)) after ≡ find nat_cmp q (filter_map (opened_vote list) (drop k list))
  index_some entries after t v h e s updates before q =
      updates q ∙ (λ i. cond (swap_test t q i) (Some v) (before q i))
      ∙ ap (find nat_cmp q) (sym (one_more h e ∙ ap (λ o. cons_option o (filter_map (opened_vote list) (drop (k + 1) list))) (sym s)))
