-- Bytes compare as the numbers that they spell, the first byte counting most; so names compare by words.
use Rattle.std.proofs.Common.{◌≡◌, ◌≢◌, ℕ, zero, suc, ◌+◌, ◌*◌, ◌^◌, ◌<◌, ◌≤◌, List, [], length, drop, Bool, true, false, ◌&&◌, ◌==◌, refl, ap, sym, ◌∙◌, arith, IsTrue, nat_eq, slice_index}
use Rattle.std.proofs.Math.{ListN.drop_of_length-le, Nat.{mul-le-mul_right, suc-mul, pow-suc}, Seq.drop-cons}
use Rattle.std.specs.{Cmp.{nat_cmp_is, ranks, tied_then, unsigned_tied}, declared.cmp.Ordering.Ordering}
use Rattle.std.specs.Cmp.Lexicographic.{pointwise, slice_cmp, texts_ties}
use Rattle.std.specs.declared.cmp.Ordering.TheVariants.{Less, Equal, Greater}
use Rattle.std.specs.Ordering.{MatchOrdering, nat_cmp, ordering_then, is_eq}
use Rattle.tq_store.specs.Names.{is_file_name, padded_name, word_at}
use Rattle.tq_store.proofs.Padded.{byte-padded, length-padded, padded_cmp}

-- ---- a number of two digits

first_digit : (x y u v p : ℕ) → x < y → u < p → x * p + u < y * p + v
first_digit x y u v p h l =
    let whole : suc x * p ≤ y * p = mul-le-mul_right p h in
    let more = suc-mul x p in
    omega (arith, whole, more, l)

moved : (k u v : ℕ) (o : Ordering) → MatchOrdering o (u < v) (u ≡ v) (v < u) → MatchOrdering o (k + u < k + v) (k + u ≡ k + v) (k + v < k + u)
moved k u v Less h = let l : u < v = h in omega (arith, l)
moved k u v Equal h = ap (λ w. k + w) h
moved k u v Greater h = let l : v < u = h in omega (arith, l)

second_digit : (k u v : ℕ) → nat_cmp (k + u) (k + v) ≡ nat_cmp u v
second_digit k u v = sym (nat_cmp_is (k + u) (k + v) (nat_cmp u v) (moved k u v (nat_cmp u v) (ranks u v)))

two_digits : (x y u v p : ℕ) → u < p → v < p → nat_cmp (x * p + u) (y * p + v) ≡ ordering_then (nat_cmp x y) (nat_cmp u v)
two_digits x y u v p small_u small_v = by (nat_cmp x y) (ranks x y)
  where
    by : (o : Ordering) → MatchOrdering o (x < y) (x ≡ y) (y < x) → nat_cmp (x * p + u) (y * p + v) ≡ ordering_then o (nat_cmp u v)
    by Less h = sym (nat_cmp_is (x * p + u) (y * p + v) Less (first_digit x y u v p h small_u))
    by Equal h = ap (λ w. nat_cmp (x * p + u) (w * p + v)) (sym h) ∙ second_digit (x * p) u v
    by Greater h = sym (nat_cmp_is (x * p + u) (y * p + v) Greater (first_digit y x v u p h small_v))

-- ---- a number of many digits

-- the number that n bytes from a place on spell
abbrev spelled : List ℕ → ℕ → ℕ → ℕ
spelled bytes at zero = 0
spelled bytes at (suc n) = slice_index bytes at * 256 ^ n + spelled bytes (suc at) n

abbrev Bytes : List ℕ → Type 0
Bytes bytes = (k : ℕ) → slice_index bytes k < 256

small : (bytes : List ℕ) (at n : ℕ) → Bytes bytes → spelled bytes at n < 256 ^ n
small bytes at zero h = omega arith
small bytes at (suc n) h =
    let rest = small bytes (suc at) n h in
    let below = first_digit (slice_index bytes at) 256 (spelled bytes (suc at) n) 0 (256 ^ n) (h at) rest in
    let power = pow-suc 256 n in
    omega (arith, below, power)

then_then : (a b c : Ordering) → ordering_then a (ordering_then b c) ≡ ordering_then (ordering_then a b) c
then_then Less b c = refl
then_then Equal b c = refl
then_then Greater b c = refl

then_Equal : (a : Ordering) → ordering_then a Equal ≡ a
then_Equal Less = refl
then_Equal Equal = refl
then_Equal Greater = refl

spelled_cmp : (n at : ℕ) (p q : List ℕ) → Bytes p → Bytes q → at + n ≤ length p → at + n ≤ length q → slice_cmp nat_cmp (drop at p) (drop at q) ≡ ordering_then (nat_cmp (spelled p at n) (spelled q at n)) (slice_cmp nat_cmp (drop (at + n) p) (drop (at + n) q))
spelled_cmp zero at p q hp hq lp lq =
    let e : at ≡ at + 0 = omega arith in
    ap (λ k. slice_cmp nat_cmp (drop k p) (drop k q)) e
spelled_cmp (suc n) at p q hp hq lp lq =
    let x = slice_index p at in
    let y = slice_index q at in
    let u = spelled p (suc at) n in
    let v = spelled q (suc at) n in
    let e : suc at + n ≡ at + suc n = omega arith in
    let in_p : at < length p = omega (arith, lp) in
    let in_q : at < length q = omega (arith, lq) in
    let rest_p : suc at + n ≤ length p = omega (arith, lp) in
    let rest_q : suc at + n ≤ length q = omega (arith, lq) in
    (λ i. slice_cmp nat_cmp (drop-cons p at 0 in_p i) (drop-cons q at 0 in_q i))
    ∙ ap (ordering_then (nat_cmp x y)) (spelled_cmp n (suc at) p q hp hq rest_p rest_q)
    ∙ then_then (nat_cmp x y) (nat_cmp u v) (slice_cmp nat_cmp (drop (suc at + n) p) (drop (suc at + n) q))
    ∙ ap (λ k. ordering_then (ordering_then (nat_cmp x y) (nat_cmp u v)) (slice_cmp nat_cmp (drop k p) (drop k q))) e
    ∙ ap (λ o. ordering_then o (slice_cmp nat_cmp (drop (at + suc n) p) (drop (at + suc n) q))) (sym (two_digits x y u v (256 ^ n) (small p (suc at) n hp) (small q (suc at) n hq)))

-- ---- words

-- a word is spelled by eight bytes from its place on
abbrev IsSpelled : ℕ → Type 0
IsSpelled at = (bytes : List ℕ) → spelled bytes at 8 ≡ word_at bytes at

-- a word first, and then what follows it
word_first : (at : ℕ) (p q : List ℕ) → IsSpelled at → Bytes p → Bytes q → at + 8 ≤ length p → at + 8 ≤ length q → slice_cmp nat_cmp (drop at p) (drop at q) ≡ ordering_then (nat_cmp (word_at p at) (word_at q at)) (slice_cmp nat_cmp (drop (at + 8) p) (drop (at + 8) q))
word_first at p q word hp hq lp lq =
    spelled_cmp 8 at p q hp hq lp lq
    ∙ (λ i. ordering_then (nat_cmp (word p i) (word q i)) (slice_cmp nat_cmp (drop (at + 8) p) (drop (at + 8) q)))

-- how the words at a place compare
abbrev pub words : List ℕ → List ℕ → ℕ → Ordering
words a b at = nat_cmp (word_at (padded_name a) at) (word_at (padded_name b) at)

nothing_past : (bytes : List ℕ) → length bytes ≡ 32 → drop 32 bytes ≡ []
nothing_past bytes long =
    let short : length bytes ≤ 32 = omega (arith, long) in
    drop_of_length-le bytes short

pub cmp_words : (a b : List ℕ) → IsTrue (is_file_name a) → IsTrue (is_file_name b) → ordering_then (words a b 0) (ordering_then (words a b 8) (ordering_then (words a b 16) (words a b 24))) ≡ slice_cmp nat_cmp a b
cmp_words a b ha hb =
    let p = padded_name a in
    let q = padded_name b in
    let long_p = length-padded a ha in
    let long_q = length-padded b hb in
    let step = λ (at : ℕ) (word : IsSpelled at) (l : at + 8 ≤ 32). word_first at p q word (byte-padded a ha) (byte-padded b hb) (omega (arith, l, long_p)) (omega (arith, l, long_q)) in
    let end : slice_cmp nat_cmp (drop 32 p) (drop 32 q) ≡ Equal = λ i. slice_cmp nat_cmp (nothing_past p long_p i) (nothing_past q long_q i) in
    sym (sym (padded_cmp a b ha hb)
    ∙ step 0 (λ bytes. omega arith) (omega arith)
    ∙ ap (ordering_then (words a b 0)) (step 8 (λ bytes. omega arith) (omega arith)
    ∙ ap (ordering_then (words a b 8)) (step 16 (λ bytes. omega arith) (omega arith)
    ∙ ap (ordering_then (words a b 16)) (step 24 (λ bytes. omega arith) (omega arith)
    ∙ ap (ordering_then (words a b 24)) end ∙ then_Equal (words a b 24)))))

-- whether the words at a place are the same
abbrev pub same_words : List ℕ → List ℕ → ℕ → Bool
same_words a b at = word_at (padded_name a) at == word_at (padded_name b) at

turned : (a b c d : Bool) → (((a && b) && c) && d) ≡ (a && (b && (c && d)))
turned true true c d = refl
turned true false c d = refl
turned false b c d = refl

pub eq_words : (a b : List ℕ) → IsTrue (is_file_name a) → IsTrue (is_file_name b) → (((same_words a b 0 && same_words a b 8) && same_words a b 16) && same_words a b 24) ≡ pointwise nat_eq a b
eq_words a b ha hb =
    let tied = λ (at : ℕ). unsigned_tied (word_at (padded_name a) at) (word_at (padded_name b) at) in
    let third = sym (tied_then (words a b 16) (words a b 24)) ∙ (λ i. tied 16 i && tied 24 i) in
    let second = sym (tied_then (words a b 8) (ordering_then (words a b 16) (words a b 24))) ∙ (λ i. tied 8 i && third i) in
    let first = sym (tied_then (words a b 0) (ordering_then (words a b 8) (ordering_then (words a b 16) (words a b 24)))) ∙ (λ i. tied 0 i && second i) in
    turned (same_words a b 0) (same_words a b 8) (same_words a b 16) (same_words a b 24) ∙ sym (texts_ties a b ∙ ap is_eq (sym (cmp_words a b ha hb)) ∙ first)

-- ---- words that differ decide, and others leave it to those after them

-- the words of two names at a place
abbrev pub Same : List ℕ → List ℕ → ℕ → Type 0
Same a b at = word_at (padded_name a) at ≡ word_at (padded_name b) at

pub same : (x y u v : ℕ) → x ≡ u → y ≡ v → x ≡ y → u ≡ v
same x y u v p q e = sym p ∙ e ∙ q

pub other : (x y u v : ℕ) → x ≡ u → y ≡ v → (x ≢ y) → u ≢ v
other x y u v p q n e = n (p ∙ e ∙ sym q)

module _ (a b : List ℕ) (ha : IsTrue (is_file_name a)) (hb : IsTrue (is_file_name b)) where
  leave : (at : ℕ) (rest : Ordering) → Same a b at → rest ≡ ordering_then (words a b at) rest
  leave at rest e = ap (λ o. ordering_then o rest) (nat_cmp_is _ _ Equal e)

  decide : (at : ℕ) (rest : Ordering) → (Same a b at → ⊥) → words a b at ≡ ordering_then (words a b at) rest
  decide at rest n = by (words a b at) (ranks (word_at (padded_name a) at) (word_at (padded_name b) at))
    where
      by : (o : Ordering) → MatchOrdering o (word_at (padded_name a) at < word_at (padded_name b) at) (Same a b at) (word_at (padded_name b) at < word_at (padded_name a) at) → o ≡ ordering_then o rest
      by Less h = refl
      by Equal h = absurd (n h)
      by Greater h = refl

  pub first_word : (Same a b 0 → ⊥) → words a b 0 ≡ slice_cmp nat_cmp a b
  first_word n = decide 0 _ n ∙ cmp_words a b ha hb

  pub second_word : Same a b 0 → (Same a b 8 → ⊥) → words a b 8 ≡ slice_cmp nat_cmp a b
  second_word e n = decide 8 _ n ∙ leave 0 _ e ∙ cmp_words a b ha hb

  pub third_word : Same a b 0 → Same a b 8 → (Same a b 16 → ⊥) → words a b 16 ≡ slice_cmp nat_cmp a b
  third_word e f n = decide 16 _ n ∙ leave 8 _ f ∙ leave 0 _ e ∙ cmp_words a b ha hb

  pub fourth_word : Same a b 0 → Same a b 8 → Same a b 16 → words a b 24 ≡ slice_cmp nat_cmp a b
  fourth_word e f g = leave 16 _ g ∙ leave 8 _ f ∙ leave 0 _ e ∙ cmp_words a b ha hb
