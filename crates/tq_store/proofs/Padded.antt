-- A name filled up with zeros: the name that it holds, and how such names compare. The bytes of a name are ASCII, so
-- that a name is text. Names that the test finds the same are the same.
use Rattle.std.proofs.Common.{◌≡◌, ℕ, zero, suc, ◌+◌, ◌-◌, ◌<◌, ◌≤◌, List, [], ◌∷◌, ◌++◌, length, take, replicate, Bool, true, cond, ◌&&◌, ◌==◌, refl, ap, sym, ◌∙◌, arith, IsTrue, nat_le, slice_index, length-append}
use Rattle.std.proofs.{lemmas.{List.length-replicate, Bool.Decides.nat_tests}, Math.Seq.take-append_seam}
use Rattle.std.{proofs.lemmas.Str.{Ascii.{IsAscii-cons, IsAscii-nil}, IsUtf8-from_ascii}, specs.Str.{IsAscii, IsUtf8}}
use Rattle.std.specs.{Prelude.{not, Result, Ok, Err, IsOk, MatchResult}, Cmp.{nat_cmp_is, nat_eq_equiv}}
use Rattle.std.specs.{declared.cmp.Ordering.TheVariants.{Less, Equal, Greater}, List.{list_all, position_or_len}}
use Rattle.std.specs.{Cmp.Lexicographic.{slice_cmp, lists_equiv, same_text}, Ordering.{nat_cmp, ordering_then}}
use Rattle.tq_store.specs.Names.{is_file_name, is_name_byte, name_in, padded_name, starts_with_letter, same_name}

pub both : (a b : Bool) → (a && b) ≡ true → (a ≡ true) × (b ≡ true)
both a b h = grind (arith, nat_tests, h)

-- a byte of a name is no zero, and small
pub byte_of_name : (c : ℕ) → is_name_byte c ≡ true → (0 < c) × (c < 128)
byte_of_name c h = grind (arith, nat_tests, h)

pub bytes_of_name : (name : List ℕ) → IsTrue (is_file_name name) → list_all is_name_byte name ≡ true
bytes_of_name name h = (both (starts_with_letter name) (list_all is_name_byte name) (both (starts_with_letter name && list_all is_name_byte name) (nat_le (length name) 32) h).0).1

pub fits_name : (name : List ℕ) → IsTrue (is_file_name name) → length name ≤ 32
fits_name name h = small (length name) (both (starts_with_letter name && list_all is_name_byte name) (nat_le (length name) 32) h).1
  where
    small : (n : ℕ) → nat_le n 32 ≡ true → n ≤ 32
    small n h = grind (arith, nat_tests, h)

-- ---- the name in it

one_more : (n : ℕ) → 1 + n ≡ suc n
one_more n = omega arith

after_byte : (c k : ℕ) → 0 < c → cond (not (c == 0)) (1 + k) 0 ≡ 1 + k
after_byte c k h = grind (arith, nat_tests, h)

first_zero : (name : List ℕ) (n : ℕ) → list_all is_name_byte name ≡ true → position_or_len (λ (c : ℕ). c == 0) (name ++ replicate n 0) ≡ length name
first_zero [] zero h = refl
first_zero [] (suc n) h = refl
first_zero (c ∷ rest) n h =
    let parts = both (is_name_byte c) (list_all is_name_byte rest) h in
    after_byte c (position_or_len (λ (x : ℕ). x == 0) (rest ++ replicate n 0)) (byte_of_name c parts.0).0
    ∙ ap (λ k. 1 + k) (first_zero rest n parts.1)
    ∙ one_more (length rest)

pub name_in-padded : (name : List ℕ) → IsTrue (is_file_name name) → name_in (padded_name name) ≡ name
unfolding name_in
name_in-padded name h =
    ap (λ n. take n (padded_name name)) (first_zero name (32 - length name) (bytes_of_name name h))
    ∙ take-append_seam name (replicate (32 - length name) 0)

-- ---- its bytes

pub length-padded : (name : List ℕ) → IsTrue (is_file_name name) → length (padded_name name) ≡ 32
length-padded name h =
    let fits = fits_name name h in
    length-append name (replicate (32 - length name) 0) ∙ ap (λ n. length name + n) (length-replicate (32 - length name) 0) ∙ omega (arith, fits)

small_zeros : (n k : ℕ) → slice_index (replicate n 0) k < 256
small_zeros zero k = omega arith
small_zeros (suc n) zero = omega arith
small_zeros (suc n) (suc k) = small_zeros n k

small_bytes : (name : List ℕ) (n k : ℕ) → list_all is_name_byte name ≡ true → slice_index (name ++ replicate n 0) k < 256
small_bytes [] n k h = small_zeros n k
small_bytes (c ∷ rest) n zero h = omega (arith, (byte_of_name c (both (is_name_byte c) (list_all is_name_byte rest) h).0).1)
small_bytes (c ∷ rest) n (suc k) h = small_bytes rest n k (both (is_name_byte c) (list_all is_name_byte rest) h).1

pub byte-padded : (name : List ℕ) → IsTrue (is_file_name name) → (k : ℕ) → slice_index (padded_name name) k < 256
byte-padded name h k = small_bytes name (32 - length name) k (bytes_of_name name h)

-- ---- order: a zero stands before each byte of a name

zeros_alike : (m n : ℕ) → m ≡ n → slice_cmp nat_cmp (replicate m 0) (replicate n 0) ≡ Equal
zeros_alike zero zero e = refl
zeros_alike zero (suc n) e = absurd (omega (arith, e))
zeros_alike (suc m) zero e = absurd (omega (arith, e))
zeros_alike (suc m) (suc n) e = zeros_alike m n (omega (arith, e))

filled_cmp : (a b : List ℕ) (m n : ℕ) → list_all is_name_byte a ≡ true → list_all is_name_byte b ≡ true → length a + m ≡ length b + n → slice_cmp nat_cmp (a ++ replicate m 0) (b ++ replicate n 0) ≡ slice_cmp nat_cmp a b
filled_cmp [] [] m n ha hb e = zeros_alike m n (omega (arith, e))
filled_cmp [] (y ∷ ys) zero n ha hb e = absurd (omega (arith, e))
filled_cmp [] (y ∷ ys) (suc m) n ha hb e =
    let positive = (byte_of_name y (both (is_name_byte y) (list_all is_name_byte ys) hb).0).0 in
    ap (λ o. ordering_then o (slice_cmp nat_cmp (replicate m 0) (ys ++ replicate n 0))) (sym (nat_cmp_is 0 y Less positive))
filled_cmp (x ∷ xs) [] m zero ha hb e = absurd (omega (arith, e))
filled_cmp (x ∷ xs) [] m (suc n) ha hb e =
    let positive = (byte_of_name x (both (is_name_byte x) (list_all is_name_byte xs) ha).0).0 in
    ap (λ o. ordering_then o (slice_cmp nat_cmp (xs ++ replicate m 0) (replicate n 0))) (sym (nat_cmp_is x 0 Greater positive))
filled_cmp (x ∷ xs) (y ∷ ys) m n ha hb e =
    let in_a = (both (is_name_byte x) (list_all is_name_byte xs) ha).1 in
    let in_b = (both (is_name_byte y) (list_all is_name_byte ys) hb).1 in
    ap (ordering_then (nat_cmp x y)) (filled_cmp xs ys m n in_a in_b (omega (arith, e)))

pub padded_cmp : (a b : List ℕ) → IsTrue (is_file_name a) → IsTrue (is_file_name b) → slice_cmp nat_cmp (padded_name a) (padded_name b) ≡ slice_cmp nat_cmp a b
padded_cmp a b ha hb =
    let fits_a = fits_name a ha in
    let fits_b = fits_name b hb in
    filled_cmp a b (32 - length a) (32 - length b) (bytes_of_name a ha) (bytes_of_name b hb) (omega (arith, fits_a, fits_b))

-- ---- ascii

ascii_bytes : (name : List ℕ) → list_all is_name_byte name ≡ true → IsAscii name
ascii_bytes [] h = IsAscii-nil
ascii_bytes (c ∷ rest) h =
    let parts = both (is_name_byte c) (list_all is_name_byte rest) h in
    IsAscii-cons c rest (byte_of_name c parts.0).1 (ascii_bytes rest parts.1)

pub IsUtf8-name : (name : List ℕ) → IsTrue (is_file_name name) → IsUtf8 name
IsUtf8-name name h = IsUtf8-from_ascii name (ascii_bytes name (bytes_of_name name h))

-- a call that fails only where a fact doesn't hold
pub succeeds : {T E : Type 0} (r : Result T E) (P : T → Type 0) (U : Type 0) (Q : E → Type 0) → MatchResult r P (λ e. (U → ⊥) × Q e) → U → IsOk r
succeeds (Ok x) P U Q h u = refl
succeeds (Err e) P U Q h u = absurd (h.0 u)

-- ---- same name

pub same_name-is : (a b : List ℕ) → same_name a b ≡ true → a ≡ b
same_name-is a b h = same_text a b (sym h)

pub same_name-refl : (a : List ℕ) → same_name a a ≡ true
same_name-refl a = (lists_equiv nat_eq_equiv).refl a

pub same_name-sym : (a b : List ℕ) → same_name a b ≡ same_name b a
same_name-sym a b = (lists_equiv nat_eq_equiv).symm a b
