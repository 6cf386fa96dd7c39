-- The table of pairs has the two digits of each byte. Digits of bytes behind a text, a part after a part.
use Rattle.std.proofs.Common.{◌≡◌, ℕ, zero, suc, ◌+◌, ◌-◌, ◌*◌, ◌/◌, ◌%◌, ◌<◌, Bool, true, ◌&&◌, T, eqb, slice_index, inl, inr, arith, eq-zero-or-pos, eqb→eq, List, [], ◌∷◌, ◌++◌, refl, ap, ◌∙◌, sym, append_assoc, append-nil}
use lib.Ieee.Fits.{and_l, and_r}
use Rattle.hex.specs.Hex.{lower_digits, encode_with, encode_lower}
use Rattle.tq_shape.specs.declared.hexadecimal.TheConstants.{PAIRS}

abbrev are_pairs : ℕ → Bool
are_pairs zero = true
are_pairs (suc b) = (eqb (slice_index PAIRS (2 * b)) (slice_index lower_digits (b / 16)) && eqb (slice_index PAIRS (2 * b + 1)) (slice_index lower_digits (b % 16))) && are_pairs b

below : (n b : ℕ) → T (are_pairs n) → b < n → (slice_index PAIRS (2 * b) ≡ slice_index lower_digits (b / 16)) × (slice_index PAIRS (2 * b + 1) ≡ slice_index lower_digits (b % 16))
below zero b t h = absurd (omega arith)
below (suc n) b t h =
    elim (eq-zero-or-pos (n - b)) [
      | inl z ↦ let e : b ≡ n = omega arith in let a = and_l _ (are_pairs n) t in rw e (eqb→eq _ _ (and_l _ _ a), eqb→eq _ _ (and_r _ _ a))
      | inr g ↦ below n b (and_r _ (are_pairs n) t) (omega arith)
    ]

pub pair_at : (b : ℕ) → b < 256 → (slice_index PAIRS (2 * b) ≡ slice_index lower_digits (b / 16)) × (slice_index PAIRS (2 * b + 1) ≡ slice_index lower_digits (b % 16))
pair_at b h = below 256 b tt h

-- ---- behind

digits-append : (t xs ys : List ℕ) → encode_with t (xs ++ ys) ≡ encode_with t xs ++ encode_with t ys
unfolding encode_with
digits-append t [] ys = refl
digits-append t (x ∷ xs) ys = ap (λ rest. slice_index t (x / 16) ∷ slice_index t (x % 16) ∷ rest) (digits-append t xs ys)

pub none-behind : (text : List ℕ) → text ≡ text ++ encode_lower []
unfolding encode_with
none-behind text = sym (append-nil text)

pub part-behind : (before front part text after : List ℕ) → text ≡ before ++ encode_lower front → after ≡ text ++ encode_lower part → after ≡ before ++ encode_lower (front ++ part)
part-behind before front part text after first then =
    then ∙ ap (λ all. all ++ encode_lower part) first ∙ append_assoc before (encode_lower front) (encode_lower part) ∙ ap (λ digits. before ++ digits) (sym (digits-append lower_digits front part))
