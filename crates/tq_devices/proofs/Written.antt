-- A source of known bytes gives its pieces one behind another. What devices gave and took, one call after another.
-- What devices gave and took, one call after another.
use Rattle.std.proofs.Common.{◌≡◌, ℕ, ◌+◌, ◌-◌, ◌≤◌, List, ◌++◌, length, drop, take, sym, ap, ◌∙◌, arith, [], Some, None, Option, subst, append_assoc}
use Rattle.std.proofs.lemmas.List.{take-append-drop, take_all, take_at, drop-drop, length-drop, length-take-le, append-nil}
use Rattle.std.{proofs.Math.Seq.take-add, specs.Io.KnownBytes.{Appends, Keeps}}

pub given_more : (bytes buffer rest copied : List ℕ) (place count : ℕ) → rest ≡ drop place bytes → copied ≡ take count rest → count ≤ length rest → take (place + count) bytes ≡ take place bytes ++ take count (copied ++ drop count buffer)
given_more bytes buffer rest copied place count is copy few =
    let size : length copied ≡ count = ap length copy ∙ length-take-le count rest few in
    let front : take count (copied ++ drop count buffer) ≡ copied = take_at copied (drop count buffer) count size in
    take-add place count bytes ∙ ap (λ more. take place bytes ++ more) (sym (front ∙ copy ∙ ap (take count) is))

-- the rest of a list, as a slice has it
pub rest_is : (bytes : List ℕ) (place : ℕ) → place ≤ length bytes → take (length bytes - place) (drop place bytes) ≡ drop place bytes
rest_is bytes place within = take_all (length bytes - place) (drop place bytes) (grind (arith, length-drop))

-- what is left of the bytes begins with the piece
pub left_less : (bytes buffer rest copied : List ℕ) (place count : ℕ) → rest ≡ drop place bytes → copied ≡ take count rest → count ≤ length rest → drop place bytes ≡ take count (copied ++ drop count buffer) ++ drop (place + count) bytes
left_less bytes buffer rest copied place count is copy few =
    let size : length copied ≡ count = ap length copy ∙ length-take-le count rest few in
    let front : take count (copied ++ drop count buffer) ≡ take count rest = take_at copied (drop count buffer) count size ∙ copy in
    let back : drop (place + count) bytes ≡ drop count rest = sym (ap (drop count) is ∙ drop-drop count place bytes) in
    sym (ap (λ list. list ++ drop (place + count) bytes) front ∙ ap (λ list. take count rest ++ list) back ∙ take-append-drop count rest ∙ is)

-- ---- written

pub Appends-none : (known : Option (List ℕ)) → Appends known known []
Appends-none None = tt
Appends-none (Some bytes) = sym (append-nil bytes)

pub Appends-then : (old mid new : Option (List ℕ)) (bytes more : List ℕ) → Appends old mid bytes → Appends mid new more → Appends old new (bytes ++ more)
Appends-then None mid new bytes more first then = tt
Appends-then (Some old) None new bytes more first then = absurd first
Appends-then (Some old) (Some mid) None bytes more first then = absurd then
Appends-then (Some old) (Some mid) (Some new) bytes more first then =
    then ∙ ap (λ start. start ++ more) first ∙ append_assoc old bytes more

-- a front of the bytes is written, and then a front of the rest
pub written_on : (bytes rest : List ℕ) (old mid new : Option (List ℕ)) (place count : ℕ) → rest ≡ drop place bytes → count ≤ length rest → Appends old mid (take place bytes) → Appends mid new (take count rest) → (next : ℕ) × (take (length rest - count) (drop count rest) ≡ drop next bytes) × Appends old new (take next bytes)
written_on bytes rest old mid new place count is within first then =
    let all : take (length rest - count) (drop count rest) ≡ drop count rest = take_all (length rest - count) (drop count rest) (grind (arith, length-drop)) in
    let taken : Appends mid new (take count (drop place bytes)) = let P : List ℕ → Type 0 = λ list. Appends mid new (take count list) in subst P is then in
    let both = Appends-then old mid new (take place bytes) (take count (drop place bytes)) first taken in
    let Q : List ℕ → Type 0 = λ list. Appends old new list in
    (place + count, all ∙ ap (drop count) is ∙ drop-drop count place bytes, subst Q (sym (take-add place count bytes)) both)

-- a call that moved no byte adds nothing
pub Appends-kept : (old mid new : Option (List ℕ)) (bytes : List ℕ) → Appends old mid bytes → Keeps mid new → Appends old new bytes
Appends-kept None mid new bytes first kept = tt
Appends-kept (Some old) None new bytes first kept = absurd first
Appends-kept (Some old) (Some mid) None bytes first kept = absurd kept
Appends-kept (Some old) (Some mid) (Some new) bytes first kept = kept ∙ first
