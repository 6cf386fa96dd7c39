-- What a part's step is made of: the first reason that an ask is refused for, and a state that refusals leave as it
-- was. What holds of an ask that is not refused. Journals of a part, generic in the part's step: what it replies to an
-- ask under a number, and what it is afterwards.
use Rattle.std.specs.Prelude.{Bool, Option, Some, None, if◌then◌else◌, ◌==◌, ℕ, ◌+◌, suc, cond, List, [], ◌∷◌, length, ◌⊎◌}
use Rattle.std.proofs.Common.{◌≡◌, true, false, refl}
use Rattle.tq_shape.specs.declared.part.Entry.{Entry}

-- refused for the reason where the test holds
abbrev pub refuse : {R : Type 0} → Bool → R → Option R → Option R
refuse test reason next = if test then Some reason else next

-- refused where there is something, and for that
abbrev pub refuse_for : {A R : Type 0} → Option A → (A → R) → Option R → Option R
refuse_for None reason next = next
refuse_for (Some x) reason next = Some (reason x)

-- a refusal leaves the state as it was
abbrev pub state_at : {R S : Type 0} → Option R → S → S → S
state_at None old new = new
state_at (Some reason) old new = old

-- the first of the two, and where there is none the second
abbrev pub or_else : {A : Type 0} → Option A → Option A → Option A
or_else None second = second
or_else (Some x) second = Some x

-- ---- unrefused

-- where no reason is found, the test does not hold, and no later one is found
pub refuse-none : {R : Type 0} (b : Bool) (r : R) (next : Option R) → refuse b r next ≡ None → (b ≡ false) × (next ≡ None)
refuse-none true r next h = absurd cc
refuse-none false r next h = (refl, h)

-- where no reason is found, there is nothing to refuse for, and no later one is found
pub refuse_for-none : {A R : Type 0} (o : Option A) (r : A → R) (next : Option R) → refuse_for o r next ≡ None → (o ≡ None) × (next ≡ None)
refuse_for-none None r next h = (refl, h)
refuse_for-none (Some x) r next h = absurd cc

-- ---- journal

-- the entry of an ask and its reply
abbrev pub entry : {A R : Type 0} → A → R → Entry A R
entry ask reply = record { ask = ask; reply = reply }

-- ---- a journal as it is kept, the oldest entry first

-- the part after these entries, of which the first has the number n
abbrev pub state_from : {S A R : Type 0} → (S → ℕ → A → S) → S → ℕ → List (Entry A R) → S
state_from after s n [] = s
state_from after s n (e ∷ es) = state_from after (after s n e.ask) (n + 1) es

module _ {S A R : Type 0} (reply : S → ℕ → A → R) (after : S → ℕ → A → S) where
  -- each reply is the one that the part gives there
  abbrev pub IsLegalFrom : S → ℕ → List (Entry A R) → Type 0
  IsLegalFrom s n [] = Unit {0}
  IsLegalFrom s n (e ∷ es) = (e.reply ≡ reply s n e.ask) × IsLegalFrom (after s n e.ask) (n + 1) es

-- ---- the same, the newest entry first, as laws about 'the entries before' read it

-- the part after these entries
abbrev pub state_after : {S A R : Type 0} → (S → ℕ → A → S) → S → List (Entry A R) → S
state_after after s [] = s
state_after after s (e ∷ earlier) = after (state_after after s earlier) (suc (length earlier)) e.ask

-- each reply is the one that the part gives after the entries before it
abbrev pub IsLegal : {S A R : Type 0} → (S → ℕ → A → R) → (S → ℕ → A → S) → S → List (Entry A R) → Type 0
IsLegal reply after s [] = Unit {0}
IsLegal reply after s (e ∷ earlier) =
    (e.reply ≡ reply (state_after after s earlier) (suc (length earlier)) e.ask) × IsLegal reply after s earlier

-- the entry of a number: its place from the oldest, from 1
abbrev pub entry_at : {E : Type 0} → List E → ℕ → Option E
entry_at [] number = None
entry_at (e ∷ earlier) number = cond (number == suc (length earlier)) (Some e) (entry_at earlier number)

-- the list has the value
abbrev pub Has : {A : Type 0} → List A → A → Type 0
Has [] x = ⊥
Has (y ∷ ys) x = (y ≡ x) ⊎ Has ys x

-- the list has no value
abbrev pub is_empty : {A : Type 0} → List A → Bool
is_empty [] = true
is_empty (x ∷ xs) = false
