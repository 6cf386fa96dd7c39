-- The rule of the queue: what was put is what was taken, in order and each once, and then what it holds.
use Rattle.std.specs.Prelude.{◌≡◌, ℕ, ◌+◌, ◌-◌, Bool, true, List, [], ◌∷◌, ◌++◌}
use mathlib.Core.Option.{some}
use lib.ListN.{get_elem?}
use Rattle.tq_cluster.specs.declared.pass_knowledge.PassKnowledge.{PassKnowledge}

-- what a pass knows: its parts, whether it is the one that puts, what it put, and what it took
abbrev pub hand : {M : Type 0} → ℕ → Bool → List M → List (ℕ × M) → PassKnowledge M
hand parts puts put taken = record { parts = parts; puts = puts; put = put; taken = taken }

-- what the messages weigh, each at its place
abbrev pub weigh : {M : Type 0} → (ℕ → M → ℕ) → List (ℕ × M) → ℕ
weigh h [] = 0
weigh h (p ∷ ps) = h p.0 p.1 + weigh h ps

-- what a list weighs whose first message has the place n
abbrev pub weigh_from : {M : Type 0} → (ℕ → M → ℕ) → ℕ → List M → ℕ
weigh_from h n [] = 0
weigh_from h n (x ∷ xs) = h n x + weigh_from h (n + 1) xs

-- over all passes
abbrev pub total : {M : Type 0} → (PassKnowledge M → ℕ) → List (PassKnowledge M) → ℕ
total f [] = 0
total f (v ∷ vs) = f v + total f vs

-- all passes together have what was put, in order: what was taken, each once, and then what the queue holds
pub record IsInOrder {M : Type 0} (items : List M) (views : List (PassKnowledge M)) : Type 0 where
  -- the pass that puts, and what was taken so far, in order
  pub seat : ℕ
  pub taken : List M
  pub one_puts : (pass : ℕ) (v : PassKnowledge M) → get_elem? views pass ≡ some v → v.puts ≡ true → (pass ≡ seat) × (v.put ≡ taken ++ items)
  -- however messages are weighed at their places, the passes took what was taken
  pub each_once : (h : ℕ → M → ℕ) → total (λ v. weigh h v.taken) views ≡ weigh_from h 0 taken
  pub parts : total (λ v. v.parts) views ≡ 1024
  pub idle : (pass : ℕ) (v : PassKnowledge M) → get_elem? views pass ≡ some v → v.parts ≡ 0 → v.taken ≡ []

-- these messages, each with its place, are the first of those that were put, each once, and the queue holds the others
abbrev pub IsPrefixTaken : {M : Type 0} → List M → List (ℕ × M) → List M → Type 0
IsPrefixTaken {M} put taken items = (first : List M) × (put ≡ first ++ items) × ((h : ℕ → M → ℕ) → weigh h taken ≡ weigh_from h 0 first)

-- the same of what a pass knows that puts and has taken: the queue holds the others
abbrev pub HasPrefixTaken : {M : Type 0} → PassKnowledge M → Type 0
HasPrefixTaken {M} v = (items : List M) × IsPrefixTaken v.put v.taken items

-- ---- what a pass knows after a step

-- the pass that puts has put one message more
abbrev pub with_put : {M : Type 0} → PassKnowledge M → M → PassKnowledge M
with_put v message = hand v.parts true (v.put ++ message ∷ []) v.taken

-- one part is cut off
abbrev pub cut_off : {M : Type 0} → PassKnowledge M → PassKnowledge M
cut_off v = hand (v.parts - 1) v.puts v.put v.taken

-- the parts of another pass come to it, and what that one took
abbrev pub rejoined : {M : Type 0} → PassKnowledge M → PassKnowledge M → PassKnowledge M
rejoined v other = hand (v.parts + other.parts) v.puts v.put (v.taken ++ other.taken)

-- it has taken one message more, from some place, and all else is as it was
abbrev pub HasTaken : {M : Type 0} → PassKnowledge M → M → PassKnowledge M → Type 0
HasTaken old message new = (place : ℕ) × (new ≡ hand old.parts old.puts old.put (old.taken ++ (place, message) ∷ []))

-- it has put one message more
abbrev pub PutsMore : {M : Type 0} → PassKnowledge M → M → PassKnowledge M → Type 0
PutsMore old message new = new.put ≡ old.put ++ message ∷ []

-- it has taken one message more, from some place
abbrev pub TakesMore : {M : Type 0} → PassKnowledge M → M → PassKnowledge M → Type 0
TakesMore old message new = (place : ℕ) × (new.taken ≡ old.taken ++ (place, message) ∷ [])

-- it has as many parts as before, and took what it took
abbrev pub KeepsPartsAndTaken : {M : Type 0} → PassKnowledge M → PassKnowledge M → Type 0
KeepsPartsAndTaken old new = (new.parts ≡ old.parts) × (new.taken ≡ old.taken)

-- it put what it put, and took what it took
abbrev pub KeepsMessages : {M : Type 0} → PassKnowledge M → PassKnowledge M → Type 0
KeepsMessages old new = (new.put ≡ old.put) × (new.taken ≡ old.taken)

-- it has one part less, and the one that was cut off took nothing
abbrev pub IsCutOff : {M : Type 0} → PassKnowledge M → PassKnowledge M → PassKnowledge M → Type 0
IsCutOff old new taker = (taker.taken ≡ []) × (new.parts + 1 ≡ old.parts)
