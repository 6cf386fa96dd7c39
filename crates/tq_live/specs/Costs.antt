-- What a server costs for each purpose. The words for purposes.
use Rattle.std.specs.{Prelude.{ℕ, ◌≤◌, refl, List, Option, Some, None, cond, codes}, Str.bytes_eq}
use Rattle.std.specs.Coded.{Coded, code_by, coded×, coded_ℕ}
use Rattle.tq_live.specs.declared.{purpose.Purpose.{Purpose, TheVariants.{Read, Write}}, costs.Costs.Costs}

-- the cost for that purpose
abbrev pub cost_to : Purpose → Costs → ℕ
cost_to Read costs = costs.read
cost_to Write costs = costs.write

-- the same for both
abbrev pub even_costs : ℕ → Costs
even_costs cost = record { read = cost; write = cost }

-- what is seen of a server outside the tree
abbrev pub no_costs : Costs
no_costs = even_costs 0

-- each is at most a million
abbrev pub AreLow : Costs → Type 0
AreLow costs = (costs.read ≤ 1000000) × (costs.write ≤ 1000000)

-- a server may have the costs, to read and to write: each is from 1 to a million
abbrev pub AreCosts : ℕ → ℕ → Type 0
AreCosts read write = (1 ≤ read) × (read ≤ 1000000) × (1 ≤ write) × (write ≤ 1000000)

-- where each is at most a million, that for a purpose is
pub low : (costs : Costs) → AreLow costs → (purpose : Purpose) → cost_to purpose costs ≤ 1000000
low costs are Read = are.0
low costs are Write = are.1

-- costs as one value of a code
abbrev pub costs_code : Coded Costs
costs_code = code_by (ℕ × ℕ) (coded× coded_ℕ coded_ℕ) (λ c. (c.read, c.write)) (λ p. record { read = p.0; write = p.1 }) (λ _. refl)

-- ---- purposes

-- the word for a purpose
abbrev pub purpose_text : Purpose → List ℕ
purpose_text Read = codes "read"
purpose_text Write = codes "write"

-- the purpose of a word
abbrev pub purpose_of : List ℕ → Option Purpose
purpose_of text = cond (bytes_eq text (codes "read")) (Some Read) (cond (bytes_eq text (codes "write")) (Some Write) None)
