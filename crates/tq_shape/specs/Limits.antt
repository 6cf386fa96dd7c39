-- The limits of a system: how much it may be asked to keep.
use Rattle.std.specs.Prelude.{ℕ, ◌≤◌}

-- what callers see: the most files that commits write, operations of a transaction, and entries of a journal
pub record LimitsView : Type 0 where
  pub files : ℕ
  pub ops : ℕ
  pub entries : ℕ

-- the limits of those numbers
abbrev pub limits_of : ℕ → ℕ → ℕ → LimitsView
limits_of files ops entries = record { files = files; ops = ops; entries = entries }

-- 1 to 1,000 files, 1 to 64 operations, 1 to 1,000,000 entries
abbrev pub AreLimits : ℕ → ℕ → ℕ → Type 0
AreLimits files ops entries =
    ((1 ≤ files) × (files ≤ 1000)) × ((1 ≤ ops) × (ops ≤ 64)) × ((1 ≤ entries) × (entries ≤ 1000000))
