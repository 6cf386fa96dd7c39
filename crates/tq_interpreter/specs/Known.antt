-- What the shell knows of transactions.
use Rattle.std.specs.{Prelude.{◌≡◌, ℕ, ◌-◌, List, [], ◌∷◌, ◌++◌, Option, Some, None, slice_set}, Global.Vec, List.All}
use Rattle.tq_shape.specs.Limits.{LimitsView}
use Rattle.tq_asks.specs.declared.ask.Verdict.{Verdict}
use Rattle.tq_txn.specs.{declared.txn.Txn.Txn, Told.{Grown, Knows, levels_of}}
use Rattle.tq_txn.specs.declared.txn.Txn.TheVariants as states
use Rattle.tq_txn_states.specs.Open as first
use Rattle.tq_core.specs.World.{item_at}
use Rattle.tq_interpreter.specs.{Recorded.RecorderView, declared.txn_slot.{TxnSlot.TxnSlot, Ending.Ending}}

-- the levels of the tree and the limits, how many transactions others had begun before, and those begun since, in the order of
-- their begins: their numbers go on behind the others'
pub record Known : Type 0 where
  pub levels : ℕ
  pub limits : LimitsView
  pub others : ℕ
  pub txns : List TxnSlot

-- nothing was begun but by others
abbrev pub nothing_known : ℕ → LimitsView → ℕ → Known
nothing_known levels limits others = record { levels = levels; limits = limits; others = others; txns = [] }

-- the same, the transactions as a program keeps them
abbrev pub known_of : ℕ → LimitsView → ℕ → Vec TxnSlot → Known
known_of levels limits others txns = record { levels = levels; limits = limits; others = others; txns = txns.items }

-- what is known of the transaction of that number: nothing where it is none of those begun since
abbrev pub known_at : Known → ℕ → Option TxnSlot
known_at known number = item_at known.txns (number - known.others)

-- what was told before is told still, and the tree is the same
pub record IsLater (old new : RecorderView) : Type 0 where
  pub tree : new.journals.levels ≡ old.journals.levels
  pub told : Grown old.told new.told

-- a transaction of the tree that is asked: each grant and each vote that it keeps was told
pub record IsKept (now : RecorderView) (txn : Txn) : Type 0 where
  pub levels : levels_of txn ≡ now.journals.levels
  pub knows : Knows now.told txn

-- all of them are
abbrev pub AreKept : RecorderView → List TxnSlot → Type 0
AreKept now txns = All (λ kept. IsKept now kept.txn) txns

-- a transaction that did nothing yet, and of which no verdict was told
abbrev pub fresh : ℕ → LimitsView → ℕ → TxnSlot
fresh levels limits number = record { txn = states.Open (first.opening_txn levels limits number); told = None }

abbrev pub with_begun : Known → ℕ → Known
with_begun known number = record { levels = known.levels; limits = known.limits; others = known.others; txns = known.txns ++ fresh known.levels known.limits number ∷ [] }

-- with another state of the transaction of that number
abbrev pub with_kept : Known → ℕ → TxnSlot → Known
with_kept known number kept =
    record { levels = known.levels; limits = known.limits; others = known.others; txns = slice_set known.txns (number - known.others - 1) kept }

abbrev pub in_state : TxnSlot → Txn → TxnSlot
in_state kept txn = record { txn = txn; told = kept.told }

-- the verdict that a further answer told, with the number of its entry
abbrev pub with_told : TxnSlot → ℕ → Option Verdict → TxnSlot
with_told kept cite None = kept
with_told kept cite (Some verdict) = record { txn = kept.txn; told = Some (record { verdict = verdict; cite = cite }) }

-- the verdict and the entry to cite: those that ended the transaction or, before that, the last told
abbrev pub ending_by : Txn → Option Ending → Option Ending
ending_by (states.Ended old) told = Some (record { verdict = old.verdict; cite = old.cite })
ending_by txn told = told

abbrev pub ending_in : TxnSlot → Option Ending
ending_in kept = ending_by kept.txn kept.told
