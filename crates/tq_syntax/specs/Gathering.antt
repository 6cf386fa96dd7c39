-- What is gathered of the lines of client scripts, line by line. How a line more ends, and how the last does.
use Rattle.std.specs.Prelude.{nat_lt, cond, List, [], ◌∷◌, ◌++◌, length, Option, Some, None, ◌≡◌, ◌<◌, ℕ, Result, Ok, Err}
use Rattle.std.specs.Global.{Vec}
use Rattle.tq_syntax.specs.declared.{client.ClientLine.ClientLine, script.Line.Line, fault.ScriptFault.ScriptFault}
use Rattle.tq_syntax.specs.declared.fault.ScriptFault.TheVariants.{Memory, Bad}
use Rattle.tq_syntax.specs.declared.client.ClientLine.TheVariants as line

-- the scripts that ended, and what the client whose script goes on has said
pub record Gathering : Type 0 where
  pub ended : List (List Line)
  pub going : Option (List Line)

abbrev pub nothing_gathered : Gathering
nothing_gathered = record { ended = []; going = None }

abbrev pub going_script : Option (List Line) → List (List Line)
going_script None = []
going_script (Some lines) = lines ∷ []

abbrev pub scripts_so_far : Gathering → List (List Line)
scripts_so_far gathering = gathering.ended ++ going_script gathering.going

-- the next client begins, if there are not too many
abbrev pub next_client : Gathering → Option Gathering
next_client gathering =
    cond (nat_lt (length (scripts_so_far gathering)) 16)
    (Some (record { ended = scripts_so_far gathering; going = Some [] })) None

abbrev pub said_after : List (List Line) → Option (List Line) → Line → Option Gathering
said_after ended None said = None
said_after ended (Some lines) said = Some (record { ended = ended; going = Some (lines ++ said ∷ []) })

-- the client whose script goes on says one line more, if there is one
abbrev pub said_more : Gathering → Line → Option Gathering
said_more gathering said = said_after gathering.ended gathering.going said

-- one line more, if it may come
abbrev pub gathered_with : Gathering → ClientLine → Option Gathering
gathered_with gathering line.Empty = Some gathering
gathered_with gathering line.Bad = None
gathered_with gathering line.Client = next_client gathering
gathered_with gathering (line.Said said) = said_more gathering said

-- ---- gathered

-- the line of this number may come, and this is gathered with it; or it is bad
abbrev pub IsGatheredWith : Gathering → ClientLine → ℕ → Result Gathering ScriptFault → Type 0
IsGatheredWith gathering line number (Ok gathered) = gathered_with gathering line ≡ Some gathered
IsGatheredWith gathering line number (Err Memory) = Unit {0}
IsGatheredWith gathering line number (Err (Bad bad)) = (gathered_with gathering line ≡ None) × (bad ≡ number)

-- these are the scripts, or there is none
abbrev pub IsFinished : Gathering → Result (Vec (List Line)) ScriptFault → Type 0
IsFinished gathering (Ok scripts) = (scripts.items ≡ scripts_so_far gathering) × (0 < length (scripts_so_far gathering))
IsFinished gathering (Err Memory) = Unit {0}
IsFinished gathering (Err (Bad bad)) = (scripts_so_far gathering ≡ []) × (bad ≡ 1)
