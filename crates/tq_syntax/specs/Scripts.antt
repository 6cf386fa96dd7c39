-- The lines of bytes. What a text of client scripts says: the script of each client, or the first line that is bad.
use Rattle.std.specs.Prelude.{ℕ, ◌==◌, List, [], ◌∷◌, ◌++◌, ◌≡◌, ◌⊎◌, ◌<◌, suc, Bool, true, false, ◌&&◌, nat_lt, nat_le, map, length, take, Result, Ok, Err}
use Rattle.std.specs.{List.{slice_split, list_all}, Global.Vec}
use Rattle.tq_syntax.specs.{Word.without_return, ClientLine.client_line_of, declared.client.ClientLine.ClientLine}
use Rattle.tq_syntax.specs.declared.{script.Line.Line, fault.ScriptFault.{ScriptFault, TheVariants.{Memory, Bad}}}
use Rattle.tq_shape.specs.Journal.{is_empty}
use Rattle.tq_syntax.specs.declared.client.ClientLine.TheVariants as line

-- what stands after the last line feed is a line if it has a byte
abbrev pub last_line : List ℕ → List (List ℕ)
last_line [] = []
last_line (byte ∷ bytes) = (byte ∷ bytes) ∷ []

-- the parts between line feeds: each is a line but the last
abbrev pub whole_parts : List (List ℕ) → List (List ℕ)
whole_parts [] = []
whole_parts (part ∷ []) = []
whole_parts (part ∷ next ∷ parts) = without_return part ∷ whole_parts (next ∷ parts)

abbrev pub last_part : List (List ℕ) → List ℕ
last_part [] = []
last_part (part ∷ []) = part
last_part (part ∷ next ∷ parts) = last_part (next ∷ parts)

abbrev pub parts_of : List ℕ → List (List ℕ)
parts_of bytes = slice_split (λ byte. byte == 10) bytes

-- the lines that a line feed ends
abbrev pub whole_lines : List ℕ → List (List ℕ)
whole_lines bytes = whole_parts (parts_of bytes)

-- all lines
abbrev pub lines_of : List ℕ → List (List ℕ)
lines_of bytes = whole_lines bytes ++ last_line (last_part (parts_of bytes))

-- ---- scripts

-- what a line says to the client whose script it stands in. An empty one says nothing, nor does one that is no line of a client
abbrev pub said_by : ClientLine → List Line
said_by (line.Said said) = said ∷ []
said_by other = []

-- what stands before the first line `client`, and the scripts of the clients
pub record Clients : Type 0 where
  pub before : List Line
  pub scripts : List (List Line)

abbrev pub with_line : ClientLine → Clients → Clients
with_line line.Client clients = record { before = []; scripts = clients.before ∷ clients.scripts }
with_line other clients = record { before = said_by other ++ clients.before; scripts = clients.scripts }

-- a script is what stands between a line `client` and the next one, or the end
abbrev pub clients_of : List ClientLine → Clients
clients_of [] = record { before = []; scripts = [] }
clients_of (first ∷ lines) = with_line first (clients_of lines)

abbrev pub scripts_of : List ClientLine → List (List Line)
scripts_of lines = (clients_of lines).scripts

abbrev pub has_form : ClientLine → Bool
has_form line.Bad = false
has_form other = true

-- each line has one of the forms, nothing is said before the first client, and there are not too many clients
abbrev pub are_good : List ClientLine → Bool
are_good lines = list_all has_form lines && (is_empty (clients_of lines).before && nat_le (length (scripts_of lines)) 16)

-- the line of this number is the first bad one: with the lines before it it is not good, and these alone are
pub record IsFirstBad (lines : List ClientLine) (number : ℕ) : Type 0 where
  pub before : ℕ
  pub number_is : number ≡ suc before
  pub within : before < length lines
  pub good : are_good (take before lines) ≡ true
  pub bad : are_good (take (suc before) lines) ≡ false

-- lines that are good and have a client give its scripts. Else the first bad line is named; where all are good, line 1
abbrev pub IsRead : List ClientLine → Result (Vec (List Line)) ScriptFault → Type 0
IsRead lines (Ok scripts) = (are_good lines ≡ true) × (scripts.items ≡ scripts_of lines) × (0 < length (scripts_of lines))
IsRead lines (Err Memory) = Unit {0}
IsRead lines (Err (Bad number)) = IsFirstBad lines number ⊎ ((are_good lines ≡ true) × (scripts_of lines ≡ []) × (number ≡ 1))

-- what the last part says: it is a line if it has a byte. Of a text that goes on over the limit it is the line in which it
-- does so, and that is bad whatever it says
abbrev pub last_by : Bool → List ℕ → List ClientLine
last_by true part = line.Bad ∷ []
last_by false part = map client_line_of (last_line part)

-- the lines of a text whose bytes within the limit are these, and which may go on over it
abbrev pub lines_within : Bool → List ℕ → List ClientLine
lines_within is_over bytes = map client_line_of (whole_lines bytes) ++ last_by is_over (last_part (parts_of bytes))

-- the lines of a text, those behind the one in which it passes its limit left out
abbrev pub said_lines : List ℕ → List ClientLine
said_lines bytes = lines_within (nat_lt 16777216 (length bytes)) (take 16777216 bytes)
