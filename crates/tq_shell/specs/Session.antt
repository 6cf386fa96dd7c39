-- The text that answers the lines of bytes. What a run has written for the bytes that it has read, by the way that it
-- ended.
use Rattle.std.specs.Prelude.{ℕ, Bool, cond, List, [], ◌∷◌, ◌++◌, ◌≡◌, ◌+◌, ◌<◌, ◌≤◌, Option, Result, Ok, Err, length, take}
use Rattle.std.specs.Io.KnownBytes.{Appends}
use Rattle.tq_syntax.specs.{Line.line_of, Scripts.{lines_of, whole_lines}}
use Rattle.tq_interpreter.specs.Answer.{World, answer}
use Rattle.tq_shell.specs.Stream.{Received, nothing_received, received_all, answers_to}
use Rattle.tq_devices.specs.declared.fault.{RunFault.RunFault, RunFault.TheVariants.{Memory, Read, Write, TooLong}}

-- the answers to lines, one after another
abbrev pub lines_text : World → List (List ℕ) → List ℕ
lines_text world [] = []
lines_text world (line ∷ lines) =
    let answered = answer world (line_of line) in answered.text ++ lines_text answered.after lines

-- the text of a run over all bytes, of which the first line is asked in this world
abbrev pub text_of : World → List ℕ → List ℕ
text_of world bytes = lines_text world (lines_of bytes)

-- the text of the lines that a line feed ends
abbrev pub whole_text : World → List ℕ → List ℕ
whole_text world bytes = lines_text world (whole_lines bytes)

-- the text of the lines that are answered: what no line feed ends is a line once the end was reached
abbrev pub answered_text : World → Bool → List ℕ → List ℕ
answered_text world ended bytes = cond ended (text_of world bytes) (whole_text world bytes)

-- ---- session run

-- the world that the lines begin in, whether the end was reached, bytes read, text written
abbrev pub IsRunText : {T : Type 0} → Result T RunFault → World → Bool → List ℕ → List ℕ → Type 0
IsRunText (Ok done) world ended bytes text = (length bytes ≤ 16777216) × (text ≡ text_of world bytes)
-- the text of some first lines, each whole
IsRunText (Err Memory) world ended bytes text = (count : ℕ) × (text ≡ whole_text world (take count bytes))
IsRunText (Err Read) world ended bytes text = text ≡ whole_text world bytes
-- a prefix of the text of the lines that are answered
IsRunText (Err Write) world ended bytes text =
    (rest : List ℕ) × (text ++ rest ≡ answered_text world ended bytes)
IsRunText (Err TooLong) world ended bytes text =
    (16777216 < length bytes) × (text ≡ whole_text world (take 16777216 bytes))

-- where a piece is answered in part: its front is received, what that says is written, and the rest is left
pub record IsAnswering (start : Received) (piece : List ℕ) (taken taken_now : Option (List ℕ)) (received : Received) (left : List ℕ) : Type 0 where
  pub front : List ℕ
  pub parts : piece ≡ front ++ left
  pub wrote : Appends taken taken_now (answers_to start front)
  pub received_is : received ≡ received_all start front

-- where a run stands before a read: what the source has given is received, and what that says is written
pub record IsGoing (world : World) (given given_now taken taken_now : Option (List ℕ)) (received : Received) (left : ℕ) : Type 0 where
  pub bytes : List ℕ
  pub read : Appends given given_now bytes
  pub wrote : Appends taken taken_now (answers_to (nothing_received world) bytes)
  pub received_is : received ≡ received_all (nothing_received world) bytes
  pub room : length bytes + left ≡ 16777216
