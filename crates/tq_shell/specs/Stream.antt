-- Bytes that come in pieces: a machine that goes from byte to byte and keeps one line.
use Rattle.std.specs.{Prelude.{◌≡◌, ℕ, ◌+◌, ◌==◌, ◌&&◌, nat_le, cond, List, [], ◌∷◌, ◌++◌, take, length}, Global.Vec}
use Rattle.tq_text.specs.Print.{Appends}
use Rattle.tq_shell.specs.declared.receiver.TheConstants.{KEPT, FLUSH_AT}
use Rattle.tq_syntax.specs.{Line.line_of, Word.without_return}
use Rattle.tq_interpreter.specs.Answer.{World, Answer, answer}

-- what was received: the world after the whole lines, and what is kept of the line that goes on
pub record Received : Type 0 where
  pub world : World
  pub line : List ℕ

abbrev pub nothing_received : World → Received
nothing_received world = record { world = world; line = [] }

-- of a line no more bytes are kept than show that it is too long, also if one of them is a carriage return
abbrev pub cut_line : List ℕ → List ℕ → List ℕ
cut_line line bytes = take KEPT (line ++ bytes)

-- the line that goes on, with these bytes more
abbrev pub with_piece : Received → List ℕ → Received
with_piece received bytes = record { world = received.world; line = cut_line received.line bytes }

abbrev pub line_answer : World → List ℕ → Answer
line_answer world line = answer world (line_of (without_return line))

-- the answer to the line that goes on, where these bytes end it
abbrev pub ended_answer : Received → List ℕ → Answer
ended_answer received bytes = line_answer received.world (cut_line received.line bytes)

-- what was received then
abbrev pub line_ended : Received → List ℕ → Received
line_ended received bytes = record { world = (ended_answer received bytes).after; line = [] }

abbrev pub received_byte : Received → ℕ → Received
received_byte received byte =
    cond (byte == 10)
    (record { world = (line_answer received.world received.line).after; line = [] })
    (with_piece received (byte ∷ []))

abbrev pub answer_to_byte : Received → ℕ → List ℕ
answer_to_byte received byte = cond (byte == 10) (line_answer received.world received.line).text []

-- what was received after these bytes
abbrev pub received_all : Received → List ℕ → Received
received_all received [] = received
received_all received (byte ∷ bytes) = received_all (received_byte received byte) bytes

-- the answers to the lines that these bytes end
abbrev pub answers_to : Received → List ℕ → List ℕ
answers_to received [] = []
answers_to received (byte ∷ bytes) = answer_to_byte received byte ++ answers_to (received_byte received byte) bytes

-- how many of the bytes are received before answers are written, where there are answers of so many bytes: those up to the
-- first line feed at which there are enough, or all
abbrev pub taken_at_once : ℕ → Received → List ℕ → ℕ
taken_at_once there received [] = 0
taken_at_once there received (byte ∷ bytes) =
    let answered = there + length (answer_to_byte received byte) in
    1 + cond (byte == 10 && nat_le FLUSH_AT answered) 0 (taken_at_once answered (received_byte received byte) bytes)

-- so many of the bytes are received before answers are written, behind the text that is there
abbrev pub IsTakenAtOnce : List ℕ → Received → List ℕ → ℕ → Type 0
IsTakenAtOnce text received bytes taken = taken ≡ taken_at_once (length text) received bytes

-- the answers to so many of the bytes were put behind the text
abbrev pub AnswersFront : Vec ℕ → Vec ℕ → Received → List ℕ → ℕ → Type 0
AnswersFront old new received bytes count = Appends old new (answers_to received (take count bytes))

-- so many of the bytes were received
abbrev pub ReceivesFront : Received → Received → List ℕ → ℕ → Type 0
ReceivesFront old new bytes count = new ≡ received_all old (take count bytes)

-- the answer to a last line without a line feed
abbrev pub answer_to_rest : World → List ℕ → List ℕ
answer_to_rest world [] = []
answer_to_rest world (byte ∷ bytes) = (answer world (line_of (byte ∷ bytes))).text

abbrev pub answer_to_last : Received → List ℕ
answer_to_last received = answer_to_rest received.world received.line
