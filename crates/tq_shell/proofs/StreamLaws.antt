-- The machine that receives pieces says the text of the lines.
use Rattle.std.proofs.Common.{◌≡◌, ℕ, zero, suc, ◌+◌, ◌<◌, ◌≤◌, ◌==◌, Bool, true, false, cond, nat_lt, List, [], ◌∷◌, ◌++◌, length, take, refl, sym, ap, ◌∙◌, arith, append_assoc, inl, inr}
use Rattle.std.proofs.lemmas.{List.{append-nil, take_all, take-append-le, length-take-le}, Bool.{ne_eqb, cases_lt}}
use Rattle.std.{proofs.lemmas.List.Splits.length-slice_split, specs.List.onto_first}
use Rattle.tq_syntax.specs.{declared.line.Line.Line, declared.line.Line.TheVariants.Bad, Line.line_of}
use Rattle.tq_syntax.specs.{Word.without_return, Scripts.{last_line, whole_parts, last_part, parts_of}}
use Rattle.tq_interpreter.specs.Answer.{World, answer}
use Rattle.tq_shell.specs.Session.{lines_text, text_of, whole_text}
use Rattle.tq_shell.specs.Stream.{Received, nothing_received, cut_line, with_piece, line_answer, received_byte, answer_to_byte, received_all, answers_to, answer_to_rest, answer_to_last}

-- what is kept of a line

cut_line-full : (line bytes : List ℕ) → 4202 ≤ length line → length line ≤ 4202 → cut_line line bytes ≡ line
cut_line-full line bytes many few = take-append-le 4202 line bytes many ∙ take_all 4202 line few

pub received_other : (received : Received) (byte : ℕ) → (byte ≡ 10 → ⊥) → received_byte received byte ≡ with_piece received (byte ∷ [])
received_other received byte other = rw (ne_eqb byte 10 other) refl

pub answered_other : (received : Received) (byte : ℕ) → (byte ≡ 10 → ⊥) → answer_to_byte received byte ≡ []
answered_other received byte other = rw (ne_eqb byte 10 other) refl

-- pieces, one after another

pub received_all-append : (received : Received) (bytes more : List ℕ) → received_all received (bytes ++ more) ≡ received_all (received_all received bytes) more
received_all-append received [] more = refl
received_all-append received (byte ∷ bytes) more = received_all-append (received_byte received byte) bytes more

pub answers_to-append : (received : Received) (bytes more : List ℕ) → answers_to received (bytes ++ more) ≡ answers_to received bytes ++ answers_to (received_all received bytes) more
answers_to-append received [] more = refl
answers_to-append received (byte ∷ bytes) more =
    let rest = answers_to-append (received_byte received byte) bytes more in
    let said = answer_to_byte received byte in
    ap (λ text. said ++ text) rest ∙ sym (append_assoc said (answers_to (received_byte received byte) bytes) (answers_to (received_all (received_byte received byte) bytes) more))

-- a line that is kept in part is too long, and so is the whole of it

line_of-long : (line : List ℕ) → 4200 < length line → line_of line ≡ Bad
line_of-long line long =
    let over : nat_lt 4200 (length line) ≡ true = grind arith in
    rw over refl

length-by_return : (byte : ℕ) (is : Bool) → suc zero ≤ length (cond is [] (byte ∷ [])) + 1
length-by_return byte true = omega arith
length-by_return byte false = omega arith

length-without_return : (line : List ℕ) → length line ≤ length (without_return line) + 1
length-without_return [] = omega arith
length-without_return (byte ∷ []) = length-by_return byte (byte == 13)
length-without_return (byte ∷ next ∷ line) = let rest = length-without_return (next ∷ line) in omega (arith, rest)

length-kept : (line : List ℕ) → 4202 < length line → length (take 4202 line) ≡ 4202
length-kept line long = length-take-le 4202 line (omega arith)

kept_line-long : (line : List ℕ) → 4202 < length line → line_of (take 4202 line) ≡ line_of line
kept_line-long line long =
    let kept = length-kept line long in
    let over : 4200 < length (take 4202 line) = omega (arith, kept) in
    line_of-long (take 4202 line) over ∙ sym (line_of-long line (omega (arith, long)))

kept_line : (line : List ℕ) → line_of (take 4202 line) ≡ line_of line
kept_line line = elim (cases_lt 4202 (length line)) [
  | inl long ↦ kept_line-long line long
  | inr few ↦ ap line_of (take_all 4202 line few)
]

kept_return-long : (line : List ℕ) → 4202 < length line → line_of (without_return (take 4202 line)) ≡ line_of (without_return line)
kept_return-long line long =
    let kept = length-kept line long in
    let one = length-without_return (take 4202 line) in
    let other = length-without_return line in
    let over : 4200 < length (without_return (take 4202 line)) = omega (arith, kept, one) in
    line_of-long (without_return (take 4202 line)) over ∙ sym (line_of-long (without_return line) (omega (arith, long, other)))

pub kept_return : (line : List ℕ) → line_of (without_return (take 4202 line)) ≡ line_of (without_return line)
kept_return line = elim (cases_lt 4202 (length line)) [
  | inl long ↦ kept_return-long line long
  | inr few ↦ ap (λ kept. line_of (without_return kept)) (take_all 4202 line few)
]

-- what is kept of a line and one byte more
pub kept_more : (line : List ℕ) (byte : ℕ) → cut_line (take 4202 line) (byte ∷ []) ≡ take 4202 (line ++ byte ∷ [])
kept_more line byte = elim (cases_lt (length line) 4202) [
  | inl few ↦ ap (λ start. take 4202 (start ++ byte ∷ [])) (take_all 4202 line (omega (arith, few)))
  | inr many ↦
      let full : length (take 4202 line) ≡ 4202 = length-take-le 4202 line many in
      cut_line-full (take 4202 line) (byte ∷ []) (omega (arith, full)) (omega (arith, full)) ∙ sym (take-append-le 4202 line (byte ∷ []) many)
]

-- the first part goes on from what came before it
abbrev onto_parts : List ℕ → List (List ℕ) → List (List ℕ)
onto_parts start [] = []
onto_parts start (part ∷ parts) = (start ++ part) ∷ parts

ended_line : (said : Received → List ℕ) (world : World) (one two : Line) (lines : List (List ℕ)) → one ≡ two → ((w : World) → said (record { world = w; line = [] }) ≡ lines_text w lines) → (answer world one).text ++ said (record { world = (answer world one).after; line = [] }) ≡ (answer world two).text ++ lines_text (answer world two).after lines
ended_line said world one two lines same next =
    rw same (ap (λ text. (answer world two).text ++ text) (next (answer world two).after))

-- one byte of the machine, and what it does to the parts
received_step : (said : Received → List ℕ) (lines : List (List ℕ) → List (List ℕ)) → ((part next : List ℕ) (parts : List (List ℕ)) → lines (part ∷ next ∷ parts) ≡ without_return part ∷ lines (next ∷ parts)) → (world : World) (start : List ℕ) (byte : ℕ) (feed : Bool) (all : List (List ℕ)) → 0 < length all → ((w : World) → said (record { world = w; line = [] }) ≡ lines_text w (lines (onto_parts [] all))) → said (record { world = world; line = take 4202 (start ++ byte ∷ []) }) ≡ lines_text world (lines (onto_parts (start ++ byte ∷ []) all)) → let ended : Received = record { world = (line_answer world (take 4202 start)).after; line = [] } in let going : Received = record { world = world; line = cut_line (take 4202 start) (byte ∷ []) } in cond feed (line_answer world (take 4202 start)).text [] ++ said (cond feed ended going) ≡ lines_text world (lines (onto_parts start (cond feed ([] ∷ all) (onto_first byte all))))
received_step said lines cut world start byte feed [] some next goes = absurd (omega (arith, some))
received_step said lines cut world start byte true (part ∷ parts) some next goes =
    let line = start ++ [] in
    let ended = ended_line said world (line_of (without_return (take 4202 start))) (line_of (without_return start)) (lines (part ∷ parts)) (kept_return start) next in
    ended ∙ ap (λ start. (line_answer world start).text ++ lines_text (line_answer world start).after (lines (part ∷ parts))) (sym (append-nil start)) ∙ sym (ap (lines_text world) (cut (start ++ []) part parts))
received_step said lines cut world start byte false (part ∷ parts) some next goes =
    ap (λ line. said (record { world = world; line = line })) (kept_more start byte) ∙ goes ∙ ap (λ first. lines_text world (lines (first ∷ parts))) (append_assoc start (byte ∷ []) part)

parts_some : (bytes : List ℕ) → 0 < length (parts_of bytes)
parts_some bytes = let count = length-slice_split (λ byte. byte == 10) bytes in omega (arith, count)

-- what the machine says is the text of the lines that a line feed ends
whole_parts-answers : (world : World) (start bytes : List ℕ) → answers_to (record { world = world; line = take 4202 start }) bytes ≡ lines_text world (whole_parts (onto_parts start (parts_of bytes)))
whole_parts-answers world start [] = refl
whole_parts-answers world start (byte ∷ bytes) =
    received_step (λ received. answers_to received bytes) whole_parts (λ part next parts. refl) world start byte (byte == 10) (parts_of bytes) (parts_some bytes)
    (λ w. whole_parts-answers w [] bytes) (whole_parts-answers world (start ++ byte ∷ []) bytes)

abbrev all_parts : List (List ℕ) → List (List ℕ)
all_parts parts = whole_parts parts ++ last_line (last_part parts)

abbrev all_answers : Received → List ℕ → List ℕ
all_answers received bytes = answers_to received bytes ++ answer_to_last (received_all received bytes)

rest-answers : (world : World) (start : List ℕ) → answer_to_rest world (take 4202 start) ≡ lines_text world (last_line start)
rest-answers world [] = refl
rest-answers world (byte ∷ bytes) =
    let same : line_of (take 4202 (byte ∷ bytes)) ≡ line_of (byte ∷ bytes) = kept_line (byte ∷ bytes) in
    ap (λ line. (answer world line).text) same ∙ sym (append-nil (answer world (line_of (byte ∷ bytes))).text)

answers_to_parts : (world : World) (start bytes : List ℕ) → all_answers (record { world = world; line = take 4202 start }) bytes ≡ lines_text world (all_parts (onto_parts start (parts_of bytes)))
answers_to_parts world start [] = rest-answers world start ∙ ap (λ line. lines_text world (last_line line)) (sym (append-nil start))
answers_to_parts world start (byte ∷ bytes) =
    let received : Received = record { world = world; line = take 4202 start } in
    append_assoc (answer_to_byte received byte) (answers_to (received_byte received byte) bytes) (answer_to_last (received_all (received_byte received byte) bytes))
    ∙ received_step (λ received. all_answers received bytes) all_parts (λ part next parts. refl) world start byte (byte == 10) (parts_of bytes) (parts_some bytes)
    (λ w. answers_to_parts w [] bytes) (answers_to_parts world (start ++ byte ∷ []) bytes)

onto_nothing : (parts : List (List ℕ)) → onto_parts [] parts ≡ parts
onto_nothing [] = refl
onto_nothing (part ∷ parts) = refl

pub whole_text-answers : (world : World) (bytes : List ℕ) → answers_to (nothing_received world) bytes ≡ whole_text world bytes
whole_text-answers world bytes = whole_parts-answers world [] bytes ∙ ap (λ parts. lines_text world (whole_parts parts)) (onto_nothing (parts_of bytes))

pub text_of-answers : (world : World) (bytes : List ℕ) → answers_to (nothing_received world) bytes ++ answer_to_last (received_all (nothing_received world) bytes) ≡ text_of world bytes
text_of-answers world bytes = answers_to_parts world [] bytes ∙ ap (λ parts. lines_text world (all_parts parts)) (onto_nothing (parts_of bytes))
