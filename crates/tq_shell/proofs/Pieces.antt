-- A piece of bytes: up to its first line feed they go onto the line that goes on, and behind it the next line begins.
use Rattle.std.proofs.Common.{◌≡◌, ℕ, zero, suc, ◌+◌, ◌-◌, ◌<◌, ◌≤◌, ◌==◌, true, false, cond, nat_le, List, [], ◌∷◌, ◌++◌, length, take, drop, slice_index, refl, sym, ap, subst, ◌∙◌, arith, append_assoc, length-append, drop-cons, inl, inr}
use Rattle.std.proofs.lemmas.{List.{append-nil, take_all, take-append-drop}, Bool.{cases_lt, ne_eqb}}
use Rattle.std.proofs.Math.Seq.{take-append-add, take-append_seam}
use Rattle.memchr.specs.Find.{Nowhere, Passes, is_byte}
use Rattle.tq_syntax.specs.{Line.line_of, Word.without_return}
use Rattle.tq_text.specs.Print.{Extends}
use Rattle.tq_shell.specs.Stream.{Received, cut_line, with_piece, line_answer, received_byte, received_all, answers_to, taken_at_once}
use Rattle.tq_shell.proofs.StreamLaws.{kept_more, kept_return, received_other, answered_other, received_all-append, answers_to-append}

pub with_piece-none : (received : Received) → length received.line ≤ 4202 → received ≡ with_piece received []
with_piece-none received few =
    let all = take_all 4202 received.line few in
    λ i. record { world = received.world; line = (sym all ∙ ap (take 4202) (sym (append-nil received.line))) i }

-- as many bytes as there is room for are kept
pub with_piece-room : (received : Received) (bytes : List ℕ) (count : ℕ) → count + length received.line ≤ 4202 → (count < length bytes → 4202 ≤ count + length received.line) → let now : Received = record { world = received.world; line = received.line ++ take count bytes } in now ≡ with_piece received bytes
with_piece-room received bytes count few full =
    let line : received.line ++ take count bytes ≡ take 4202 (received.line ++ bytes) = elim (cases_lt count (length bytes)) [
      | inl less ↦
          let size : length received.line + count ≡ 4202 = omega (arith, few, full less) in
          sym (take-append-add received.line bytes count) ∙ ap (λ n. take n (received.line ++ bytes)) size
      | inr all ↦
          let size = length-append received.line bytes in
          ap (λ rest. received.line ++ rest) (take_all count bytes all) ∙ sym (take_all 4202 (received.line ++ bytes) (omega (arith, few, all, size)))
    ] in
    λ i. record { world = received.world; line = line i }

-- of a line that begins in the piece all is read
pub line-whole : (line bytes : List ℕ) → length line ≡ 0 → line_of (without_return bytes) ≡ line_of (without_return (cut_line line bytes))
line-whole [] bytes none = sym (kept_return bytes)
line-whole (byte ∷ line) bytes none = absurd (omega (arith, none))

pub no-bytes : (line : List ℕ) → length line ≡ 0 → line ≡ []
no-bytes [] none = refl
no-bytes (byte ∷ line) none = absurd (omega (arith, none))

with_piece-more : (received : Received) (bytes : List ℕ) (byte : ℕ) → (byte ≡ 10 → ⊥) → received_byte (with_piece received bytes) byte ≡ with_piece received (bytes ++ byte ∷ [])
with_piece-more received bytes byte other =
    let more = kept_more (received.line ++ bytes) byte ∙ ap (take 4202) (append_assoc received.line bytes (byte ∷ [])) in
    received_other (with_piece received bytes) byte other ∙ λ i. record { world = received.world; line = more i }

-- bytes with no line feed among them
abbrev pub HasNoFeed : List ℕ → Type 0
HasNoFeed [] = Unit {0}
HasNoFeed (byte ∷ bytes) = (byte ≡ 10 → ⊥) × HasNoFeed bytes

pub no-feed : (bytes : List ℕ) (place : ℕ) → Nowhere (Passes (is_byte 10) bytes) 0 place → HasNoFeed (take place bytes)
no-feed bytes zero none = tt
no-feed [] (suc place) none = tt
no-feed (byte ∷ bytes) (suc place) none =
    (λ is. none 0 (omega arith) (omega arith) (ap (λ found. found == 10) is), no-feed bytes place (λ k low less. none (suc k) (omega arith) (omega (arith, less))))

-- they go onto the line
received-on : (received : Received) (line bytes rest : List ℕ) → HasNoFeed bytes → received_all (with_piece received line) (bytes ++ rest) ≡ received_all (with_piece received (line ++ bytes)) rest
received-on received line [] rest none = ap (λ all. received_all (with_piece received all) rest) (sym (append-nil line))
received-on received line (byte ∷ bytes) rest none =
    ap (λ now. received_all now (bytes ++ rest)) (with_piece-more received line byte none.0)
    ∙ received-on received (line ++ byte ∷ []) bytes rest none.1
    ∙ ap (λ all. received_all (with_piece received all) rest) (append_assoc line (byte ∷ []) bytes)

answers-on : (received : Received) (line bytes rest : List ℕ) → HasNoFeed bytes → answers_to (with_piece received line) (bytes ++ rest) ≡ answers_to (with_piece received (line ++ bytes)) rest
answers-on received line [] rest none = ap (λ all. answers_to (with_piece received all) rest) (sym (append-nil line))
answers-on received line (byte ∷ bytes) rest none =
    ap (λ text. text ++ answers_to (received_byte (with_piece received line) byte) (bytes ++ rest)) (answered_other (with_piece received line) byte none.0)
    ∙ ap (λ now. answers_to now (bytes ++ rest)) (with_piece-more received line byte none.0)
    ∙ answers-on received (line ++ byte ∷ []) bytes rest none.1
    ∙ ap (λ all. answers_to (with_piece received all) rest) (append_assoc line (byte ∷ []) bytes)

taken-other : (there : ℕ) (received : Received) (byte : ℕ) (bytes : List ℕ) → (byte ≡ 10 → ⊥) → taken_at_once there received (byte ∷ bytes) ≡ 1 + taken_at_once there (received_byte received byte) bytes
taken-other there received byte bytes other =
    let none : there + 0 ≡ there = omega arith in
    rw (ne_eqb byte 10 other) (ap (λ answered. 1 + taken_at_once answered (with_piece received (byte ∷ [])) bytes) none)

taken-on : (there : ℕ) (received : Received) (line bytes rest : List ℕ) → HasNoFeed bytes → taken_at_once there (with_piece received line) (bytes ++ rest) ≡ length bytes + taken_at_once there (with_piece received (line ++ bytes)) rest
taken-on there received line [] rest none =
    let same = ap (λ all. taken_at_once there (with_piece received all) rest) (sym (append-nil line)) in
    omega (arith, same)
taken-on there received line (byte ∷ bytes) rest none =
    let first = taken-other there (with_piece received line) byte (bytes ++ rest) none.0 in
    let more = ap (λ now. taken_at_once there now (bytes ++ rest)) (with_piece-more received line byte none.0) in
    let others = taken-on there received (line ++ byte ∷ []) bytes rest none.1 in
    let same = ap (λ all. taken_at_once there (with_piece received all) rest) (append_assoc line (byte ∷ []) bytes) in
    first ∙ omega (arith, more, others, same)

-- a line feed ends the line, and the next begins behind it
abbrev pub ended : Received → List ℕ → Received
ended received bytes = record { world = (line_answer received.world (cut_line received.line bytes)).after; line = [] }

module _ (received : Received) (left : List ℕ) (few : length received.line ≤ 4202) where
  nowhere : Nowhere (Passes (is_byte 10) left) 0 (length left) → HasNoFeed left
  nowhere none = subst HasNoFeed (take_all (length left) left (omega arith)) (no-feed left (length left) none)

  -- where there is no line feed, all of it goes onto the line
  pub received-rest : Nowhere (Passes (is_byte 10) left) 0 (length left) → received_all received left ≡ with_piece received left
  received-rest none =
      ap (λ now. received_all now left) (with_piece-none received few)
      ∙ ap (received_all (with_piece received [])) (sym (append-nil left))
      ∙ received-on received [] left [] (nowhere none)

  pub answers-rest : Nowhere (Passes (is_byte 10) left) 0 (length left) → answers_to received left ≡ []
  answers-rest none =
      ap (λ now. answers_to now left) (with_piece-none received few)
      ∙ ap (answers_to (with_piece received [])) (sym (append-nil left))
      ∙ answers-on received [] left [] (nowhere none)

  pub taken-rest : (there : ℕ) → Nowhere (Passes (is_byte 10) left) 0 (length left) → taken_at_once there received left ≡ length left
  taken-rest there none =
      let on = taken-on there received [] left [] (nowhere none) in
      let all : length left + 0 ≡ length left = omega arith in
      ap (λ now. taken_at_once there now left) (with_piece-none received few)
      ∙ ap (taken_at_once there (with_piece received [])) (sym (append-nil left))
      ∙ on ∙ all

-- what the bytes of a line with its line feed do, and what stands behind them
module _ (received : Received) (few : length received.line ≤ 4202) (bytes rest : List ℕ) (none : HasNoFeed bytes) where
  received-line : received_all received (bytes ++ 10 ∷ rest) ≡ received_all (ended received bytes) rest
  received-line =
      ap (λ now. received_all now (bytes ++ 10 ∷ rest)) (with_piece-none received few)
      ∙ received-on received [] bytes (10 ∷ rest) none

  answers-line : answers_to received (bytes ++ 10 ∷ rest) ≡ (line_answer received.world (cut_line received.line bytes)).text ++ answers_to (ended received bytes) rest
  answers-line =
      ap (λ now. answers_to now (bytes ++ 10 ∷ rest)) (with_piece-none received few)
      ∙ answers-on received [] bytes (10 ∷ rest) none

  taken-line : (there : ℕ) → let answered = there + length (line_answer received.world (cut_line received.line bytes)).text in taken_at_once there received (bytes ++ 10 ∷ rest) ≡ length bytes + (1 + cond (nat_le 1048576 answered) 0 (taken_at_once answered (ended received bytes) rest))
  taken-line there =
      ap (λ now. taken_at_once there now (bytes ++ 10 ∷ rest)) (with_piece-none received few)
      ∙ taken-on there received [] bytes (10 ∷ rest) none

-- a piece that is received in part: its front is received and answered behind the text, and the rest is left
pub record IsReceiving (start : Received) (said piece : List ℕ) (now : Received) (text left : List ℕ) : Type 0 where
  pub front : List ℕ
  pub parts : piece ≡ front ++ left
  pub received_is : now ≡ received_all start front
  pub text_is : text ≡ said ++ answers_to start front
  pub taken : taken_at_once (length said) start piece ≡ length front + taken_at_once (length text) now left

-- a line feed parts the bytes
pub line-parts : (left : List ℕ) (place : ℕ) → place < length left → slice_index left place ≡ 10 → left ≡ take place left ++ 10 ∷ drop (place + 1) left
line-parts left place less is =
    let one : place + 1 ≡ suc place = omega arith in
    sym (take-append-drop place left) ∙ ap (λ rest. take place left ++ rest) (rw one (drop-cons left place 0 less ∙ ap (λ byte. byte ∷ drop (suc place) left) is))

module _ (start : Received) (said piece : List ℕ) (now : Received) (text left : List ℕ) (going : IsReceiving start said piece now text left) where
  pub receiving-whole : (count : ℕ) × (text ≡ said ++ answers_to start (take count piece))
  receiving-whole =
      let front : take (length going.front) piece ≡ going.front = ap (take (length going.front)) going.parts ∙ take-append_seam going.front left in
      (length going.front, going.text_is ∙ ap (λ bytes. said ++ answers_to start bytes) (sym front))

  size : length piece ≡ length going.front + length left
  size = ap length going.parts ∙ length-append going.front left

  module _ (few : length now.line ≤ 4202) where
    -- the rest is received, where no line ends in it
    module _ (none : Nowhere (Passes (is_byte 10) left) 0 (length left)) where
      pub receiving-all-text : text ≡ said ++ answers_to start (take (length piece) piece)
      receiving-all-text =
          let rest : answers_to now left ≡ [] = answers-rest now left few none in
          let all : answers_to start piece ≡ answers_to start going.front =
          ap (answers_to start) going.parts ∙ answers_to-append start going.front left
          ∙ ap (λ now. answers_to start going.front ++ answers_to now left) (sym going.received_is)
          ∙ ap (λ more. answers_to start going.front ++ more) rest ∙ append-nil (answers_to start going.front) in
          going.text_is ∙ ap (λ answers. said ++ answers) (sym all) ∙ ap (λ bytes. said ++ answers_to start bytes) (sym (take_all (length piece) piece (omega arith)))

      pub receiving-all-after : with_piece now left ≡ received_all start (take (length piece) piece)
      receiving-all-after =
          sym (received-rest now left few none) ∙ ap (λ now. received_all now left) going.received_is
          ∙ sym (received_all-append start going.front left) ∙ ap (received_all start) (sym going.parts) ∙ ap (received_all start) (sym (take_all (length piece) piece (omega arith)))

      pub receiving-all-taken : length piece ≡ taken_at_once (length said) start piece
      receiving-all-taken =
          let rest = taken-rest now left few (length text) none in
          omega (arith, size, rest, going.taken)

    -- a line is received and answered
    module _ (ending behind : List ℕ) (left_parts : left ≡ ending ++ 10 ∷ behind) (free : HasNoFeed ending) (after : List ℕ) (is_after : after ≡ text ++ (line_answer now.world (cut_line now.line ending)).text) where
      abbrev front : List ℕ
      front = going.front ++ (ending ++ 10 ∷ [])

      more-parts : piece ≡ front ++ behind
      more-parts =
          going.parts ∙ ap (λ left. going.front ++ left) (left_parts ∙ sym (append_assoc ending (10 ∷ []) behind))
          ∙ sym (append_assoc going.front (ending ++ 10 ∷ []) behind)

      more-received : ended now ending ≡ received_all start front
      more-received =
          sym (received-line now few ending [] free) ∙ ap (λ now. received_all now (ending ++ 10 ∷ [])) going.received_is
          ∙ sym (received_all-append start going.front (ending ++ 10 ∷ []))

      more-text : after ≡ said ++ answers_to start front
      more-text =
          let answer = (line_answer now.world (cut_line now.line ending)).text in
          let last : answer ≡ answers_to now (ending ++ 10 ∷ []) = sym (append-nil answer) ∙ sym (answers-line now few ending [] free) in
          is_after ∙ ap (λ text. text ++ answer) going.text_is ∙ append_assoc said (answers_to start going.front) answer
          ∙ ap (λ last. said ++ (answers_to start going.front ++ last)) (last ∙ ap (λ now. answers_to now (ending ++ 10 ∷ [])) going.received_is)
          ∙ ap (λ answers. said ++ answers) (sym (answers_to-append start going.front (ending ++ 10 ∷ [])))

      more-taken : taken_at_once (length said) start piece ≡ length front + cond (nat_le 1048576 (length after)) 0 (taken_at_once (length after) (ended now ending) behind)
      more-taken =
          let answer = (line_answer now.world (cut_line now.line ending)).text in
          let there : length text + length answer ≡ length after = sym (ap length is_after ∙ length-append text answer) in
          let line = ap (taken_at_once (length text) now) left_parts ∙ taken-line now few ending behind free (length text) in
          let same = ap (λ there. cond (nat_le 1048576 there) 0 (taken_at_once there (ended now ending) behind)) there in
          let front_size = length-append going.front (ending ++ 10 ∷ []) in
          let line_size = length-append ending (10 ∷ []) in
          omega (arith, going.taken, line, same, front_size, line_size)

      -- there are not enough answers yet
      pub receiving-on : length after < 1048576 → IsReceiving start said piece (ended now ending) after behind
      receiving-on few_yet =
          let not_enough : nat_le 1048576 (length after) ≡ false = grind (arith, few_yet) in
          record {
            front = front;
            parts = more-parts;
            received_is = more-received;
            text_is = more-text;
            taken = rw not_enough at more-taken;
          }

      -- there are enough answers
      front-size : length piece - length behind ≡ length front
      front-size = let all = ap length more-parts ∙ length-append front behind in omega (arith, all)

      front-is : front ≡ take (length piece - length behind) piece
      front-is = sym (ap (λ count. take count piece) front-size ∙ ap (take (length front)) more-parts ∙ take-append_seam front behind)

      pub receiving-full-taken : 1048576 ≤ length after → length piece - length behind ≡ taken_at_once (length said) start piece
      receiving-full-taken enough =
          let is_enough : nat_le 1048576 (length after) ≡ true = grind (arith, enough) in
          let all = rw is_enough at more-taken in
          omega (arith, all, front-size)

      pub receiving-full-text : after ≡ said ++ answers_to start (take (length piece - length behind) piece)
      receiving-full-text = more-text ∙ ap (λ bytes. said ++ answers_to start bytes) front-is

      pub receiving-full-after : ended now ending ≡ received_all start (take (length piece - length behind) piece)
      receiving-full-after = more-received ∙ ap (received_all start) front-is

-- of bytes at least one is received at once
pub taken_some : (there : ℕ) (received : Received) (bytes : List ℕ) → 0 < length bytes → 0 < taken_at_once there received bytes
taken_some there received [] some = absurd (omega arith)
taken_some there received (byte ∷ bytes) some = omega arith

-- a text that went on, cut to what it was
pub text-cut : (old more cut : List ℕ) (count : ℕ) → count ≡ length old → Extends old more → cut ≡ take count more → cut ≡ old
text-cut old more cut count size extends is =
    is ∙ ap (λ n. take n more) size ∙ ap (take (length old)) extends.1 ∙ take-append_seam old extends.0
