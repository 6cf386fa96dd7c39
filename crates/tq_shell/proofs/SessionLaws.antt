-- How a run goes on, and what it has written where it ends.
use Rattle.std.proofs.Common.{◌≡◌, ℕ, ◌+◌, ◌-◌, ◌<◌, ◌≤◌, Bool, true, false, List, [], ◌++◌, Option, Result, Ok, Err, length, drop, take, refl, sym, ap, subst, ◌∙◌, arith, append_assoc, length-append}
use Rattle.std.{proofs.lemmas.List.{append-nil, length-take-le, length-drop, take-append-drop}, specs.Result.IsErrAnd}
use Rattle.std.{proofs.Math.Seq.{take-add, take-append_seam}, specs.Io.KnownBytes.{Appends, Keeps}}
use Rattle.tq_interpreter.specs.Answer.{World}
use Rattle.tq_shell.specs.Session.{text_of, whole_text, answered_text, IsRunText, IsAnswering, IsGoing}
use Rattle.tq_shell.specs.Stream.{Received, nothing_received, received_all, answers_to, answer_to_last}
use Rattle.tq_shell.proofs.StreamLaws.{received_all-append, answers_to-append, whole_text-answers, text_of-answers}
use Rattle.tq_devices.specs.{Devices.IsWritten, declared.fault.RunFault.RunFault}
use Rattle.tq_devices.specs.declared.fault.RunFault.TheVariants.{Memory, Read, Write, TooLong}
use Rattle.tq_devices.proofs.Written.{Appends-kept, Appends-none, Appends-then}

-- what is written of the answers to a piece of what is read, and failures of the sink: all, whole answers to first lines, or
-- a prefix
abbrev pub IsPieceWritten : {T : Type 0} → Result T RunFault → Received → List ℕ → Option (List ℕ) → Option (List ℕ) → ℕ → ℕ → Type 0
IsPieceWritten (Ok done) received piece taken taken_after failed failed_after =
    Appends taken taken_after (answers_to received piece) × (failed_after ≡ failed)
IsPieceWritten (Err Memory) received piece taken taken_after failed failed_after =
    (count : ℕ) × Appends taken taken_after (answers_to received (take count piece)) × (failed_after ≡ failed)
IsPieceWritten (Err Write) received piece taken taken_after failed failed_after =
    (text : List ℕ) × (rest : List ℕ) × Appends taken taken_after text × (text ++ rest ≡ answers_to received piece) × (failed_after ≡ failed + 1)
IsPieceWritten (Err Read) received piece taken taken_after failed failed_after = ⊥
IsPieceWritten (Err TooLong) received piece taken taken_after failed failed_after = ⊥

-- the clause of a run
abbrev pub HasRun : {T : Type 0} → Result T RunFault → World → Bool → Option (List ℕ) → Option (List ℕ) → Option (List ℕ) → Option (List ℕ) → Type 0
HasRun result world ended given given_after taken taken_after =
    (bytes : List ℕ) × (text : List ℕ) × Appends given given_after bytes × Appends taken taken_after text × IsRunText result world ended bytes text

pub ends_before : (world : World) (ended : Bool) (given taken : Option (List ℕ)) → HasRun {T = Unit {0}} (Err Memory) world ended given given taken taken
ends_before world ended given taken = ([], [], Appends-none given, Appends-none taken, (0, refl))

-- a result that is this fault
pub by_fault : (result : Result (Unit {0}) RunFault) (fault : RunFault) (world : World) (ended : Bool) (given given_after taken taken_after : Option (List ℕ)) → IsErrAnd result (λ e. e ≡ fault) → HasRun {T = Unit {0}} (Err fault) world ended given given_after taken taken_after → HasRun result world ended given given_after taken taken_after
by_fault (Ok done) fault world ended given given_after taken taken_after is has = absurd is
by_fault (Err e) fault world ended given given_after taken taken_after is has = rw is has

-- a front of what was read, and what is behind it
pub piece_splits : (within count : ℕ) (buffer : List ℕ) → within ≤ count → take count buffer ≡ take within buffer ++ take (count - within) (drop within buffer)
piece_splits within count buffer few =
    let all : count ≡ within + (count - within) = omega arith in
    ap (λ n. take n buffer) all ∙ take-add within (count - within) buffer

pub behind_some : (within count : ℕ) (buffer : List ℕ) → within < count → count ≤ length buffer → 0 < length (take (count - within) (drop within buffer))
behind_some within count buffer few all =
    let dropped = length-drop within buffer in
    let taken = length-take-le (count - within) (drop within buffer) (omega (arith, dropped)) in
    omega (arith, taken)

module _ (world : World) (ended : Bool) (given given_now taken taken_now : Option (List ℕ)) (received : Received) (left : ℕ) (going : IsGoing world given given_now taken taken_now received left) where
  pub ends_read : (given_after : Option (List ℕ)) → Keeps given_now given_after → HasRun {T = Unit {0}} (Err Read) world ended given given_after taken taken_now
  ends_read given_after kept =
      (going.bytes, answers_to (nothing_received world) going.bytes, Appends-kept given given_now given_after going.bytes going.read kept, going.wrote, whole_text-answers world going.bytes)

  pub ends_memory : (given_after : Option (List ℕ)) (piece : List ℕ) → Appends given_now given_after piece → HasRun {T = Unit {0}} (Err Memory) world ended given given_after taken taken_now
  ends_memory given_after piece read =
      let front : take (length going.bytes) (going.bytes ++ piece) ≡ going.bytes = take-append_seam going.bytes piece in (
        going.bytes ++ piece,
        answers_to (nothing_received world) going.bytes,
        Appends-then given given_now given_after going.bytes piece going.read read,
        going.wrote,
        (length going.bytes, whole_text-answers world going.bytes ∙ ap (whole_text world) (sym front)),
      )

  -- the text of more bytes begins with that of the bytes so far
  text_goes_on : (more : List ℕ) → answers_to (nothing_received world) going.bytes ++ (answers_to received more ++ answer_to_last (received_all received more)) ≡ text_of world (going.bytes ++ more)
  text_goes_on more =
      let start = nothing_received world in
      let bytes = going.bytes in
      let said : answers_to start (bytes ++ more) ≡ answers_to start bytes ++ answers_to received more = answers_to-append start bytes more ∙ ap (λ h. answers_to start bytes ++ answers_to h more) (sym going.received_is) in
      let after : received_all start (bytes ++ more) ≡ received_all received more = received_all-append start bytes more ∙ ap (λ h. received_all h more) (sym going.received_is) in
      sym (append_assoc (answers_to start bytes) (answers_to received more) (answer_to_last (received_all received more)))
      ∙ ap (λ text. text ++ answer_to_last (received_all received more)) (sym said) ∙ ap (λ h. answers_to start (bytes ++ more) ++ answer_to_last h) (sym after) ∙ text_of-answers world (bytes ++ more)

  said_on : (front : List ℕ) → answers_to (nothing_received world) (going.bytes ++ front) ≡ answers_to (nothing_received world) going.bytes ++ answers_to received front
  said_on front = answers_to-append (nothing_received world) going.bytes front ∙ ap (λ h. answers_to (nothing_received world) going.bytes ++ answers_to h front) (sym going.received_is)

  -- a prefix of the answers to lines that a line feed ended is one of what is answered, also where the end was reached
  prefix_answered : (end : Bool) (front text rest : List ℕ) → text ++ rest ≡ answers_to (nothing_received world) going.bytes ++ answers_to received front → (rest : List ℕ) × (text ++ rest ≡ answered_text world end (going.bytes ++ front))
  prefix_answered true front text rest is =
      let last = answer_to_last (received_all received front) in
      (rest ++ last, sym (append_assoc text rest last) ∙ ap (λ first. first ++ last) is ∙ append_assoc (answers_to (nothing_received world) going.bytes) (answers_to received front) last ∙ text_goes_on front)
  prefix_answered false front text rest is = (rest, is ∙ sym (said_on front) ∙ whole_text-answers world (going.bytes ++ front))

  few_bytes : length (going.bytes ++ []) ≤ 16777216
  few_bytes = let count = length-append going.bytes [] in omega (arith, count, going.room)

  pub ends_well : (given_after taken_after : Option (List ℕ)) (text : List ℕ) → Appends given_now given_after [] → text ≡ answer_to_last received → Appends taken_now taken_after text → HasRun {T = Unit {0}} (Ok tt) world ended given given_after taken taken_after
  ends_well given_after taken_after text read is wrote = (
    going.bytes ++ [],
    answers_to (nothing_received world) going.bytes ++ text,
    Appends-then given given_now given_after going.bytes [] going.read read,
    Appends-then taken taken_now taken_after (answers_to (nothing_received world) going.bytes) text going.wrote wrote,
    (few_bytes, ap (λ last. answers_to (nothing_received world) going.bytes ++ last) is ∙ text_goes_on []),
  )

  pub ends_last_write : (given_after taken_after : Option (List ℕ)) (text : List ℕ) (count : ℕ) → ended ≡ true → Appends given_now given_after [] → text ≡ answer_to_last received → Appends taken_now taken_after (take count text) → HasRun {T = Unit {0}} (Err Write) world ended given given_after taken taken_after
  ends_last_write given_after taken_after text count reached read is wrote =
      let said = answers_to (nothing_received world) going.bytes in (
        going.bytes ++ [],
        said ++ take count text,
        Appends-then given given_now given_after going.bytes [] going.read read,
        Appends-then taken taken_now taken_after said (take count text) going.wrote wrote,
        (
          drop count text,
          append_assoc said (take count text) (drop count text) ∙ ap (λ last. said ++ last) (take-append-drop count text ∙ is) ∙ text_goes_on []
              ∙ sym (ap (λ end. answered_text world end (going.bytes ++ [])) reached),
        ),
      )

  pub ends_last : (result : Result (Unit {0}) RunFault) (given_after taken_after : Option (List ℕ)) (text : List ℕ) (failed failed_after : ℕ) → ended ≡ true → Appends given_now given_after [] → text ≡ answer_to_last received → IsWritten result text taken_now taken_after failed failed_after → HasRun result world ended given given_after taken taken_after
  ends_last (Ok done) given_after taken_after text failed failed_after reached read is written = ends_well given_after taken_after text read is written.0
  ends_last (Err Write) given_after taken_after text failed failed_after reached read is written = ends_last_write given_after taken_after text written.0 reached read is written.1
  ends_last (Err Memory) given_after taken_after text failed failed_after reached read is written = absurd written
  ends_last (Err Read) given_after taken_after text failed failed_after reached read is written = absurd written
  ends_last (Err TooLong) given_after taken_after text failed failed_after reached read is written = absurd written

  -- the answers to a front of what was read are a front of its text
  ends_write : (given_after taken_after : Option (List ℕ)) (front behind text rest : List ℕ) → Appends given_now given_after (front ++ behind) → text ++ rest ≡ answers_to received front → Appends taken_now taken_after text → HasRun {T = Unit {0}} (Err Write) world ended given given_after taken taken_after
  ends_write given_after taken_after front behind text rest read is wrote =
      let said = answers_to (nothing_received world) going.bytes in
      let later = answers_to (received_all received front) behind in
      let split : answers_to received (front ++ behind) ≡ (text ++ rest) ++ later = answers_to-append received front behind ∙ ap (λ first. first ++ later) (sym is) in (
        going.bytes ++ (front ++ behind),
        said ++ text,
        Appends-then given given_now given_after going.bytes (front ++ behind) going.read read,
        Appends-then taken taken_now taken_after said text going.wrote wrote,
        prefix_answered ended (front ++ behind) (said ++ text) (rest ++ later)
            (append_assoc said text (rest ++ later) ∙ ap (λ more. said ++ more) (sym (append_assoc text rest later) ∙ sym split)),
      )

  -- some first lines of what was read are answered
  ends_whole : (given_after taken_after : Option (List ℕ)) (front behind : List ℕ) (count : ℕ) → Appends given_now given_after (front ++ behind) → Appends taken_now taken_after (answers_to received (take count front)) → HasRun {T = Unit {0}} (Err Memory) world ended given given_after taken taken_after
  ends_whole given_after taken_after front behind count read wrote =
      let said = answers_to (nothing_received world) going.bytes in
      let some = take count front in
      let all = going.bytes ++ (front ++ behind) in
      let later = drop count front ++ behind in
      let parts : all ≡ (going.bytes ++ some) ++ later =
      ap (λ front. going.bytes ++ (front ++ behind)) (sym (take-append-drop count front)) ∙ ap (λ rest. going.bytes ++ rest) (append_assoc some (drop count front) behind)
      ∙ sym (append_assoc going.bytes some later) in
      let first : take (length (going.bytes ++ some)) all ≡ going.bytes ++ some = ap (take (length (going.bytes ++ some))) parts ∙ take-append_seam (going.bytes ++ some) later in
      let answers : said ++ answers_to received some ≡ answers_to (nothing_received world) (going.bytes ++ some) =
      ap (λ h. said ++ answers_to h some) going.received_is ∙ sym (answers_to-append (nothing_received world) going.bytes some) in (
        all,
        said ++ answers_to received some,
        Appends-then given given_now given_after going.bytes (front ++ behind) going.read read,
        Appends-then taken taken_now taken_after said (answers_to received some) going.wrote wrote,
        (length (going.bytes ++ some), answers ∙ whole_text-answers world (going.bytes ++ some) ∙ ap (whole_text world) (sym first)),
      )

  pub ends_piece : (fault : RunFault) (given_after taken_after : Option (List ℕ)) (front behind : List ℕ) (failed failed_after : ℕ) → Appends given_now given_after (front ++ behind) → IsPieceWritten {T = Unit {0}} (Err fault) received front taken_now taken_after failed failed_after → HasRun {T = Unit {0}} (Err fault) world ended given given_after taken taken_after
  ends_piece Write given_after taken_after front behind failed failed_after read written = ends_write given_after taken_after front behind written.0 written.1 read written.3 written.2
  ends_piece Memory given_after taken_after front behind failed failed_after read written = ends_whole given_after taken_after front behind written.0 read written.1
  ends_piece Read given_after taken_after front behind failed failed_after read written = absurd written
  ends_piece TooLong given_after taken_after front behind failed failed_after read written = absurd written

  pub goes_on : (given_after taken_after : Option (List ℕ)) (front text : List ℕ) (received_after : Received) (left_after : ℕ) → Appends given_now given_after front → text ≡ answers_to received front → received_after ≡ received_all received front → Appends taken_now taken_after text → length front + left_after ≡ left → IsGoing world given given_after taken taken_after received_after left_after
  goes_on given_after taken_after front text received_after left_after read is after wrote fits =
      let said = answers_to (nothing_received world) going.bytes in
      let count = length-append going.bytes front in
      let P : List ℕ → Type 0 = λ all. Appends taken taken_after all in
      record {
        bytes = going.bytes ++ front;
        read = Appends-then given given_now given_after going.bytes front going.read read;
        wrote = subst P (ap (λ more. said ++ more) is ∙ sym (said_on front)) (Appends-then taken taken_now taken_after said text going.wrote wrote);
        received_is = after ∙ ap (λ h. received_all h front) going.received_is ∙ sym (received_all-append (nothing_received world) going.bytes front);
        room = omega (arith, count, going.room, fits);
      }

  pub ends_too_long : (given_after taken_after : Option (List ℕ)) (front behind text : List ℕ) → Appends given_now given_after (front ++ behind) → text ≡ answers_to received front → Appends taken_now taken_after text → length front ≡ left → 0 < length behind → HasRun {T = Unit {0}} (Err TooLong) world ended given given_after taken taken_after
  ends_too_long given_after taken_after front behind text read is wrote full more =
      let said = answers_to (nothing_received world) going.bytes in
      let bytes = going.bytes in
      let one = length-append bytes (front ++ behind) in
      let two = length-append front behind in
      let limit : length (bytes ++ front) ≡ 16777216 = length-append bytes front ∙ (omega (arith, going.room, full)) in
      let begins : take 16777216 (bytes ++ (front ++ behind)) ≡ bytes ++ front =
      ap (take 16777216) (sym (append_assoc bytes front behind)) ∙ ap (λ n. take n ((bytes ++ front) ++ behind)) (sym limit) ∙ take-append_seam (bytes ++ front) behind in (
        bytes ++ (front ++ behind),
        said ++ text,
        Appends-then given given_now given_after bytes (front ++ behind) going.read read,
        Appends-then taken taken_now taken_after said text going.wrote wrote,
        (
          omega (arith, one, two, going.room, full, more),
          ap (λ last. said ++ last) is ∙ sym (said_on front) ∙ whole_text-answers world (bytes ++ front) ∙ ap (whole_text world) (sym begins),
        ),
      )

-- how a piece is answered

-- what is put behind no text is all of it
pub said_alone : (old new said : List ℕ) → old ≡ [] → new ≡ old ++ said → new ≡ said
said_alone old new said none is = is ∙ ap (λ text. text ++ said) none

module _ (start : Received) (piece : List ℕ) (taken taken_now : Option (List ℕ)) (received : Received) (left : List ℕ) (going : IsAnswering start piece taken taken_now received left) where
  -- the answers to a part of what is left go on from those that are written
  answers_on : (some : List ℕ) → answers_to start going.front ++ answers_to received some ≡ answers_to start (going.front ++ some)
  answers_on some = ap (λ h. answers_to start going.front ++ answers_to h some) going.received_is ∙ sym (answers_to-append start going.front some)

  parted : (count : ℕ) → piece ≡ (going.front ++ take count left) ++ drop count left
  parted count = going.parts ∙ ap (λ left. going.front ++ left) (sym (take-append-drop count left)) ∙ sym (append_assoc going.front (take count left) (drop count left))

  wrote_on : (taken_after : Option (List ℕ)) (text some : List ℕ) → text ≡ answers_to received some → Appends taken_now taken_after text → Appends taken taken_after (answers_to start (going.front ++ some))
  wrote_on taken_after text some is wrote =
      let P : List ℕ → Type 0 = λ all. Appends taken taken_after all in
      subst P (ap (λ more. answers_to start going.front ++ more) is ∙ answers_on some) (Appends-then taken taken_now taken_after (answers_to start going.front) text going.wrote wrote)

  -- all is written
  pub answering_ends : left ≡ [] → Appends taken taken_now (answers_to start piece) × (received ≡ received_all start piece)
  answering_ends none =
      let all : going.front ≡ piece = sym (append-nil going.front) ∙ ap (λ left. going.front ++ left) (sym none) ∙ sym going.parts in
      let P : List ℕ → Type 0 = λ bytes. Appends taken taken_now (answers_to start bytes) in
      (subst P all going.wrote, going.received_is ∙ ap (received_all start) all)

  -- a front of what is left is answered, and that is written
  pub answering_on : (taken_after : Option (List ℕ)) (text : List ℕ) (received_after : Received) (count : ℕ) → text ≡ answers_to received (take count left) → received_after ≡ received_all received (take count left) → Appends taken_now taken_after text → IsAnswering start piece taken taken_after received_after (drop count left)
  answering_on taken_after text received_after count is after wrote = record {
    front = going.front ++ take count left;
    parts = parted count;
    wrote = wrote_on taken_after text (take count left) is wrote;
    received_is = after ∙ ap (λ h. received_all h (take count left)) going.received_is ∙ sym (received_all-append start going.front (take count left));
  }

  -- memory was refused, and what was whole is written
  pub answering_whole : (taken_after : Option (List ℕ)) (text : List ℕ) (count failed failed_after : ℕ) → text ≡ answers_to received (take count left) → Appends taken_now taken_after text → failed_after ≡ failed → IsPieceWritten {T = Unit {0}} (Err Memory) start piece taken taken_after failed failed_after
  answering_whole taken_after text count failed failed_after is wrote counts =
      let some = take count left in
      let front : take (length (going.front ++ some)) piece ≡ going.front ++ some = ap (take (length (going.front ++ some))) (parted count) ∙ take-append_seam (going.front ++ some) (drop count left) in
      let P : List ℕ → Type 0 = λ bytes. Appends taken taken_after (answers_to start bytes) in
      (length (going.front ++ some), subst P (sym front) (wrote_on taken_after text some is wrote), counts)

  -- a front was written
  answering_part : (taken_after : Option (List ℕ)) (text : List ℕ) (count part failed failed_after : ℕ) → text ≡ answers_to received (take count left) → Appends taken_now taken_after (take part text) → failed_after ≡ failed + 1 → IsPieceWritten {T = Unit {0}} (Err Write) start piece taken taken_after failed failed_after
  answering_part taken_after text count part failed failed_after is wrote counts =
      let some = take count left in
      let said = answers_to start going.front in
      let later = answers_to (received_all start (going.front ++ some)) (drop count left) in
      let rest = drop part text ++ later in
      let all : (said ++ take part text) ++ rest ≡ answers_to start piece =
      append_assoc said (take part text) rest
      ∙ ap (λ more. said ++ more) (sym (append_assoc (take part text) (drop part text) later) ∙ ap (λ text. text ++ later) (take-append-drop part text ∙ is))
      ∙ sym (append_assoc said (answers_to received some) later) ∙ ap (λ first. first ++ later) (answers_on some)
      ∙ sym (answers_to-append start (going.front ++ some) (drop count left)) ∙ ap (answers_to start) (sym (parted count)) in
      (said ++ take part text, rest, Appends-then taken taken_now taken_after said (take part text) going.wrote wrote, all, counts)

  pub answering_fails : (fault : RunFault) (taken_after : Option (List ℕ)) (text : List ℕ) (count failed failed_after : ℕ) → text ≡ answers_to received (take count left) → IsWritten {T = Unit {0}} (Err fault) text taken_now taken_after failed failed_after → IsPieceWritten {T = Unit {0}} (Err fault) start piece taken taken_after failed failed_after
  answering_fails Write taken_after text count failed failed_after is written = answering_part taken_after text count written.0 failed failed_after is written.1 written.2
  answering_fails Memory taken_after text count failed failed_after is written = absurd written
  answering_fails Read taken_after text count failed failed_after is written = absurd written
  answering_fails TooLong taken_after text count failed failed_after is written = absurd written
