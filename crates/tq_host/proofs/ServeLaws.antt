-- Answers that are put. What lines and what goes out do to what was served.
use Rattle.std.proofs.Common.{◌≡◌, ℕ, List, [], ◌++◌, sym, ◌∙◌, ◌<◌, ◌≤◌, ◌^◌, ◌+◌, ◌-◌, length, ◌∷◌, Option, take, drop, refl, ap, subst, inl, inr, arith, append_assoc}
use Rattle.std.proofs.lemmas.List.{append-nil, length-append, take-append-drop, drop-take, drop-drop}
use Rattle.std.specs.Io.KnownBytes.{Appends, Keeps}
use Rattle.tq_host.specs.Told.{bad, full, memory, bad_text, full_text, memory_text, Told, entered, Exchange, AreTold, IsTold, asked_text, logged_text, answered_text, standing_after, goes_on, log_line, answer_line, Batched, with_told, nothing_left, IsHalfOut}
use Rattle.tq_host.specs.{Lines.{HasNoFeed, IsLine, IsLogOf}, declared.fault.HostFault.HostFault}
use Rattle.tq_host.specs.Served.{Restarts, IsServing, IsAllServed, IsCutOff, IsLong}
use Rattle.tq_host.specs.declared.fault.HostFault.TheVariants.{Memory, Read, Write, TooLong, Log}
use Rattle.tq_devices.proofs.Written.{Appends-none, Appends-then, Appends-kept}
use Rattle.tq_shape.specs.{declared.part.Entry.Entry, Agrees.Standing}
use Rattle.tq_board.proofs.ReadBack.{no-feed-append}

abbrev with_answer : {S A R : Type 0} → Batched S A R → List ℕ → Batched S A R
with_answer old text = record { standing = old.standing; entries = old.entries; answers = old.answers ++ text }

no-entry : {S A R : Type 0} (old : Batched S A R) (text : List ℕ) → with_answer old text ≡ record { standing = old.standing; entries = old.entries ++ []; answers = old.answers ++ text }
no-entry old text = λ i. record { standing = old.standing; entries = sym (append-nil old.entries) i; answers = old.answers ++ text }

module _ {S A R : Type 0} (after : S → ℕ → A → S) (entry_line : A → R → List ℕ) (told_line : ℕ → R → List ℕ) (old new : Batched S A R) where
  pub told-bad : new ≡ with_answer old bad_text → new ≡ with_told after entry_line told_line old bad
  told-bad e = e ∙ no-entry old bad_text

  pub told-full : new ≡ with_answer old full_text → new ≡ with_told after entry_line told_line old full
  told-full e = e ∙ no-entry old full_text

-- ---- serve laws

again : (P : Option (List ℕ) → Type 0) (now then : Option (List ℕ)) → then ≡ now → P now → P then
again P now then same h = subst P (sym same) h

module _ {S A R : Type 0} (reply : S → ℕ → A → R) (after : S → ℕ → A → S) (reads_ask : List ℕ → Option A → Type 0) (reads : S → List ℕ → Option (Entry A R) → Type 0) (entry_line : A → R → List ℕ) where
  told-older : (start : Standing S A R) (newer older : List (Exchange A R)) → AreTold reply after reads_ask reads entry_line start (newer ++ older) → AreTold reply after reads_ask reads entry_line start older
  told-older start [] older h = h
  told-older start (x ∷ newer) older h = told-older start newer older h.0

  same-log : (opening now : Standing S A R) (text : List ℕ) → IsLogOf reply after reads opening text now → IsLogOf reply after reads opening (text ++ []) now
  same-log opening now text h = record { lines = h.lines; is = append-nil text ∙ h.is; whole = h.whole; entered = h.entered }

  one-more : (opening before : Standing S A R) (text line : List ℕ) (told : Told A R) → IsTold reply after reads_ask reads entry_line before line told → IsLogOf reply after reads opening text before
      → IsLogOf reply after reads opening (text ++ log_line entry_line told) (goes_on after before told)
  one-more opening before text line (entered e) is h = record {
    lines = entry_line e.ask e.reply ∷ h.lines;
    is = ap (λ all. all ++ entry_line e.ask e.reply) h.is;
    whole = (is.kept.0, h.whole);
    entered = (before, h.entered, record { entry = e; read = is.kept.1; room = is.room; legal = is.legal; goes_on = refl });
  }
  one-more opening before text line bad is h = same-log opening before text h
  one-more opening before text line full is h = same-log opening before text h
  one-more opening before text line memory is h = same-log opening before text h

  restarts : (start : Standing S A R) (all : List (Exchange A R)) → AreTold reply after reads_ask reads entry_line start all → Restarts reply after reads entry_line start all
  restarts start [] told opening text h = same-log opening start text h
  restarts start (x ∷ earlier) told opening text h =
      subst (λ text. IsLogOf reply after reads opening text (goes_on after (standing_after after start earlier) x.told)) (append_assoc text (logged_text entry_line earlier) (log_line entry_line x.told))
      (one-more opening (standing_after after start earlier) (text ++ logged_text entry_line earlier) x.line x.told told.2 (restarts start earlier told.0 opening text h))

module _ {S A R : Type 0} (reply : S → ℕ → A → R) (after : S → ℕ → A → S) (reads_ask : List ℕ → Option A → Type 0) (reads : S → List ℕ → Option (Entry A R) → Type 0) (entry_line : A → R → List ℕ) (told_line : ℕ → R → List ℕ)
    (start : Standing S A R) (kept taken : Option (List ℕ)) where
  restarts-here : (newer older : List (Exchange A R)) → AreTold reply after reads_ask reads entry_line start (newer ++ older) → Restarts reply after reads entry_line start older
  restarts-here newer older told = restarts reply after reads_ask reads entry_line start older (told-older reply after reads_ask reads entry_line start newer older told)

  abbrev pub Serving : Option (List ℕ) → Option (List ℕ) → Option (List ℕ) → List (Exchange A R) → List (Exchange A R) → Batched S A R → Type 0
  Serving kept_now synced_now taken_now newer older batch = IsServing reply after reads_ask reads entry_line told_line start kept kept_now synced_now taken taken_now newer older batch

  abbrev pub CutOff : Option (List ℕ) → Option (List ℕ) → Option (List ℕ) → List ℕ → Type 0
  CutOff kept_now synced_now taken_now bytes = IsCutOff reply after reads_ask reads entry_line told_line start kept kept_now synced_now taken taken_now bytes

  abbrev pub AllServed : Option (List ℕ) → Option (List ℕ) → Option (List ℕ) → List ℕ → Type 0
  AllServed kept_now synced_now taken_now bytes = IsAllServed reply after reads_ask reads entry_line told_line start kept kept_now synced_now taken taken_now bytes

  abbrev logged : List (Exchange A R) → List ℕ
  logged all = logged_text entry_line all

  abbrev answered : List (Exchange A R) → List ℕ
  answered all = answered_text after told_line start all

  pub serving-opens : (synced : Option (List ℕ)) → synced ≡ kept → Serving kept synced taken [] [] (nothing_left start)
  serving-opens synced same = record { told = tt; standing = refl; entries = refl; answers = refl; logged = Appends-none kept; synced = same; written = Appends-none taken }

  module _ (kept_now synced_now taken_now : Option (List ℕ)) (newer older : List (Exchange A R)) (batch : Batched S A R) (h : Serving kept_now synced_now taken_now newer older batch) where
    -- a line is answered
    pub serving-told : (line : List ℕ) (told : Told A R) → IsLine line → IsTold reply after reads_ask reads entry_line batch.standing line told
        → Serving kept_now synced_now taken_now (record { line = line; told = told } ∷ newer) older (with_told after entry_line told_line batch told)
    serving-told line told whole is = record {
      told = (h.told, whole, subst (λ s. IsTold reply after reads_ask reads entry_line s line told) h.standing is);
      standing = ap (λ s. goes_on after s told) h.standing;
      entries = sym (append_assoc (logged older) batch.entries (log_line entry_line told)) ∙ ap (λ text. text ++ log_line entry_line told) h.entries;
      answers =
          sym (append_assoc (answered older) batch.answers (answer_line after told_line batch.standing told))
          ∙ ap (λ text. text ++ answer_line after told_line batch.standing told) h.answers
          ∙ ap (λ s. answered (newer ++ older) ++ answer_line after told_line s told) h.standing;
      logged = h.logged;
      synced = h.synced;
      written = h.written;
    }

    all-logged : (kept_then : Option (List ℕ)) → Appends kept_now kept_then batch.entries → Appends kept kept_then (logged (newer ++ older))
    all-logged kept_then more = subst (λ text. Appends kept kept_then text) h.entries (Appends-then kept kept_now kept_then (logged older) batch.entries h.logged more)

    -- what did not go out goes out
    pub serving-out : (kept_then synced_then taken_then : Option (List ℕ)) → Appends kept_now kept_then batch.entries → synced_then ≡ kept_then → Appends taken_now taken_then batch.answers
        → Serving kept_then synced_then taken_then [] (newer ++ older) (nothing_left batch.standing)
    serving-out kept_then synced_then taken_then more same told = record {
      told = h.told;
      standing = h.standing;
      entries = append-nil (logged (newer ++ older));
      answers = append-nil (answered (newer ++ older));
      logged = all-logged kept_then more;
      synced = same;
      written = subst (λ text. Appends taken taken_then text) h.answers (Appends-then taken taken_now taken_then (answered older) batch.answers h.written told);
    }

    module _ (bytes rest : List ℕ) (read : bytes ≡ asked_text (newer ++ older) ++ rest) where
      -- a fault comes before anything goes out
      pub cut-here : CutOff kept_now synced_now taken_now bytes
      cut-here = record {
        newer = newer;
        older = older;
        told = h.told;
        rest = rest;
        read = read;
        entries = logged older;
        entries_left = batch.entries;
        logged = h.logged;
        of_all = h.entries;
        synced = again (λ s. Appends kept s (logged older)) kept_now synced_now h.synced h.logged;
        text = answered older;
        text_left = [];
        written = h.written;
        of_older = append-nil (answered older);
        restarts = restarts-here newer older h.told;
      }

      -- or in the midst of it
      pub cut-half : (kept_then synced_then taken_then : Option (List ℕ)) → IsHalfOut batch.entries batch.answers kept_now kept_then synced_now synced_then taken_now taken_then → CutOff kept_then synced_then taken_then bytes
      cut-half kept_then synced_then taken_then (inl half) =
          let count = half.0 in
          record {
            newer = newer;
            older = older;
            told = h.told;
            rest = rest;
            read = read;
            entries = logged older ++ take count batch.entries;
            entries_left = drop count batch.entries;
            logged = Appends-then kept kept_now kept_then (logged older) (take count batch.entries) h.logged half.1;
            of_all =
                append_assoc (logged older) (take count batch.entries) (drop count batch.entries)
                ∙ ap (λ text. logged older ++ text) (take-append-drop count batch.entries) ∙ h.entries;
            synced = again (λ s. Appends kept s (logged older)) kept_now synced_then (half.2 ∙ h.synced) h.logged;
            text = answered older;
            text_left = [];
            written = again (λ t. Appends taken t (answered older)) taken_now taken_then half.3 h.written;
            of_older = append-nil (answered older);
            restarts = restarts-here newer older h.told;
          }
      cut-half kept_then synced_then taken_then (inr most) =
          let count = most.2.0 in
          let kept_all = all-logged kept_then most.0 in
          record {
            newer = [];
            older = newer ++ older;
            told = h.told;
            rest = rest;
            read = read;
            entries = logged (newer ++ older);
            entries_left = [];
            logged = kept_all;
            of_all = append-nil (logged (newer ++ older));
            synced = again (λ s. Appends kept s (logged (newer ++ older))) kept_then synced_then most.1 kept_all;
            text = answered older ++ take count batch.answers;
            text_left = drop count batch.answers;
            written = Appends-then taken taken_now taken_then (answered older) (take count batch.answers) h.written most.2.1;
            of_older =
                append_assoc (answered older) (take count batch.answers) (drop count batch.answers)
                ∙ ap (λ text. answered older ++ text) (take-append-drop count batch.answers) ∙ h.answers;
            restarts = restarts-here [] (newer ++ older) h.told;
          }

  -- where all went out and the source ended, all is served
  pub all-served : (kept_now synced_now taken_now : Option (List ℕ)) (all : List (Exchange A R)) (batch : Batched S A R) → Serving kept_now synced_now taken_now [] all batch
      → (bytes rest : List ℕ) → bytes ≡ asked_text all ++ rest → HasNoFeed rest → AllServed kept_now synced_now taken_now bytes
  all-served kept_now synced_now taken_now all batch h bytes rest read torn =
      record { all = all; told = h.told; rest = rest; read = read; torn = torn; logged = h.logged; synced = h.synced; written = h.written; restarts = restarts-here [] all h.told }

-- ---- the bytes that were read

-- these lines are answered, and of the bytes behind them some are on the line that goes on
pub parts-line : (asked line front rest : List ℕ) → asked ++ (line ++ (front ++ rest)) ≡ (asked ++ (line ++ front)) ++ ([] ++ rest)
parts-line asked line front rest =
    ap (λ all. asked ++ all) (sym (append_assoc line front rest)) ∙ sym (append_assoc asked (line ++ front) rest)

pub parts-piece : (asked line unread piece : List ℕ) → (asked ++ (line ++ unread)) ++ piece ≡ asked ++ ((line ++ unread) ++ piece)
parts-piece asked line unread piece = append_assoc asked (line ++ unread) piece

-- a line has a byte at least
line-some : (line : List ℕ) → IsLine line → 0 < length line
line-some line h =
    let size = ap length h.ended ∙ length-append h.bytes (10 ∷ []) in
    omega (arith, size)

not-long : (fault : HostFault) → (fault ≡ TooLong → ⊥) → (bytes rest : List ℕ) → IsLong fault bytes rest
not-long Memory short bytes rest = tt
not-long Read short bytes rest = tt
not-long Write short bytes rest = tt
not-long TooLong short bytes rest = absurd (short refl)
not-long Log short bytes rest = tt

-- ---- one turn after another

module _ {S A R : Type 0} (reply : S → ℕ → A → R) (after : S → ℕ → A → S) (reads_ask : List ℕ → Option A → Type 0) (reads : S → List ℕ → Option (Entry A R) → Type 0) (entry_line : A → R → List ℕ) (told_line : ℕ → R → List ℕ)
    (start : Standing S A R) (kept taken given : Option (List ℕ)) where
  -- these bytes were read: lines that are answered, the front of one that goes on, and what was not looked at
  pub record IsTurning (turn : ℕ) (kept_now synced_now taken_now given_now : Option (List ℕ)) (batch : Batched S A R) (line unread : List ℕ) : Type 0 where
    pub newer : List (Exchange A R)
    pub older : List (Exchange A R)
    pub serving : IsServing reply after reads_ask reads entry_line told_line start kept kept_now synced_now taken taken_now newer older batch
    pub bytes : List ℕ
    pub read : Appends given given_now bytes
    pub parts : bytes ≡ asked_text (newer ++ older) ++ (line ++ unread)
    pub unbroken : HasNoFeed line
    pub turns : turn ≤ length (asked_text (newer ++ older)) + length bytes

  pub turning-opens : (synced : Option (List ℕ)) → synced ≡ kept → IsTurning 0 kept synced taken given (nothing_left start) [] []
  turning-opens synced same = record {
    newer = [];
    older = [];
    serving = serving-opens reply after reads_ask reads entry_line told_line start kept taken synced same;
    bytes = [];
    read = Appends-none given;
    parts = refl;
    unbroken = tt;
    turns = omega arith;
  }

  pub turn-same : (turn : ℕ) (kept_now synced_now taken_now given_now : Option (List ℕ)) (batch batch_now : Batched S A R) (line line_now unread unread_now : List ℕ) → IsTurning turn kept_now synced_now taken_now given_now batch line unread
      → batch_now ≡ batch → line_now ≡ line → unread_now ≡ unread → IsTurning turn kept_now synced_now taken_now given_now batch_now line_now unread_now
  turn-same turn kept_now synced_now taken_now given_now batch batch_now line line_now unread unread_now h b l u =
      subst (λ batch. IsTurning turn kept_now synced_now taken_now given_now batch line_now unread_now) (sym b)
      (subst (λ line. IsTurning turn kept_now synced_now taken_now given_now batch line unread_now) (sym l)
      (subst (λ unread. IsTurning turn kept_now synced_now taken_now given_now batch line unread) (sym u) h))

  -- it ended by a fault
  abbrev pub Ends : HostFault → Option (List ℕ) → Option (List ℕ) → Option (List ℕ) → Option (List ℕ) → Type 0
  Ends fault kept_then synced_then taken_then given_then =
      (bytes : List ℕ) × Appends given given_then bytes × ((cut : IsCutOff reply after reads_ask reads entry_line told_line start kept kept_then synced_then taken taken_then bytes) × IsLong fault bytes cut.rest)

  module _ (turn : ℕ) (kept_now synced_now taken_now given_now : Option (List ℕ)) (batch : Batched S A R) (line unread : List ℕ) (h : IsTurning turn kept_now synced_now taken_now given_now batch line unread) where
    pub turn-line : (count : ℕ) (told : Told A R) → IsLine (line ++ take count unread) → IsTold reply after reads_ask reads entry_line batch.standing (line ++ take count unread) told
        → IsTurning (turn + 1) kept_now synced_now taken_now given_now (with_told after entry_line told_line batch told) [] (drop count unread)
    turn-line count told whole is = record {
      newer = record { line = line ++ take count unread; told = told } ∷ h.newer;
      older = h.older;
      serving = serving-told reply after reads_ask reads entry_line told_line start kept taken kept_now synced_now taken_now h.newer h.older batch h.serving (line ++ take count unread) told whole is;
      bytes = h.bytes;
      read = h.read;
      parts =
          h.parts ∙ ap (λ all. asked_text (h.newer ++ h.older) ++ (line ++ all)) (sym (take-append-drop count unread))
          ∙ parts-line (asked_text (h.newer ++ h.older)) line (take count unread) (drop count unread);
      unbroken = tt;
      turns =
          let some = line-some (line ++ take count unread) whole in
          let more = length-append (asked_text (h.newer ++ h.older)) (line ++ take count unread) in
          omega (arith, h.turns, some, more);
    }

    pub turn-cut : (fault : HostFault) → IsLong fault h.bytes (line ++ unread) → Ends fault kept_now synced_now taken_now given_now
    unfolding cut-here
    turn-cut fault long = (h.bytes, h.read, (cut-here reply after reads_ask reads entry_line told_line start kept taken kept_now synced_now taken_now h.newer h.older batch h.serving h.bytes (line ++ unread) h.parts, long))

    -- a line without its line feed, which is longer than lines may be
    pub turn-long : HasNoFeed unread → 67108864 < length line → Ends TooLong kept_now synced_now taken_now given_now
    turn-long free long =
        let both = length-append line unread in
        turn-cut TooLong (inl (no-feed-append line unread h.unbroken free, omega (arith, long, both)))

    -- each turn ends a line or reads a byte
    pub turn-last : 2 ^ 64 ≤ turn + 1 → Ends TooLong kept_now synced_now taken_now given_now
    turn-last last =
        let size = ap length h.parts ∙ length-append (asked_text (h.newer ++ h.older)) (line ++ unread) in
        turn-cut TooLong (inr (omega (arith, h.turns, last, size)))

    pub turn-half : (fault : HostFault) → (fault ≡ TooLong → ⊥) → (kept_then synced_then taken_then : Option (List ℕ)) → IsHalfOut batch.entries batch.answers kept_now kept_then synced_now synced_then taken_now taken_then → Ends fault kept_then synced_then taken_then given_now
    turn-half fault short kept_then synced_then taken_then half =
        let cut = cut-half reply after reads_ask reads entry_line told_line start kept taken kept_now synced_now taken_now h.newer h.older batch h.serving h.bytes (line ++ unread) h.parts kept_then synced_then taken_then half in
        (h.bytes, h.read, (cut, not-long fault short h.bytes cut.rest))

    module _ (kept_then synced_then taken_then given_then : Option (List ℕ)) (more : Appends kept_now kept_then batch.entries) (same : synced_then ≡ kept_then) (said : Appends taken_now taken_then batch.answers) where
      out : IsServing reply after reads_ask reads entry_line told_line start kept kept_then synced_then taken taken_then [] (h.newer ++ h.older) (nothing_left batch.standing)
      out = serving-out reply after reads_ask reads entry_line told_line start kept taken kept_now synced_now taken_now h.newer h.older batch h.serving kept_then synced_then taken_then more same said

      -- what is kept of the line goes on with a piece
      pub turn-read : HasNoFeed unread → (piece : List ℕ) → 0 < length piece → Appends given_now given_then piece → IsTurning (turn + 1) kept_then synced_then taken_then given_then (nothing_left batch.standing) (line ++ unread) piece
      turn-read free piece some comes = record {
        newer = [];
        older = h.newer ++ h.older;
        serving = out;
        bytes = h.bytes ++ piece;
        read = Appends-then given given_now given_then h.bytes piece h.read comes;
        parts = ap (λ bytes. bytes ++ piece) h.parts ∙ parts-piece (asked_text (h.newer ++ h.older)) line unread piece;
        unbroken = no-feed-append line unread h.unbroken free;
        turns =
            let more = length-append h.bytes piece in
            omega (arith, h.turns, some, more);
      }

      -- the source failed
      pub turn-fails : Keeps given_now given_then → Ends Read kept_then synced_then taken_then given_then
      turn-fails none = (
        h.bytes,
        Appends-kept given given_now given_then h.bytes h.read none,
        (cut-here reply after reads_ask reads entry_line told_line start kept taken kept_then synced_then taken_then [] (h.newer ++ h.older) (nothing_left batch.standing) out h.bytes (line ++ unread) h.parts, tt),
      )

      -- it ended
      pub turn-ends : HasNoFeed unread → Appends given_now given_then [] → (bytes : List ℕ) × Appends given given_then bytes × IsAllServed reply after reads_ask reads entry_line told_line start kept kept_then synced_then taken taken_then bytes
      turn-ends free none = (
        h.bytes ++ [],
        Appends-then given given_now given_then h.bytes [] h.read none,
        all-served reply after reads_ask reads entry_line told_line start kept taken kept_then synced_then taken_then (h.newer ++ h.older) (nothing_left batch.standing) out (h.bytes ++ []) (line ++ unread)
            (append-nil h.bytes ∙ h.parts) (no-feed-append line unread h.unbroken free),
      )

-- behind a front of what was not looked at
pub slice-rest : (buffer : List ℕ) (at count front : ℕ) → front ≤ count - at → drop front (take (count - at) (drop at buffer)) ≡ take (count - (at + front)) (drop (at + front) buffer)
slice-rest buffer at count front few =
    let size : count - at ≡ front + (count - (at + front)) = omega (arith, few) in
    ap (λ m. drop front (take m (drop at buffer))) size
    ∙ drop-take front (count - (at + front)) (drop at buffer)
    ∙ ap (take (count - (at + front))) (drop-drop front at buffer)
