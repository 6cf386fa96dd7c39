-- Lines in bytes, and that bytes have their lines in one way alone. Lines lead to one part alone. A line that was not
-- written whole.
use Rattle.std.proofs.Common.{◌≡◌, ℕ, zero, suc, ◌+◌, ◌<◌, ◌≤◌, ◌==◌, cond, List, [], ◌∷◌, ◌++◌, length, take, drop, slice_index, refl, sym, ap, subst, ◌∙◌, arith, append_assoc, drop-cons, Option, Some, Err}
use Rattle.std.{proofs.lemmas.{List.{append-nil, take_all, take-append-drop}, Bool.ne_eqb}, specs.Option.unwrap_or}
use Rattle.std.proofs.Math.Seq.{take-add, take-append_seam}
use Rattle.memchr.specs.Find.{Nowhere, Passes, is_byte}
use Rattle.tq_board.proofs.ReadBack.{no-feed-append}
use Rattle.tq_host.specs.Lines.{BeginsWith, HasNoFeed, IsLine, AreLines, text_of, Enters, AreEntered, IsLogOf, StopsAt}
use Rattle.tq_host.specs.Hosted.{IsFront}
use Rattle.tq_shape.specs.{declared.part.Entry.Entry, Agrees.{Standing, next_number, state_after_entry}}
use Rattle.tq_devices.specs.{Devices.IsWritten, declared.fault.RunFault.RunFault}
use Rattle.tq_devices.specs.declared.fault.RunFault.TheVariants.{Memory, Read, Write, TooLong}

pub no-feed : (bytes : List ℕ) (place : ℕ) → Nowhere (Passes (is_byte 10) bytes) 0 place → HasNoFeed (take place bytes)
no-feed bytes zero none = tt
no-feed [] (suc place) none = tt
no-feed (byte ∷ bytes) (suc place) none =
    (λ is. none 0 (omega arith) (omega arith) (ap (λ found. found == 10) is), no-feed bytes place (λ k low less. none (suc k) (omega arith) (omega (arith, less))))

pub no-feed-at-all : (bytes : List ℕ) → Nowhere (Passes (is_byte 10) bytes) 0 (length bytes) → HasNoFeed bytes
no-feed-at-all bytes none = subst HasNoFeed (take_all (length bytes) bytes (omega arith)) (no-feed bytes (length bytes) none)

pub no-feed-behind : (bytes : List ℕ) (from : ℕ) → Nowhere (Passes (is_byte 10) bytes) from (length bytes) → HasNoFeed (drop from bytes)
no-feed-behind bytes zero none = no-feed-at-all bytes none
no-feed-behind [] (suc from) none = tt
no-feed-behind (byte ∷ bytes) (suc from) none = no-feed-behind bytes from (λ k low less. none (suc k) (omega (arith, low)) (omega (arith, less)))

pub take-few : (count : ℕ) (bytes : List ℕ) → length (take count bytes) ≤ count
take-few zero bytes = omega arith
take-few (suc count) [] = omega arith
take-few (suc count) (byte ∷ bytes) = let few = take-few count bytes in omega (arith, few)

-- the whole lines that a text begins with are a front of it
pub front-is : (text lines : List ℕ) → BeginsWith text lines → take (length lines) text ≡ lines
front-is text lines h = ap (take (length lines)) h.parts ∙ take-append_seam lines h.rest

-- up to a line feed
pub feed-ends : (bytes : List ℕ) (place : ℕ) → place < length bytes → slice_index bytes place ≡ 10 → take (place + 1) bytes ≡ take place bytes ++ 10 ∷ []
feed-ends bytes place less is =
    take-add place 1 bytes ∙ ap (λ rest. take place bytes ++ take 1 rest) (drop-cons bytes place 0 less ∙ ap (λ byte. byte ∷ drop (suc place) bytes) is)

-- the bytes up to the first line feed are a line, also behind bytes without one
pub line-found : (line left : List ℕ) (place : ℕ) → HasNoFeed line → place < length left → slice_index left place ≡ 10 → Nowhere (Passes (is_byte 10) left) 0 place → IsLine (line ++ take (place + 1) left)
line-found line left place unbroken less is none =
    record {
      bytes = line ++ take place left;
      unbroken = no-feed-append line (take place left) unbroken (no-feed left place none);
      ended = ap (λ more. line ++ more) (feed-ends left place less is) ∙ sym (append_assoc line (take place left) (10 ∷ []));
    }

-- ---- the lines of bytes, by a look at one after another

record Found : Type 0 where
  done : List (List ℕ)
  line : List ℕ

abbrev found : List (List ℕ) → List ℕ → Found
found done line = record { done = done; line = line }

abbrev look : Found → ℕ → Found
look now byte = cond (byte == 10) (found ((now.line ++ byte ∷ []) ∷ now.done) []) (found now.done (now.line ++ byte ∷ []))

abbrev look_on : Found → List ℕ → Found
look_on now [] = now
look_on now (byte ∷ bytes) = look_on (look now byte) bytes

look-append : (now : Found) (xs ys : List ℕ) → look_on now (xs ++ ys) ≡ look_on (look_on now xs) ys
look-append now [] ys = refl
look-append now (x ∷ xs) ys = look-append (look now x) xs ys

look-other : (done : List (List ℕ)) (line : List ℕ) (byte : ℕ) → (byte ≡ 10 → ⊥) → look (found done line) byte ≡ found done (line ++ byte ∷ [])
look-other done line byte other = ap (λ b. cond b (found ((line ++ byte ∷ []) ∷ done) []) (found done (line ++ byte ∷ []))) (ne_eqb byte 10 other)

look-unbroken : (done : List (List ℕ)) (line bytes : List ℕ) → HasNoFeed bytes → look_on (found done line) bytes ≡ found done (line ++ bytes)
look-unbroken done line [] h = ap (found done) (sym (append-nil line))
look-unbroken done line (byte ∷ bytes) h =
    ap (λ now. look_on now bytes) (look-other done line byte h.0)
    ∙ look-unbroken done (line ++ byte ∷ []) bytes h.1
    ∙ ap (found done) (append_assoc line (byte ∷ []) bytes)

look-line : (done : List (List ℕ)) (line : List ℕ) → IsLine line → look_on (found done []) line ≡ found (line ∷ done) []
look-line done line h =
    ap (look_on (found done [])) h.ended
    ∙ look-append (found done []) h.bytes (10 ∷ [])
    ∙ ap (λ now. look_on now (10 ∷ [])) (look-unbroken done [] h.bytes h.unbroken)
    ∙ ap (λ more. found (more ∷ done) []) (sym h.ended)

look-lines : (lines : List (List ℕ)) → AreLines lines → look_on (found [] []) (text_of lines) ≡ found lines []
look-lines [] h = refl
look-lines (line ∷ earlier) h =
    look-append (found [] []) (text_of earlier) line
    ∙ ap (λ now. look_on now line) (look-lines earlier h.1)
    ∙ look-line earlier line h.0

look-all : (lines : List (List ℕ)) (rest : List ℕ) → AreLines lines → HasNoFeed rest → look_on (found [] []) (text_of lines ++ rest) ≡ found lines rest
look-all lines rest h torn =
    look-append (found [] []) (text_of lines) rest
    ∙ ap (λ now. look_on now rest) (look-lines lines h)
    ∙ look-unbroken lines [] rest torn

-- the lines that a text begins with are the only ones
pub lines-once : (lines others : List (List ℕ)) (rest behind : List ℕ) → AreLines lines → AreLines others → HasNoFeed rest → HasNoFeed behind → text_of lines ++ rest ≡ text_of others ++ behind → lines ≡ others
lines-once lines others rest behind h g torn cut same =
    ap (λ (now : Found). now.done) (sym (look-all lines rest h torn) ∙ ap (look_on (found [] [])) same ∙ look-all others behind g cut)

-- ---- replay laws

-- so far these lines of the text led here, and this is left
pub record IsReplaying {S A R : Type 0} (reply : S → ℕ → A → R) (after : S → ℕ → A → S) (reads : S → List ℕ → Option (Entry A R) → Type 0) (start : Standing S A R) (text : List ℕ) (now : Standing S A R) (left : List ℕ) : Type 0 where
  pub lines : List (List ℕ)
  pub parts : text ≡ text_of lines ++ left
  pub whole : AreLines lines
  pub entered : AreEntered reply after reads start lines now

module _ {S A R : Type 0} (reply : S → ℕ → A → R) (after : S → ℕ → A → S) (reads : S → List ℕ → Option (Entry A R) → Type 0) where
  pub enters-limit : (before : Standing S A R) (line : List ℕ) (next : Standing S A R) → Enters reply after reads before line next → next.limit ≡ before.limit
  enters-limit before line next h = ap (λ (s : Standing S A R). s.limit) h.goes_on

  more-parts : (before left : List ℕ) (count : ℕ) → before ++ left ≡ (before ++ take count left) ++ drop count left
  more-parts before left count =
      ap (λ all. before ++ all) (sym (take-append-drop count left)) ∙ sym (append_assoc before (take count left) (drop count left))

  pub replaying-on : (start : Standing S A R) (text : List ℕ) (now next : Standing S A R) (left : List ℕ) (count : ℕ) → IsReplaying reply after reads start text now left
      → IsLine (take count left) → Enters reply after reads now (take count left) next → IsReplaying reply after reads start text next (drop count left)
  replaying-on start text now next left count h whole enters = record {
    lines = take count left ∷ h.lines;
    parts = h.parts ∙ more-parts (text_of h.lines) left count;
    whole = (whole, h.whole);
    entered = (now, h.entered, enters);
  }

  pub stops-here : (start : Standing S A R) (text : List ℕ) (now : Standing S A R) (left : List ℕ) (count : ℕ) → IsReplaying reply after reads start text now left
      → IsLine (take count left) → StopsAt reply after reads start text now (take count left)
  stops-here start text now left count h whole = record {
    earlier = text_of h.lines;
    leads = record { lines = h.lines; is = refl; whole = h.whole; entered = h.entered };
    whole = whole;
    rest = drop count left;
    parts = h.parts ∙ ap (λ all. text_of h.lines ++ all) (sym (take-append-drop count left));
  }

  pub leads-here : (start : Standing S A R) (text : List ℕ) (now : Standing S A R) (left : List ℕ) → IsReplaying reply after reads start text now left → HasNoFeed left
      → (lines : List ℕ) × BeginsWith text lines × IsLogOf reply after reads start lines now
  leads-here start text now left h torn =
      (text_of h.lines, record { rest = left; parts = h.parts; torn = torn }, record { lines = h.lines; is = refl; whole = h.whole; entered = h.entered })

  module _ (once : (s : S) (line : List ℕ) (x y : Option (Entry A R)) → reads s line x → reads s line y → x ≡ y) where
    enters-once : (before : Standing S A R) (line : List ℕ) (a b : Standing S A R) → Enters reply after reads before line a → Enters reply after reads before line b → a ≡ b
    enters-once before line a b p q =
        let same : p.entry ≡ q.entry = ap (λ o. unwrap_or o p.entry) (once before.part line (Some p.entry) (Some q.entry) p.read q.read) in
        p.goes_on ∙ ap (λ (e : Entry A R). state_after_entry after before (next_number before) e.ask e.reply) same ∙ sym q.goes_on

    entered-once : (start : Standing S A R) (lines : List (List ℕ)) (a b : Standing S A R) → AreEntered reply after reads start lines a → AreEntered reply after reads start lines b → a ≡ b
    entered-once start [] a b p q = p ∙ sym q
    entered-once start (line ∷ earlier) a b p q =
        let same : q.0 ≡ p.0 = entered-once start earlier q.0 p.0 q.1 p.1 in
        enters-once p.0 line a b p.2 (subst (λ before. Enters reply after reads before line b) same q.2)

    pub log-once : (start : Standing S A R) (text here there : List ℕ) (a b : Standing S A R) → BeginsWith text here → IsLogOf reply after reads start here a → BeginsWith text there → IsLogOf reply after reads start there b → a ≡ b
    log-once start text here there a b p logs q others =
        let same : text_of logs.lines ++ p.rest ≡ text_of others.lines ++ q.rest =
        ap (λ lines. lines ++ p.rest) (sym logs.is) ∙ sym p.parts ∙ q.parts ∙ ap (λ lines. lines ++ q.rest) others.is in
        let lines = lines-once logs.lines others.lines p.rest q.rest logs.whole others.whole p.torn q.torn same in
        entered-once start others.lines a b (subst (λ lines. AreEntered reply after reads start lines a) lines logs.entered) others.entered

-- ---- host laws

pub front-of : (T : Type 0) (fault : RunFault) (bytes : List ℕ) (taken now : Option (List ℕ)) (failed failed_now : ℕ) → IsWritten {T = T} (Err fault) bytes taken now failed failed_now → IsFront bytes taken now
front-of T Memory bytes taken now failed failed_now h = absurd h
front-of T Read bytes taken now failed failed_now h = absurd h
front-of T Write bytes taken now failed failed_now h = record { front = take h.0 bytes; rest = drop h.0 bytes; whole = take-append-drop h.0 bytes; written = h.1 }
front-of T TooLong bytes taken now failed failed_now h = absurd h
