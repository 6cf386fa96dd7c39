-- What is put behind a text, piece after piece. A list of values of what a function gives. Text that goes to a sink as
-- it comes, step by step.
use Rattle.std.proofs.Common.{◌≡◌, ℕ, List, [], ◌∷◌, ◌++◌, Result, Ok, Err, ap, sym, subst, append_assoc, map, refl, Bool, true, false, true≢false, Option, length, take, drop, ◌∙◌, arith}
use Rattle.std.proofs.{lemmas.List.{append-nil, take-append-drop}, Math.Seq.take-append_seam}
use Rattle.std.specs.{List.AllByRecursion, Prelude.is_err, Io.KnownBytes.Appends}
use Rattle.json.specs.Print.{escape, quoted}
use Rattle.tq_board.specs.Lines.{in_quotes, Added, Adds, Spill, IsSpilled, Settles, Spills, Ends, IsWrittenOut}
use Rattle.tq_board.specs.Values.{value_items}
use Rattle.serde_json.specs.Data.{Data, item}
use Rattle.tq_devices.{specs.{Devices.IsWritten, declared.fault.RunFault.RunFault}, proofs.Written.Appends-then}
use Rattle.tq_devices.specs.declared.fault.RunFault.TheVariants.{Memory, Read, Write, TooLong}

-- what is put first, and then more
pub added : {O : Type 0} {Puts : O → O → List ℕ → Type 0} {old mid new : O} {some more : List ℕ} → Added Puts old mid some → Added Puts mid new more → Added Puts old new (some ++ more)
added {O} {Puts} {old} {mid} {new} {some} {more} first then =
    record { after = λ start before h. subst (λ text. Puts start new text) (append_assoc before some more) (then.after start (before ++ some) (first.after start before h)) }

-- the same where it may be that no more was put
pub behind : {O E : Type 0} {Puts : O → O → List ℕ → Type 0} {old mid : O} {some : List ℕ} (result : Result (Unit {0}) E) (new : O) (more : List ℕ) → Added Puts old mid some → Adds Puts result mid new more → Adds Puts result old new (some ++ more)
behind (Ok u) new more first then = added first then
behind (Err e) new more first then = tt

-- a text that needs no escape stands as it is between quotes
pub as-quoted : (text : List ℕ) → escape text ≡ text → in_quotes text ≡ quoted text
as-quoted text plain = ap (λ same. 34 ∷ (same ++ 34 ∷ [])) (sym plain)

-- ---- fused

pub value_items-map : {A B : Type 0} (value : B → Data) (f : A → B) (xs : List A) → value_items (λ x. value (f x)) xs ≡ value_items value (map f xs)
value_items-map value f [] = refl
value_items-map value f (x ∷ xs) = ap (item (value (f x))) (value_items-map value f xs)

pub all-map : {A B : Type 0} (P : B → Type 0) (f : A → B) (xs : List A) → AllByRecursion (λ x. P (f x)) xs → AllByRecursion P (map f xs)
all-map P f [] h = tt
all-map P f (x ∷ xs) h = (h.0, all-map P f xs h.1)

-- ---- gathered

-- what the room keeps is written, or a front of it and the sink failed
pub passed : (result : Result (Unit {0}) RunFault) (taken taken_now : Option (List ℕ)) (failures failures_now : ℕ) (room : List ℕ) → IsWritten result room taken taken_now failures failures_now
    → Settles (record { taken = taken; failures = failures; has_failed = false; room = room }) (record { taken = taken_now; failures = failures_now; has_failed = is_err result; room = [] })
passed (Ok u) taken taken_now failures failures_now room written = record {
  after = λ first count text h. record {
    front = h.front ++ room;
    rest = [];
    whole = append-nil (h.front ++ room) ∙ ap (λ rest. h.front ++ rest) (sym (h.kept refl)) ∙ h.whole;
    written = Appends-then first taken taken_now h.front room h.written written.0;
    kept = λ e. refl;
    few = h.few;
    counted = written.1 ∙ h.counted;
  };
}
passed (Err Write) taken taken_now failures failures_now room written = record {
  after = λ first count text h. record {
    front = h.front ++ take written.0 room;
    rest = drop written.0 room;
    whole = append_assoc h.front (take written.0 room) (drop written.0 room) ∙ ap (λ rest. h.front ++ rest) (take-append-drop written.0 room ∙ sym (h.kept refl)) ∙ h.whole;
    written = Appends-then first taken taken_now h.front (take written.0 room) h.written written.1;
    kept = λ e. absurd (true≢false e);
    few = h.few;
    counted = omega (arith, written.2, h.counted);
  };
}
passed (Err Memory) taken taken_now failures failures_now room written = absurd written
passed (Err Read) taken taken_now failures failures_now room written = absurd written
passed (Err TooLong) taken taken_now failures failures_now room written = absurd written

-- bytes are put behind what the room keeps
pub behind-room : (taken : Option (List ℕ)) (failures : ℕ) (has_failed : Bool) (room room_now bytes : List ℕ) → room_now ≡ room ++ bytes
    → Spills (record { taken = taken; failures = failures; has_failed = has_failed; room = room }) (record { taken = taken; failures = failures; has_failed = has_failed; room = room_now }) bytes
behind-room taken failures has_failed room room_now bytes is = record {
  after = λ first count text h. record {
    front = h.front;
    rest = h.rest ++ bytes;
    whole = sym (append_assoc h.front h.rest bytes) ∙ ap (λ all. all ++ bytes) h.whole;
    written = h.written;
    kept = λ e. ap (λ rest. rest ++ bytes) (h.kept e) ∙ sym is;
    few = h.few;
    counted = h.counted;
  };
}

-- one step after another
pub settle-then-spill : (old mid new : Spill) (bytes : List ℕ) → Settles old mid → Spills mid new bytes → Spills old new bytes
settle-then-spill old mid new bytes first then = record { after = λ taken failures text h. then.after taken failures text (first.after taken failures text h) }

pub spill-then-spill : (old mid new : Spill) (first_bytes bytes : List ℕ) → Spills old mid first_bytes → Spills mid new bytes → Spills old new (first_bytes ++ bytes)
spill-then-spill old mid new first_bytes bytes first then = record {
  after = λ taken failures text h.
      subst (λ all. IsSpilled taken failures new all) (append_assoc text first_bytes bytes) (then.after taken failures (text ++ first_bytes) (first.after taken failures text h));
}

pub spill-then-settle : (old mid new : Spill) (bytes : List ℕ) → Spills old mid bytes → Settles mid new → Spills old new bytes
spill-then-settle old mid new bytes first then = record { after = λ taken failures text h. then.after taken failures (text ++ bytes) (first.after taken failures text h) }

-- the room is written out and the sink has not failed, or it has
pub ends-whole : (old new : Spill) → Settles old new → new.has_failed ≡ false → new.room ≡ [] → Ends (Ok tt) old new.taken new.failures
ends-whole old new settles sound empty = record {
  written = λ taken failures text h.
      let now = settles.after taken failures text h in
      let whole : now.front ≡ text = sym (append-nil now.front) ∙ ap (λ rest. now.front ++ rest) (sym (now.kept sound ∙ empty)) ∙ now.whole in
      (subst (λ all. Appends taken new.taken all) whole now.written, now.counted ∙ rw sound (omega arith));
}

pub ends-cut : (old new : Spill) → Settles old new → new.has_failed ≡ true → Ends (Err Write) old new.taken new.failures
ends-cut old new settles failed = record {
  written = λ taken failures text h.
      let now = settles.after taken failures text h in
      let front : take (length now.front) text ≡ now.front = ap (take (length now.front)) (sym now.whole) ∙ take-append_seam now.front now.rest in
      (length now.front, subst (λ all. Appends taken new.taken all) (sym front) now.written, rw failed at now.counted);
}

-- where memory is not refused
pub written-out : (result : Result (Unit {0}) RunFault) (text : List ℕ) (taken taken_now : Option (List ℕ)) (failures failures_now : ℕ) → IsWritten result text taken taken_now failures failures_now → IsWrittenOut result text taken taken_now failures failures_now
written-out (Ok u) text taken taken_now failures failures_now written = written
written-out (Err Write) text taken taken_now failures failures_now written = written
written-out (Err Memory) text taken taken_now failures failures_now written = absurd written
written-out (Err Read) text taken taken_now failures failures_now written = absurd written
written-out (Err TooLong) text taken taken_now failures failures_now written = absurd written
