use Rattle.std.proofs.{Common.{◌≡◌, ◌∙◌, ◌+◌, ◌-◌, [], length, take, drop, arith}, lemmas.Bool.eqb-true}
use Rattle.std.proofs.lemmas.List.{take_all, length-drop}
use Rattle.tq_shell.proofs.Pieces.{no-feed, line-parts, receiving-whole, receiving-all-text, receiving-all-after, receiving-all-taken, receiving-on, receiving-full-text, receiving-full-after, receiving-full-taken, text-cut}
use Rattle.tq_shell.specs.Stream.{ended_answer}
use Rattle.tq_shell.proofs.receiver.Receiver.receive.Goals as goal

pub overflow_add-left : goal.overflow_add-left
overflow_add-left c = omega (arith, c.in-Some.ensures.0.high, c.loop-place.invariant.within)

pub loop-place-preserved : goal.loop-place-preserved
loop-place-preserved c =
    let left = c.loop-place.left.now in
    let place = c.in-Some.place in
    let found = c.in-Some.ensures in
    let size = length-drop (place + 1) left in
    let rest : take (length left - (place + 1)) (drop (place + 1) left) ≡ drop (place + 1) left = take_all _ (drop (place + 1) left) (omega (arith, size)) in
    let after : c.end_line.new.self ≡ record { world = (ended_answer c.loop-place.self (take place left)).after; line = [] } = c.in_default-end_line.ensures.after in
    rw (after, rest) record {
      few = omega arith;
      within = omega (arith, size, c.loop-place.invariant.within);
      going = receiving-on _ _ _ c.loop-place.self c.loop-place.text.items left c.loop-place.invariant.going c.loop-place.invariant.few
          (take place left) (drop (place + 1) left) (line-parts left place found.0.high (eqb-true _ _ found.1)) (no-feed left place found.0.before)
          _ c.in_default-end_line.ensures.text (omega (arith, c.if-len-ge-FLUSH_AT.false, c.len.ensures));
    }

pub returns-then-len-ge-FLUSH_AT-clause-taken : goal.returns-then-len-ge-FLUSH_AT-clause-taken
returns-then-len-ge-FLUSH_AT-clause-taken c =
    let left = c.loop-place.left.now in
    let place = c.in-Some.place in
    let found = c.in-Some.ensures in
    let size = length-drop (place + 1) left in
    let rest : take (length left - (place + 1)) (drop (place + 1) left) ≡ drop (place + 1) left = take_all _ (drop (place + 1) left) (omega (arith, size)) in
    rw rest (receiving-full-taken _ _ _ c.loop-place.self c.loop-place.text.items left c.loop-place.invariant.going c.loop-place.invariant.few
    (take place left) (drop (place + 1) left) (line-parts left place found.0.high (eqb-true _ _ found.1)) (no-feed left place found.0.before)
    _ c.in_default-end_line.ensures.text (omega (arith, c.if-len-ge-FLUSH_AT.true, c.len.ensures)))

pub returns-then-len-ge-FLUSH_AT-clause-text : goal.returns-then-len-ge-FLUSH_AT-clause-text
returns-then-len-ge-FLUSH_AT-clause-text c =
    let left = c.loop-place.left.now in
    let place = c.in-Some.place in
    let found = c.in-Some.ensures in
    let size = length-drop (place + 1) left in
    let rest : take (length left - (place + 1)) (drop (place + 1) left) ≡ drop (place + 1) left = take_all _ (drop (place + 1) left) (omega (arith, size)) in
    rw rest (receiving-full-text _ _ _ c.loop-place.self c.loop-place.text.items left c.loop-place.invariant.going c.loop-place.invariant.few
    (take place left) (drop (place + 1) left) (line-parts left place found.0.high (eqb-true _ _ found.1)) (no-feed left place found.0.before)
    _ c.in_default-end_line.ensures.text)

pub returns-then-len-ge-FLUSH_AT-clause-after : goal.returns-then-len-ge-FLUSH_AT-clause-after
returns-then-len-ge-FLUSH_AT-clause-after c =
    let left = c.loop-place.left.now in
    let place = c.in-Some.place in
    let found = c.in-Some.ensures in
    let size = length-drop (place + 1) left in
    let rest : take (length left - (place + 1)) (drop (place + 1) left) ≡ drop (place + 1) left = take_all _ (drop (place + 1) left) (omega (arith, size)) in
    rw rest (c.in_default-end_line.ensures.after ∙ receiving-full-after _ _ _ c.loop-place.self c.loop-place.text.items left c.loop-place.invariant.going c.loop-place.invariant.few
    (take place left) (drop (place + 1) left) (line-parts left place found.0.high (eqb-true _ _ found.1)) (no-feed left place found.0.before)
    _ c.in_default-end_line.ensures.text)

pub returns-then-len-ge-FLUSH_AT-clause-whole : goal.returns-then-len-ge-FLUSH_AT-clause-whole
returns-then-len-ge-FLUSH_AT-clause-whole c =
    let left = c.loop-place.left.now in
    let place = c.in-Some.place in
    let found = c.in-Some.ensures in (
      _,
      receiving-full-text _ _ _ c.loop-place.self c.loop-place.text.items left c.loop-place.invariant.going c.loop-place.invariant.few
          (take place left) (drop (place + 1) left) (line-parts left place found.0.high (eqb-true _ _ found.1)) (no-feed left place found.0.before)
          _ c.in_default-end_line.ensures.text,
    )

pub returns-in-Err-clause-whole : goal.returns-in-Err-clause-whole
returns-in-Err-clause-whole c =
    let whole = receiving-whole _ _ _ c.loop-place.self c.loop-place.text.items c.loop-place.left.now c.loop-place.invariant.going in
    let cut = text-cut c.loop-place.text.items c.end_line.new.text.items c.truncate.new.self.items c.len-whole.result (c.len-whole.ensures ∙ c.loop-place.text.ok.0) c.in-Err.ensures.kept c.truncate.ensures.items in
    (whole.0, cut ∙ whole.1)

pub returns-in_err-keep-clause-whole : goal.returns-in_err-keep-clause-whole
returns-in_err-keep-clause-whole c = receiving-whole _ _ _ c.loop-place.self c.loop-place.text.items c.loop-place.left.now c.loop-place.invariant.going

pub returns-clause-taken : goal.returns-clause-taken
returns-clause-taken c =
    receiving-all-taken _ _ _ c.loop-place.self c.loop-place.text.items c.loop-place.left.now c.loop-place.invariant.going c.loop-place.invariant.few c.in_default.ensures

pub returns-clause-text : goal.returns-clause-text
returns-clause-text c =
    receiving-all-text _ _ _ c.loop-place.self c.loop-place.text.items c.loop-place.left.now c.loop-place.invariant.going c.loop-place.invariant.few c.in_default.ensures

pub returns-clause-after : goal.returns-clause-after
returns-clause-after c =
    c.in_ok-keep.ensures ∙ receiving-all-after _ _ _ c.loop-place.self c.loop-place.text.items c.loop-place.left.now c.loop-place.invariant.going c.loop-place.invariant.few c.in_default.ensures

pub returns-clause-whole : goal.returns-clause-whole
returns-clause-whole c = (
  _,
  receiving-all-text _ _ _ c.loop-place.self c.loop-place.text.items c.loop-place.left.now c.loop-place.invariant.going c.loop-place.invariant.few c.in_default.ensures,
)
