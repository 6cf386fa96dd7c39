use Rattle.std.proofs.{Common.{ap, refl, sym, ◌∙◌}, lemmas.Bool.false≢true}
use Rattle.tq_mirror.proofs.Led.{led_all, led_next, led_none, not_given}
use Rattle.tq_mirror.proofs.Standing.{desk_grows, desk_none, led_ahead, may_ask_desk}
use Rattle.tq_shape.specs.declared.part.Part.TheVariants as parts
use Rattle.tq_mirror.specs.declared.entries.Entries.TheVariants as entries
use Rattle.tq_mirror.proofs.following.follow_desk.Goals as goal

pub loop-entry-init : goal.loop-entry-init
loop-entry-init c = λ prefixes kept. led_none (desk_grows prefixes kept.legal) c.args.tables prefixes kept.stand (desk_none prefixes)

pub ask_desk-requires-clause-next : goal.ask_desk-requires-clause-next
ask_desk-requires-clause-next c =
    let may = c.requires in
    may_ask_desk may.prefixes c.args.entries.now c.loop-entry.entry-index c.loop-entry-test.true may.few c.loop-entry.ahead (c.loop-entry.invariant may.prefixes may.kept)

pub loop-entry-preserved : goal.loop-entry-preserved
loop-entry-preserved c = λ prefixes kept.
    led_next (desk_grows prefixes kept.legal) c.args.entries.now c.loop-entry.entry-index c.entry-item.result c.loop-entry-test.true c.entry-item.is c.loop-entry.ahead (c.loop-entry.invariant prefixes kept) c.ask_desk.new.self
    (sym (ap (λ r. r.told) c.in_ok-replies.ensures.replies) ∙ c.if-not-is_same.ensures.0 refl)
    c.in_ok-replies.ensures.asked

pub returns-then-not-is_same : goal.returns-then-not-is_same
returns-then-not-is_same c = λ prefixes kept gives.
    not_given (desk_grows prefixes kept.legal) c.args.entries.now c.loop-entry.entry-index c.entry-item.result c.loop-entry-test.true c.entry-item.is c.loop-entry.ahead (c.loop-entry.invariant prefixes kept)
    (λ same. false≢true (c.if-not-is_same.ensures.1 (ap (λ r. r.told) c.in_ok-replies.ensures.replies ∙ same))) gives

pub returns : goal.returns
returns c = λ prefixes kept.
    let led = led_all (desk_grows prefixes kept.legal) c.loop-entry.ahead c.args.entries.now c.loop-entry.entry-index c.loop-entry-test.false (c.loop-entry.invariant prefixes kept) in
    led_ahead c.loop-entry.ahead prefixes parts.Desk (entries.Desk c.args.entries.now) led.gives led.stand
