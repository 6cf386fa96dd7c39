use Rattle.std.proofs.{Common.{ap, refl, sym, ◌∙◌}, lemmas.Bool.false≢true}
use Rattle.tq_tables.specs.Reserved.{unready}
use Rattle.tq_mirror.proofs.{Led.{led_all, led_next, led_none, not_given}, Standing.{led_ahead, view_grows, view_none}}
use Rattle.tq_shape.specs.declared.part.Part.TheVariants as parts
use Rattle.tq_mirror.specs.declared.entries.Entries.TheVariants as entries
use Rattle.tq_mirror.proofs.following.follow_view.Goals as goal

pub loop-entry-init : goal.loop-entry-init
loop-entry-init c = λ prefixes kept. led_none (view_grows prefixes kept.legal) c.args.tables prefixes kept.stand (view_none prefixes)

pub loop-entry-preserved : goal.loop-entry-preserved
loop-entry-preserved c = λ prefixes kept.
    led_next (view_grows prefixes kept.legal) c.args.entries.now c.loop-entry.entry-index c.entry-item.result c.loop-entry-test.true c.entry-item.is c.loop-entry.ahead (c.loop-entry.invariant prefixes kept) c.ask_view.new.self
    (sym (ap (λ r. r.told) c.in_ok-replies.ensures.replies) ∙ c.if-not-is_same.ensures.0 refl)
    (λ journals reply legal stand. c.in_ok-replies.ensures.asked journals reply legal (ap unready stand))

pub returns-then-not-is_same : goal.returns-then-not-is_same
returns-then-not-is_same c = λ prefixes kept gives.
    not_given (view_grows prefixes kept.legal) c.args.entries.now c.loop-entry.entry-index c.entry-item.result c.loop-entry-test.true c.entry-item.is c.loop-entry.ahead (c.loop-entry.invariant prefixes kept)
    (λ same. false≢true (c.if-not-is_same.ensures.1 (ap (λ r. r.told) c.in_ok-replies.ensures.replies ∙ same))) gives

pub returns : goal.returns
returns c = λ prefixes kept.
    let led = led_all (view_grows prefixes kept.legal) c.loop-entry.ahead c.args.entries.now c.loop-entry.entry-index c.loop-entry-test.false (c.loop-entry.invariant prefixes kept) in
    led_ahead c.loop-entry.ahead prefixes parts.View (entries.View c.args.entries.now) led.gives led.stand
