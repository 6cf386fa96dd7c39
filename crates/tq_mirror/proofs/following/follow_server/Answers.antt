use Rattle.std.proofs.{Common.{◌+◌, ap, arith, length-take-le, refl, sym, take, ◌∙◌}, lemmas.Bool.false≢true}
use Rattle.tq_mirror.proofs.Led.{led_all, led_next, led_none, not_given}
use Rattle.tq_mirror.proofs.Standing.{led_ahead, may_ask, server_grows, server_none}
use Rattle.tq_shape.specs.declared.part.Part.TheVariants as parts
use Rattle.tq_mirror.specs.declared.entries.Entries.TheVariants as entries
use Rattle.tq_mirror.proofs.following.follow_server.Goals as goal

pub loop-entry-init : goal.loop-entry-init
loop-entry-init c = record {
  led = λ prefixes kept there known. led_none (server_grows prefixes kept.one_each c.args.number there kept.legal) c.args.tables prefixes kept.stand (server_none prefixes c.args.number);
  number = omega arith;
}

pub ask_node-requires : goal.ask_node-requires
ask_node-requires c =
    let may = c.requires in
    let count = length-take-le c.loop-entry.entry-index c.args.entries.now (let less = c.loop-entry-test.true in omega (arith, less)) in
    let number = c.loop-entry.invariant.number in
    let known = may.count in
    may_ask may.prefixes may.kept.one_each c.args.number may.there (take c.loop-entry.entry-index c.args.entries.now) c.loop-entry.ahead (c.loop-entry.next + 1)
    (c.loop-entry.invariant.led may.prefixes may.kept may.there may.count).stand
    (omega (arith, count, number, known))

pub loop-entry-preserved : goal.loop-entry-preserved
loop-entry-preserved c = record {
  led = λ prefixes kept there known.
      led_next (server_grows prefixes kept.one_each c.args.number there kept.legal) c.args.entries.now c.loop-entry.entry-index c.entry-item.result c.loop-entry-test.true c.entry-item.is c.loop-entry.ahead (c.loop-entry.invariant.led prefixes kept there known) c.ask_node.new.self
      (sym (ap (λ r. r.told) c.in_ok-replies.ensures.replies) ∙ c.if-not-is_same.ensures.0 refl)
      c.in_ok-replies.ensures.asked;
  number = let number = c.loop-entry.invariant.number in omega (arith, number);
}

pub returns-then-not-is_same : goal.returns-then-not-is_same
returns-then-not-is_same c = λ prefixes kept there known gives.
    not_given (server_grows prefixes kept.one_each c.args.number there kept.legal) c.args.entries.now c.loop-entry.entry-index c.entry-item.result c.loop-entry-test.true c.entry-item.is c.loop-entry.ahead (c.loop-entry.invariant.led prefixes kept there known)
    (λ same. false≢true (c.if-not-is_same.ensures.1 (ap (λ r. r.told) c.in_ok-replies.ensures.replies ∙ same))) gives

pub returns : goal.returns
returns c = λ prefixes kept there known.
    let led = led_all (server_grows prefixes kept.one_each c.args.number there kept.legal) c.loop-entry.ahead c.args.entries.now c.loop-entry.entry-index c.loop-entry-test.false (c.loop-entry.invariant.led prefixes kept there known) in
    led_ahead c.loop-entry.ahead prefixes (parts.Server c.args.number) (entries.Server c.args.entries.now) led.gives led.stand
