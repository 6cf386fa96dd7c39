use Rattle.std.proofs.{Common.{◌+◌, drop, inr, take, refl, sym}, lemmas.Bool.eqb-true, lemmas.List.take-append-drop}
use Rattle.tq_host.proofs.LineLaws.{feed-ends, no-feed-at-all, no-feed-behind}
use Rattle.tq_host.proofs.replaying.whole_lines.Goals as goal

pub returns-in-Some-clause-begins : goal.returns-in-Some-clause-begins
returns-in-Some-clause-begins c =
    let bytes = c.args.bytes.now in
    let place = c.in-Some.place in
    record { rest = drop (place + 1) bytes; parts = sym (take-append-drop (place + 1) bytes); torn = no-feed-behind bytes (place + 1) c.in-Some.ensures.0.after }

pub returns-in-Some-clause-whole : goal.returns-in-Some-clause-whole
returns-in-Some-clause-whole c =
    let bytes = c.args.bytes.now in
    let place = c.in-Some.place in
    inr (take place bytes, feed-ends bytes place c.in-Some.ensures.0.high (eqb-true _ _ c.in-Some.ensures.1))

pub returns-in-None-clause-begins : goal.returns-in-None-clause-begins
returns-in-None-clause-begins c = record { rest = c.args.bytes.now; parts = refl; torn = no-feed-at-all c.args.bytes.now c.in-None.ensures }
