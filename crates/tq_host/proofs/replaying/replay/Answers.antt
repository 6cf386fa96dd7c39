use Rattle.std.proofs.{Common.{◌+◌, [], length, take, refl, ◌∙◌, arith, rules}, lemmas.Bool.eqb-true}
use Rattle.std.proofs.lemmas.List.{take_rest, length-drop}
use Rattle.memchr.specs.Find.{Nowhere, Passes, is_byte}
use Rattle.tq_shape.specs.Agrees.{standing_part}
use Rattle.tq_host.specs.Lines.{IsLine, Enters}
use Rattle.tq_host.proofs.LineLaws.{line-found, no-feed-at-all, replaying-on, stops-here, leads-here, log-once, enters-limit}
use Rattle.tq_host.proofs.replaying.replay.Goals as goal

pub loop-place-init : goal.loop-place-init
loop-place-init g c = rw c.new-now.ensures (record { going = record { lines = []; parts = refl; whole = tt; entered = refl }; limit = refl })

pub loop-place-preserved : goal.loop-place-preserved
loop-place-preserved g c =
    let left = c.loop-place.left.now in
    let place = c.in-Some.place in
    let found = c.in-Some.ensures in
    let line = take (place + 1) left in
    let now = c.loop-place.now in
    let next = c.enter_line.new.part in
    let reply = g.P.Answers.reply in
    let after = g.P.Answers.after in
    let reads = g.P.Wire.reads in
    let whole : IsLine line = line-found [] left place tt found.0.high (eqb-true _ _ found.1) found.0.before in
    let enters : Enters reply after reads now line next = search rules in
    rw (take_rest left (place + 1)) (record {
      going = replaying-on reply after reads (standing_part c.args.part [] c.args.limit) c.args.text.now now next left (place + 1) c.loop-place.invariant.going whole enters;
      limit = enters-limit reply after reads now line next enters ∙ c.loop-place.invariant.limit;
    })

pub loop-place-smaller : goal.loop-place-smaller
loop-place-smaller g c =
    let left = c.loop-place.left.now in
    let place = c.in-Some.place in
    let size = length-drop (place + 1) left in
    rw (take_rest left (place + 1)) (omega (arith, size, c.in-Some.ensures.0.high))

pub returns-in-Err-clause-fault : goal.returns-in-Err-clause-fault
returns-in-Err-clause-fault g c =
    let left = c.loop-place.left.now in
    let place = c.in-Some.place in
    let found = c.in-Some.ensures in
    let line = take (place + 1) left in
    let whole : IsLine line = line-found [] left place tt found.0.high (eqb-true _ _ found.1) found.0.before in
    record {
      before = c.loop-place.now;
      line = line;
      stops = stops-here g.P.Answers.reply g.P.Answers.after g.P.Wire.reads (standing_part c.args.part [] c.args.limit) c.args.text.now c.loop-place.now left (place + 1) c.loop-place.invariant.going whole;
      fails = c.in-Err.ensures.err;
    }

pub returns-clause-leads : goal.returns-clause-leads
returns-clause-leads g c =
    let left = c.loop-place.left.now in
    let none : Nowhere (Passes (is_byte 10) left) 0 (length left) = search rules in
    leads-here g.P.Answers.reply g.P.Answers.after g.P.Wire.reads (standing_part c.args.part [] c.args.limit) c.args.text.now c.loop-place.now left c.loop-place.invariant.going (no-feed-at-all left none)

pub returns-clause-law : goal.returns-clause-law
returns-clause-law g c =
    let here = returns-clause-leads g c in
    λ now lines begins logs. log-once g.P.Answers.reply g.P.Answers.after g.P.Wire.reads g.met.P.Wire.reads_once (standing_part c.args.part [] c.args.limit) c.args.text.now here.0 lines c.loop-place.now now here.1 here.2 begins logs
