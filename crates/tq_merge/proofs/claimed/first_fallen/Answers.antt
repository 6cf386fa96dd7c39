use Rattle.std.proofs.Common.{◌≡◌, length, arith}
use Rattle.tq_merge.proofs.LastNumbers.{next_fallen, next_rises}
use Rattle.tq_merge.proofs.claimed.first_fallen.Goals as goal

pub returns-then-name-index : goal.returns-then-name-index
returns-then-name-index c =
    let last = c.loop-name.last in
    let one_each : length last.items ≡ length c.args.counts.now = omega (arith, last.ok.0, c.loop-name.invariant.one_each) in
    next_fallen last.items c.args.counts.now c.args.names.now c.loop-name.name-index _ c.place_of-place.result c.index.result.now c.loop-name.invariant.keeps c.loop-name-test.true
    c.requires c.place_of-place.ensures.value c.index.ensures one_each c.if-name-index.true c.loop-name.invariant.rise

pub loop-name-preserved : goal.loop-name-preserved
loop-name-preserved c =
    let last = c.loop-name.last in
    let one_each : length last.items ≡ length c.args.counts.now = omega (arith, last.ok.0, c.loop-name.invariant.one_each) in
    let now = next_rises last.items c.args.counts.now c.args.names.now c.loop-name.name-index _ c.place_of-place.result c.index.result.now c.loop-name.invariant.keeps c.loop-name-test.true
    c.requires c.place_of-place.ensures.value c.index.ensures one_each (omega (arith, c.if-name-index.false)) c.loop-name.invariant.rise in
    record { one_each = c.loop-name.invariant.one_each; rise = now.1; keeps = now.0 }
