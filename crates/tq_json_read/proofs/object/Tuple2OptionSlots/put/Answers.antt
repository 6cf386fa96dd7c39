use Rattle.std.proofs.Common.{suc, ap}
use Rattle.tq_json_read.proofs.Places.{found_as, filled_first, filled_later}
use Rattle.tq_json_read.proofs.object.Tuple2OptionSlots.put.Goals as goal

pub returns-then-place-gt0-clause-ok : goal.returns-then-place-gt0-clause-ok
returns-then-place-gt0-clause-ok g c values is =
    let at = g.T.FromReader.at c.args.plan.now in
    let of = g.R.Slots.of c.args.plan.now in
    found_as c.put.result _ _ _ _ (λ d u e. filled_later at of d values _ _ c.args.place c.if-place-gt0.true (ap (λ s. s.0) is) e) (c.put.ensures.ok (λ i. values (suc i)) (ap (λ s. s.1) is))

pub returns-clause-ok : goal.returns-clause-ok
returns-clause-ok g c values is =
    let at = g.T.FromReader.at c.args.plan.now in
    let of = g.R.Slots.of c.args.plan.now in
    let d = c.in_ok-self.ensures.ok in
    (d.0, d.1, filled_first at of d.0 values _ _ c.args.place c.if-place-gt0.false d.2 (ap (λ s. s.1) is))
