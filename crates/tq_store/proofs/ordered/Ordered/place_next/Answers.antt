use Rattle.std.proofs.Common.{arith}
use Rattle.tq_store.proofs.Placed.{placed_next}
use Rattle.tq_store.proofs.ordered.Ordered.place_next.Goals as goal

pub invariant_of-self-then-self-len : goal.invariant_of-self-then-self-len
invariant_of-self-then-self-len g c =
    let a = c.self.inside in
    let i = c.self.invariant in (
      i.0,
      i.1,
      placed_next g.K.Ord.cmp g.K.PartialEq.eq g.met.K.Eq.laws g.met.K.Ord.matches_eq a.places c.insert.new.self a.placed a.keys.items c.index.result.now i.1
          (omega (arith, c.if-self-len.true, c.len.ensures, a.keys.ok.0)) c.index.ensures c.in_ok-insert.ensures.updates.0 i.2,
    )
