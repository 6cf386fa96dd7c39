use Rattle.std.proofs.Common.{arith}
use Rattle.tq_store.proofs.Placed.{opened}
use Rattle.tq_store.proofs.ordered.Ordered.capacity.Goals as goal

pub returns : goal.returns
returns g c =
    let o = opened c.self.inside.keys c.self.inside.values c.args.self.now c.self.view_is c.self.invariant.0 in
    let ks = c.self.inside.keys in
    let vs = c.self.inside.values in
    omega (arith, c.capacity.ensures, c.capacity-2.ensures, c.min.ensures, o.spare, o.keys_length, o.values_length, ks.ok.0, ks.ok.1, vs.ok.0, vs.ok.1)
