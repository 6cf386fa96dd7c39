use Rattle.std.proofs.{Common.{◌^◌, ◌≤◌, arith}, Math.Nat.pow-le-pow_right}
use Rattle.tq_shape.proofs.level.Levels.root.Goals as goal

pub new-requires : goal.new-requires
new-requires c =
    let power : 2 ^ 1 ≤ 2 ^ c.self.inside.count = pow-le-pow_right (omega arith) c.self.invariant.0 in
    rw (← c.self.view_is) (omega arith, omega arith)
