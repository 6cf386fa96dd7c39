use Rattle.std.proofs.{Common.{◌-◌, ◌≤◌, arith}, Math.Pow.pow_mono}
use Rattle.tq_live.proofs.Repair.{complete-leaves}
use Rattle.tq_live.proofs.tree.LiveTree.copy.Goals as goal

pub copy-requires : goal.copy-requires
copy-requires c =
    let few : c.self.inside.levels - 1 ≤ 9 = omega (arith, c.count-levels.ensures.most) in
    omega (arith, complete-leaves (c.self.inside.levels - 1) c.self.inside.root c.self.invariant.complete, pow_mono {i = c.self.inside.levels - 1} {j = 9} few, c.new-turns.ensures)
