use Rattle.std.proofs.Common.{◌<◌, refl, arith}
use Rattle.tq_node.proofs.Sound.{sound-as, sound-dead, sound-unfinished}
use Rattle.tq_node.proofs.node.Node.leave_unfinished.Goals as goal

pub push_unfinished-requires : goal.push_unfinished-requires
push_unfinished-requires c =
    let inside = c.self.inside in
    let rises : inside.last < c.args.number = grind (arith, c.requires.rises, c.self.view_is) in
    sound-unfinished inside.intents.records inside.last inside.copies.files inside.locks.locks c.self.invariant c.args.records c.args.number rises c.requires.dead

pub invariant_of-self-2 : goal.invariant_of-self-2
invariant_of-self-2 c =
    let inside = c.self.inside in
    let rises : inside.last < c.args.number = grind (arith, c.requires.rises, c.self.view_is) in
    sound-as (sound-dead inside.intents.records inside.last inside.copies.files inside.locks.locks c.self.invariant c.args.records c.args.number rises c.requires.dead)
    c.in_ok-push_unfinished.ensures.records refl refl
