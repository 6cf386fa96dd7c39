use Rattle.std.proofs.Common.{true, ap, sym, ◌∙◌, refl}
use Rattle.tq_shape.specs.ServerSet.{Servers}
use Rattle.tq_tables.proofs.RowLaws.{at-place, one-in}
use Rattle.tq_tables.proofs.holders.all_servers.Goals as goal

pub insert-requires : goal.insert-requires
insert-requires c =
    c.server.ensures.levels
    ∙ (at-place c.args.levels 1 c.args.nodes.now c.requires c.loop-node.node-index c.node-item.result c.loop-node-test.true c.node-item.is).0
    ∙ sym (ap (λ (s : Servers). s.levels) c.loop-node.invariant)

pub loop-node-preserved : goal.loop-node-preserved
loop-node-preserved c =
    one-in c.args.levels (λ node. true) c.args.nodes.now c.loop-node.node-index c.node-item.result c.loop-node-test.true c.node-item.is c.loop-node.all c.insert.new.self c.loop-node.invariant
    c.requires refl c.server.result c.server.ensures.number (λ below. c.insert.ensures.last below)
