use Rattle.std.proofs.Common.{◌-◌, ◌<◌, length, ap, ◌∙◌, arith}
use Rattle.tq_tables.{specs.Parts.PartsView, proofs.RowLaws.at-place}
use Rattle.tq_tables.proofs.parts.Parts.node.Goals as goal

pub returns-clause-of_tree : goal.returns-clause-of_tree
returns-clause-of_tree c =
    let many = ap (λ (p : PartsView). length p.nodes) c.self.view_is in
    let there = c.requires in
    let less : c.args.server - 1 < length c.self.inside.nodes.items = omega (arith, many, there.0, there.1) in
    (at-place c.self.inside.view.levels 1 c.self.inside.nodes.items c.self.invariant (c.args.server - 1) _ less c.index.ensures).0 ∙ ap (λ (p : PartsView). p.view.levels) c.self.view_is
