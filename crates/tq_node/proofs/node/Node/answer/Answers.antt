use Rattle.std.proofs.Common.{subst}
use Rattle.tq_node.specs.Node.{IsKept, NodeView}
use Rattle.tq_node.proofs.{ByCases.{told_crash, told_step}, OnlyStep.told_only, Sound.kept_is}
use Rattle.tq_node.proofs.node.Node.answer.Goals as goal

pub returns-clause-by_cases : goal.returns-clause-by_cases
returns-clause-by_cases c =
    told_step c.args.self.now c.respond-told.new.self c.args.number c.args.ask.now c.respond-told.result c.respond-told.ensures.reply c.respond-told.ensures.after

pub returns-clause-only : goal.returns-clause-only
returns-clause-only c =
    told_only c.args.self.now c.respond-told.new.self c.args.number c.args.ask.now c.respond-told.result c.respond-told.ensures.reply c.respond-told.ensures.after

pub returns-clause-kept : goal.returns-clause-kept
returns-clause-kept c =
    let inside = c.self.inside in
    subst (λ (v : NodeView). IsKept v.state) c.self.view_is (kept_is inside.intents.records inside.last inside.copies.files inside.locks.locks c.self.invariant inside.down)

pub returns-clause-crashed : goal.returns-clause-crashed
returns-clause-crashed c =
    let by_cases = told_step c.args.self.now c.respond-told.new.self c.args.number c.args.ask.now c.respond-told.result c.respond-told.ensures.reply c.respond-told.ensures.after in
    told_crash c.args.self.now.server c.args.self.now.state c.respond-told.new.self.state c.args.number c.args.ask.now c.respond-told.result by_cases (returns-clause-kept c)
