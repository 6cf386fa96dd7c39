use Rattle.std.proofs.Common.{◌≡◌, ◌∙◌, ◌++◌, None, ap, refl, subst, sym}
use Rattle.tq_core.specs.Founded.{unfounded_in_node_ask}
use Rattle.tq_txn.specs.declared.asker.Exchange.TheVariants as exchanges
use Rattle.tq_interpreter.specs.Recorded.{RecorderView, told_exchanges}
use Rattle.tq_interpreter.proofs.Recording.{asked_node, handed_is, noted_node}
use Rattle.tq_interpreter.proofs.recorder.Recorder.put.Goals as goal

pub ask_node-answer-requires-clause-founded : goal.ask_node-answer-requires-clause-founded
ask_node-answer-requires-clause-founded c = subst (λ (v : RecorderView). unfounded_in_node_ask v.journals c.args.ask ≡ None) (sym c.self.view_is) c.requires.founded

pub invariant_of-self : goal.invariant_of-self
invariant_of-self c =
    let told = c.self.inside.told.items in
    let is = handed_is told c.with_handed.result.items c.args.server.number _ c.args.ask _ c.ask_node-answer.result c.with_handed.ensures c.number-number.ensures.value c.handed_ask-given.ensures in
    noted_node c.self.inside.service c.ask_node-answer.new.self told c.self.invariant c.args.server.number c.args.server.number c.args.ask c.args.ask c.ask_node-answer.result _ c.ask_node-answer.ensures.told c.ask_node-answer.ensures.after c.ask_node-answer.ensures.err is refl refl

pub returns-clause-exchanges : goal.returns-clause-exchanges
returns-clause-exchanges c =
    handed_is c.self.inside.told.items c.with_handed.result.items c.args.server.number _ c.args.ask _ c.ask_node-answer.result c.with_handed.ensures c.number-number.ensures.value c.handed_ask-given.ensures
    ∙ ap (λ (v : RecorderView). v.told ++ told_exchanges c.ask_node-answer.result (exchanges.Node c.args.server.number c.args.ask c.ask_node-answer.result)) c.self.view_is

pub returns-clause-tree : goal.returns-clause-tree
returns-clause-tree c =
    let asked = asked_node c.self.inside.service c.ask_node-answer.new.self c.self.inside.told.items c.self.invariant c.args.server.number c.args.ask c.ask_node-answer.result c.ask_node-answer.ensures.told c.ask_node-answer.ensures.after c.ask_node-answer.ensures.err in
    asked.tree ∙ ap (λ (v : RecorderView). v.journals.levels) c.self.view_is
