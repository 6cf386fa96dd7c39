use Rattle.std.proofs.Common.{◌∙◌, Ok, Err, ap, sym, subst}
use Rattle.tq_interpreter.{specs.Recorded.RecorderView, proofs.Recording.{asked_node, noted_node}}
use Rattle.tq_interpreter.proofs.recorder.Recorder.ask.Goals as goal

pub ask_node-requires-clause-founded : goal.ask_node-requires-clause-founded
ask_node-requires-clause-founded g c = subst (λ (v : RecorderView). g.J.Warrant.founds_node v.journals c.args.ask) (sym c.self.view_is) c.requires.founded

pub invariant_of-self : goal.invariant_of-self
invariant_of-self g c =
    noted_node c.self.inside.service c.ask_node.new.self c.self.inside.told.items c.self.invariant c.args.server.number _ c.args.ask c.in-Ok.copy (Ok c.in-Ok-ask_node.told) _
    c.in-Ok-ask_node.ensures.told c.in-Ok-ask_node.ensures.after c.in-Ok-ask_node.ensures.err c.with_answer.ensures c.number-number.ensures.value c.in-Ok.ensures

pub invariant_of-self-in-Err-ask_node : goal.invariant_of-self-in-Err-ask_node
invariant_of-self-in-Err-ask_node g c =
    noted_node c.self.inside.service c.ask_node.new.self c.self.inside.told.items c.self.invariant c.args.server.number _ c.args.ask c.in-Ok.copy (Err c.in-Err-ask_node.fault) _
    c.in-Err-ask_node.ensures.told c.in-Err-ask_node.ensures.after c.in-Err-ask_node.ensures.err c.with_fault.ensures c.number-number.ensures.value c.in-Ok.ensures

pub returns-in-Ok-ask_node-clause-tree : goal.returns-in-Ok-ask_node-clause-tree
returns-in-Ok-ask_node-clause-tree g c =
    let asked = asked_node c.self.inside.service c.ask_node.new.self c.self.inside.told.items c.self.invariant c.args.server.number c.args.ask (Ok c.in-Ok-ask_node.told) c.in-Ok-ask_node.ensures.told c.in-Ok-ask_node.ensures.after c.in-Ok-ask_node.ensures.err in
    asked.tree ∙ ap (λ (v : RecorderView). v.journals.levels) c.self.view_is
