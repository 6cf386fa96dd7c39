use Rattle.std.proofs.Common.{◌∙◌, List, ap, sym, subst}
use Rattle.tq_txn.specs.declared.asker.Exchange.{Exchange}
use Rattle.tq_interpreter.{specs.Recorded.{RecorderView, IsReplayed}, proofs.Recording.asked_view}
use Rattle.tq_interpreter.proofs.recorder.RecorderAsker.view.Goals as goal

pub invariant_of-self : goal.invariant_of-self
invariant_of-self c =
    let told = c.self.inside.told.items in
    let asked = asked_view c.self.inside.service c.ask_view-answer.new.self told c.self.invariant c.args.ask c.ask_view-answer.result c.ask_view-answer.ensures.told c.ask_view-answer.ensures.after c.ask_view-answer.ensures.err in
    subst (λ (t : List Exchange). IsReplayed (record { journals = c.ask_view-answer.new.self; told = t })) (sym c.with_view.ensures) asked.kept

pub returns-clause-tree : goal.returns-clause-tree
returns-clause-tree c =
    let asked = asked_view c.self.inside.service c.ask_view-answer.new.self c.self.inside.told.items c.self.invariant c.args.ask c.ask_view-answer.result c.ask_view-answer.ensures.told c.ask_view-answer.ensures.after c.ask_view-answer.ensures.err in
    asked.tree ∙ ap (λ (v : RecorderView). v.journals.levels) c.self.view_is
