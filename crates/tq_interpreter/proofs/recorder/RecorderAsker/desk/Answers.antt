use Rattle.std.proofs.Common.{◌∙◌, ◌++◌, List, ap, sym, subst}
use Rattle.tq_txn.specs.{Told.answers_in, declared.asker.Exchange.Exchange}
use Rattle.tq_txn_states.specs.Voting.{CitesOnly}
use Rattle.tq_txn.specs.declared.asker.Exchange.TheVariants as exchanges
use Rattle.tq_interpreter.specs.Recorded.{RecorderView, IsReplayed, told_exchanges}
use Rattle.tq_interpreter.proofs.Recording.{asked_desk, founded_by}
use Rattle.tq_interpreter.proofs.recorder.RecorderAsker.desk.Goals as goal

pub ask_desk-answer-requires-clause-founded : goal.ask_desk-answer-requires-clause-founded
ask_desk-answer-requires-clause-founded c =
    founded_by c.self.inside.service c.self.inside.told.items c.args.ask c.self.invariant.stands
    (subst (λ (v : RecorderView). CitesOnly (answers_in v.told) c.args.ask) (sym c.self.view_is) c.requires.founded)

pub invariant_of-self : goal.invariant_of-self
invariant_of-self c =
    let answer = c.ask_desk-answer.result in
    let told = c.self.inside.told.items in
    let asked = asked_desk c.self.inside.service c.ask_desk-answer.new.self told c.self.invariant c.args.ask answer c.ask_desk-answer.ensures.told c.ask_desk-answer.ensures.after c.ask_desk-answer.ensures.err in
    subst (λ (t : List Exchange). IsReplayed (record { journals = c.ask_desk-answer.new.self; told = t })) (sym (c.with_desk.ensures ∙ ap (λ a. told ++ told_exchanges answer (exchanges.Desk a answer)) c.in_ok-copy.ensures)) asked.kept

pub returns-clause-tree : goal.returns-clause-tree
returns-clause-tree c =
    let asked = asked_desk c.self.inside.service c.ask_desk-answer.new.self c.self.inside.told.items c.self.invariant c.args.ask c.ask_desk-answer.result c.ask_desk-answer.ensures.told c.ask_desk-answer.ensures.after c.ask_desk-answer.ensures.err in
    asked.tree ∙ ap (λ (v : RecorderView). v.journals.levels) c.self.view_is
