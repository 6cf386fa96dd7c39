use Rattle.std.proofs.Common.{◌∙◌, ◌++◌, [], ap}
use Rattle.tq_txn.specs.{Dialogue.line_result, Script.mark_line}
use Rattle.tq_interpreter.specs.{Answer.{World, answer_of_run, view_end, marked_text, mark_asked}, TxnAsked.result_text}
use Rattle.tq_interpreter.specs.{Recorded.run_line, Known.Known}
use Rattle.tq_interpreter.proofs.ShellLines.{answered_by, later_asked, shell_on}
use Rattle.tq_text.specs.Print.{printed_line}
use Rattle.tq_interpreter.proofs.shell.Shell.set_mark.Goals as goal

pub invariant_of-self : goal.invariant_of-self
invariant_of-self c =
    let later = later_asked (mark_line c.args.id.number c.args.up) c.self.inside.recorder c.mark_server-answer.new.asker _ c.mark_server-answer.ensures.tree c.mark_server-answer.ensures.asks in
    shell_on c.self.inside.recorder c.mark_server-answer.new.asker c.self.inside.levels c.self.inside.txns.items later c.self.invariant

pub invariant_of-self-2 : goal.invariant_of-self-2
invariant_of-self-2 c =
    let later = later_asked (mark_line c.args.id.number c.args.up) c.self.inside.recorder c.mark_server-answer.new.asker _ c.mark_server-answer.ensures.tree c.mark_server-answer.ensures.asks in
    shell_on c.self.inside.recorder c.mark_server-answer.new.asker c.self.inside.levels c.self.inside.txns.items later c.self.invariant

pub returns : goal.returns
returns c =
    let known : Known = record { levels = c.self.inside.levels; limits = c.self.inside.limits; others = c.self.inside.others; txns = c.self.inside.txns.items } in
    let result = line_result c.mark_server-answer.result in
    let ran = answered_by (mark_line c.args.id.number c.args.up) (view_end known (marked_text c.args.id.number c.args.up)) c.self.inside.recorder c.mark_server-answer.new.asker result tt
    c.show_replayed.ensures c.show_replayed-2.ensures c.mark_server-answer.ensures.tree c.mark_server-answer.ensures.asks c.in_ok-say_marked.ensures.memory in
    record {
      text = c.in_ok-say_marked.ensures.text ∙ ap (λ n. c.args.text.now.items ++ printed_line (result_text [] (marked_text n c.args.up) result)) c.number-server.ensures.value
          ∙ ap (λ t. c.args.text.now.items ++ t) (ran.0 ∙ ap (λ (w : World). (answer_of_run (run_line w.journals (mark_asked w.known c.args.id.number c.args.up))).text) c.self.view_is);
      after = ran.1 ∙ ap (λ (w : World). (answer_of_run (run_line w.journals (mark_asked w.known c.args.id.number c.args.up))).after) c.self.view_is;
      kept = tt;
    }
