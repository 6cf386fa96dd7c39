use Rattle.std.proofs.Common.{◌∙◌, ◌++◌, ap}
use Rattle.tq_live.specs.declared.view.ViewAsk.{ViewAsk}
use Rattle.tq_live.specs.declared.view.ViewAsk.TheVariants as asks
use Rattle.tq_txn.{specs.Dialogue.{line_result, view_line}, proofs.LineLaws.asked_view}
use Rattle.tq_interpreter.specs.{Answer.{World, answer_of_run, view_end, ok_text, cost_asked}, Recorded.run_line}
use Rattle.tq_interpreter.{specs.Known.Known, proofs.ShellLines.{answered_by, later_by, shell_on}}
use Rattle.tq_interpreter.proofs.shell.Shell.set_cost.Goals as goal

pub invariant_of-self : goal.invariant_of-self
invariant_of-self c =
    let later = later_by c.self.inside.recorder c.view-answer.new.self _ c.view-answer.ensures.tree c.view-answer.ensures.exchanges in
    shell_on c.self.inside.recorder c.view-answer.new.self c.self.inside.levels c.self.inside.txns.items later c.self.invariant

pub invariant_of-self-2 : goal.invariant_of-self-2
invariant_of-self-2 c =
    let later = later_by c.self.inside.recorder c.view-answer.new.self _ c.view-answer.ensures.tree c.view-answer.ensures.exchanges in
    shell_on c.self.inside.recorder c.view-answer.new.self c.self.inside.levels c.self.inside.txns.items later c.self.invariant

pub returns : goal.returns
returns c =
    let known : Known = record { levels = c.self.inside.levels; limits = c.self.inside.limits; others = c.self.inside.others; txns = c.self.inside.txns.items } in
    let ask : ViewAsk = asks.SetCost c.args.server c.args.read c.args.write in
    let ran = answered_by (view_line ask) (view_end known ok_text) c.self.inside.recorder c.view-answer.new.self (line_result c.view-answer.result) tt c.show_replayed.ensures c.show_replayed-2.ensures c.view-answer.ensures.tree (asked_view ask c.view-answer.result c.self.inside.recorder.told c.view-answer.new.self.told c.view-answer.ensures.exchanges c.view-answer.ensures.same) c.in_ok-say_ok.ensures.memory in
    record {
      text = c.in_ok-say_ok.ensures.text ∙ ap (λ t. c.args.text.now.items ++ t) (ran.0 ∙ ap (λ (w : World). (answer_of_run (run_line w.journals (cost_asked w.known c.args.server c.args.read c.args.write))).text) c.self.view_is);
      after = ran.1 ∙ ap (λ (w : World). (answer_of_run (run_line w.journals (cost_asked w.known c.args.server c.args.read c.args.write))).after) c.self.view_is;
      kept = tt;
    }
