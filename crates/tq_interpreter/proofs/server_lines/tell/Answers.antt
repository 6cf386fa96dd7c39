use Rattle.std.proofs.Common.{◌∙◌, ◌++◌, [], refl, ap}
use Rattle.tq_asks.specs.declared.ask.WorkAsk.TheVariants.{Decide}
use Rattle.tq_txn.specs.Lines.{apply_line, stop_line}
use Rattle.tq_interpreter.specs.TxnAsked.{answer_end, no_servers, told_text, apply_stopped_text, down_text, result_text}
use Rattle.tq_interpreter.proofs.ShellLines.{said_by}
use Rattle.tq_text.specs.Print.{applied_text, printed_line}
use Rattle.tq_interpreter.proofs.server_lines.tell.Goals as goal

pub returns-in_ok-say_told-in-None-clause-answered : goal.returns-in_ok-say_told-in-None-clause-answered
returns-in_ok-say_told-in-None-clause-answered c =
    λ kept.
    let result = c.apply_at-answer.result in
    let before = c.args.text.now.items in
    rw c.in-None.is
    (said_by (apply_line c.args.number c.args.ending.verdict c.args.ending.cite c.args.server.number) (answer_end (λ none. kept) no_servers (told_text c.args.server.number)) c.args.recorder.now c.apply_at-answer.new.asker result tt
    before c.say_told.new.text.items kept c.show_replayed.ensures c.show_replayed-in-None.ensures c.apply_at-answer.ensures.tree c.apply_at-answer.ensures.asks c.in_ok-say_told-in-None.ensures.memory
    (c.in_ok-say_told-in-None.ensures.text ∙ ap (λ n. before ++ printed_line (result_text [] (λ applied. applied_text n applied) result)) c.number.ensures.value) refl)

pub returns-in_ok-say_server-in-Some-clause-answered : goal.returns-in_ok-say_server-in-Some-clause-answered
returns-in_ok-say_server-in-Some-clause-answered c =
    λ kept.
    let result = c.stop_at-answer.result in
    let before = c.args.text.now.items in
    rw c.in-Some.is
    (said_by (stop_line c.args.server.number (Decide c.args.number c.args.ending.verdict c.args.ending.cite) c.in-Some.after) (answer_end (λ none. kept) no_servers (apply_stopped_text c.args.server.number)) c.args.recorder.now c.stop_at-answer.new.asker result tt
    before c.say_server.new.text.items kept c.show_replayed.ensures c.show_replayed-in-Some.ensures c.stop_at-answer.ensures.tree c.stop_at-answer.ensures.asks c.in_ok-say_server-in-Some.ensures.memory
    (c.in_ok-say_server-in-Some.ensures.text ∙ ap (λ n. before ++ printed_line (result_text [] (λ all. down_text n) result)) c.number-in-Some.ensures.value) refl)
