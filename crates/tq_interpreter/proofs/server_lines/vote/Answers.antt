use Rattle.std.{proofs.Common.{◌∙◌, ◌++◌, ◌∷◌, [], cond, codes, refl, ap}, specs.Fmt.decimal}
use Rattle.tq_txn.specs.declared.txn.Txn.TheVariants as states
use Rattle.tq_txn.specs.Lines.{prepare_line, prepare_stop_line}
use Rattle.tq_interpreter.specs.TxnAsked.{answer_end, voted_text, stopped_text, down_text, result_text}
use Rattle.tq_interpreter.{specs.Known.in_state, proofs.ShellLines.{later_asked, said_by}}
use Rattle.tq_text.specs.Print.{printed_line}
use Rattle.tq_interpreter.proofs.server_lines.vote.Goals as goal

pub returns-in_ok-say_server-in-None-clause-answered : goal.returns-in_ok-say_server-in-None-clause-answered
returns-in_ok-say_server-in-None-clause-answered c =
    λ kept.
    let result = c.prepare_at-answer.result in
    let before = c.args.text.now.items in
    rw c.in-None.is
    (said_by (prepare_line c.args.voting c.args.server.number) (answer_end (λ new. in_state kept (states.Voting new)) (λ new. c.args.server.number ∷ []) (voted_text c.args.server.number)) c.args.recorder.now c.prepare_at-answer.new.asker result c.prepare_at-answer.new.voting
    before c.say_server.new.text.items (in_state kept (states.Voting c.prepare_at-answer.new.voting)) c.show_replayed.ensures c.show_replayed-in-None.ensures c.prepare_at-answer.ensures.tree c.prepare_at-answer.ensures.asks c.in_ok-say_server-in-None.ensures.memory
    (c.in_ok-say_server-in-None.ensures.text ∙ ap (λ n. before ++ printed_line (result_text (n ∷ []) (λ all. codes "yes " ++ decimal n) result)) c.number-number.ensures.value) refl)

pub returns-in_ok-say_stopped-in-Some-clause-answered : goal.returns-in_ok-say_stopped-in-Some-clause-answered
returns-in_ok-say_stopped-in-Some-clause-answered c =
    λ kept.
    let result = c.prepare_stopping-answer.result in
    let before = c.args.text.now.items in
    rw c.in-Some.is
    (said_by (prepare_stop_line c.args.voting c.args.server.number c.in-Some.after) (answer_end (λ new. in_state kept (states.Voting new)) (λ new. c.args.server.number ∷ []) (stopped_text c.args.server.number)) c.args.recorder.now c.prepare_stopping-answer.new.asker result c.args.voting
    before c.say_stopped.new.text.items (in_state kept (states.Voting c.args.voting)) c.show_replayed.ensures c.show_replayed-in-Some.ensures c.prepare_stopping-answer.ensures.tree c.prepare_stopping-answer.ensures.asks c.in_ok-say_stopped-in-Some.ensures.memory
    (c.in_ok-say_stopped-in-Some.ensures.text ∙ ap (λ n. before ++ printed_line (result_text (n ∷ []) (λ there. cond there (codes "yes " ++ decimal n) (down_text n)) result)) c.number-number.ensures.value) refl)

pub returns-in_err-say_server-in-None-clause-later : goal.returns-in_err-say_server-in-None-clause-later
returns-in_err-say_server-in-None-clause-later c =
    later_asked (prepare_line c.args.voting c.args.server.number) c.args.recorder.now c.prepare_at-answer.new.asker _ c.prepare_at-answer.ensures.tree c.prepare_at-answer.ensures.asks

pub returns-in_ok-say_server-in-None-clause-later : goal.returns-in_ok-say_server-in-None-clause-later
returns-in_ok-say_server-in-None-clause-later c =
    later_asked (prepare_line c.args.voting c.args.server.number) c.args.recorder.now c.prepare_at-answer.new.asker _ c.prepare_at-answer.ensures.tree c.prepare_at-answer.ensures.asks

pub returns-in_err-say_stopped-in-Some-clause-later : goal.returns-in_err-say_stopped-in-Some-clause-later
returns-in_err-say_stopped-in-Some-clause-later c =
    later_asked (prepare_stop_line c.args.voting c.args.server.number c.in-Some.after) c.args.recorder.now c.prepare_stopping-answer.new.asker _ c.prepare_stopping-answer.ensures.tree c.prepare_stopping-answer.ensures.asks
