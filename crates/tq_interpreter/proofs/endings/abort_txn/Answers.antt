use Rattle.std.proofs.Common.{refl, sym, subst}
use Rattle.tq_txn.specs.{declared.txn.Txn.Txn, Dialogue.{Follows, ended_by}, Commits.abort_line, Told.Knows}
use Rattle.tq_interpreter.specs.{TxnAsked.{answer_end, no_servers, aborted_text}, Known.{IsKept, in_state}}
use Rattle.tq_interpreter.proofs.ShellLines.{kept_ending, later_asked, said_by}
use Rattle.tq_interpreter.proofs.endings.abort_txn.Goals as goal

pub abort-answer-requires-clause-knows : goal.abort-answer-requires-clause-knows
abort-answer-requires-clause-knows c = subst (Knows c.args.recorder.now.told) (sym c.replace-txn.ensures.value) c.requires.knows

pub returns : goal.returns
returns c =
    let kept = c.args.kept.now in
    let now = c.args.recorder.now in
    let new = c.abort-answer.new.asker in
    let aborted = c.abort-answer.ensures in
    let asks = subst (λ (txn : Txn). Follows (abort_line txn) now.told new.told (ended_by c.abort-answer.result.answer c.abort-answer.result.txn)) c.replace-txn.ensures.value aborted.asks in
    record {
      answered = said_by (abort_line kept.txn) (answer_end (in_state kept) no_servers aborted_text) now new c.abort-answer.result.answer c.abort-answer.result.txn
          c.args.text.now.items c.say_aborted.new.text.items (record { txn = c.abort-answer.result.txn; told = kept.told }) c.show_replayed.ensures c.show_replayed-2.ensures aborted.tree asks c.in_ok-say_aborted.ensures.memory
          c.in_ok-say_aborted.ensures.text refl;
      txn = kept_ending now new c.replace-txn.result c.abort-answer.result.txn aborted.tree aborted.ending (subst (IsKept now) (sym c.replace-txn.ensures.value) c.requires);
      later = later_asked (abort_line c.replace-txn.result) now new _ aborted.tree aborted.asks;
      kept = tt;
    }

pub returns-in_err-say_aborted-clause-txn : goal.returns-in_err-say_aborted-clause-txn
returns-in_err-say_aborted-clause-txn c =
    let now = c.args.recorder.now in
    kept_ending now c.abort-answer.new.asker c.replace-txn.result c.abort-answer.result.txn c.abort-answer.ensures.tree c.abort-answer.ensures.ending (subst (IsKept now) (sym c.replace-txn.ensures.value) c.requires)

pub returns-in_err-say_aborted-clause-later : goal.returns-in_err-say_aborted-clause-later
returns-in_err-say_aborted-clause-later c = later_asked (abort_line c.replace-txn.result) c.args.recorder.now c.abort-answer.new.asker _ c.abort-answer.ensures.tree c.abort-answer.ensures.asks
