use Rattle.std.proofs.Common.{Ok, Err, refl, sym, subst}
use Rattle.tq_desk.specs.declared.ask.{DeskAsk.DeskAsk, DeskAsk.TheVariants.Resolve}
use Rattle.tq_txn.specs.{declared.fault.LineFault.LineFault, Dialogue.{Follows, desk_line, ended_by}}
use Rattle.tq_txn.proofs.LineLaws.{told_desk, refused_desk}
use Rattle.tq_interpreter.{specs.{Known.IsKept, TxnAsked.resolve_end}, proofs.ShellLines.{kept_on, later_by, said_by}}
use Rattle.tq_interpreter.proofs.endings.resolve.Goals as goal

pub returns-in_ok-keep_reply-in-Ok-clause-answered : goal.returns-in_ok-keep_reply-in-Ok-clause-answered
returns-in_ok-keep_reply-in-Ok-clause-answered c =
    let ask : DeskAsk = Resolve c.args.number in
    said_by (desk_line ask) (λ end. resolve_end c.args.kept.now end.answer) c.args.recorder.now c.desk-answer.new.self (Ok c.in-Ok.told) tt c.args.text.now.items c.say_resolved.new.text.items c.keep_reply.new.kept
    c.show_replayed.ensures c.show_replayed-2.ensures c.in-Ok.ensures.tree (told_desk ask c.in-Ok.told c.args.recorder.now.told c.desk-answer.new.self.told c.in-Ok.ensures.exchanges c.in-Ok.ensures.same) refl c.in_ok-say_resolved-in-Ok.ensures.text c.in_ok-keep_reply-in-Ok.ensures.kept

pub returns-in_ok-say_fault-in-Err-clause-answered : goal.returns-in_ok-say_fault-in-Err-clause-answered
returns-in_ok-say_fault-in-Err-clause-answered c =
    let ask : DeskAsk = Resolve c.args.number in
    said_by (desk_line ask) (λ end. resolve_end c.args.kept.now end.answer) c.args.recorder.now c.desk-answer.new.self (Err c.from.result) tt c.args.text.now.items c.say_fault.new.text.items c.args.kept.now
    c.show_replayed.ensures c.show_replayed-2.ensures c.in-Err.ensures.tree (subst (λ (f : LineFault). Follows (desk_line ask) c.args.recorder.now.told c.desk-answer.new.self.told (ended_by (Err f) tt)) (sym c.from.ensures) (refused_desk ask c.in-Err.fault c.args.recorder.now.told c.desk-answer.new.self.told c.in-Err.ensures.exchanges)) c.in_ok-say_fault-in-Err.ensures.memory
    c.in_ok-say_fault-in-Err.ensures.text refl

pub returns-in_err-say_resolved-in-Ok-clause-txn : goal.returns-in_err-say_resolved-in-Ok-clause-txn
returns-in_err-say_resolved-in-Ok-clause-txn c =
    kept_on c.args.recorder.now c.desk-answer.new.self c.args.kept.now.txn (later_by c.args.recorder.now c.desk-answer.new.self _ c.desk-answer.ensures.tree c.desk-answer.ensures.exchanges) c.requires

pub returns-in_err-say_fault-in-Err-clause-txn : goal.returns-in_err-say_fault-in-Err-clause-txn
returns-in_err-say_fault-in-Err-clause-txn c =
    kept_on c.args.recorder.now c.desk-answer.new.self c.args.kept.now.txn (later_by c.args.recorder.now c.desk-answer.new.self _ c.desk-answer.ensures.tree c.desk-answer.ensures.exchanges) c.requires

pub returns-in_ok-say_fault-in-Err-clause-txn : goal.returns-in_ok-say_fault-in-Err-clause-txn
returns-in_ok-say_fault-in-Err-clause-txn c =
    kept_on c.args.recorder.now c.desk-answer.new.self c.args.kept.now.txn (later_by c.args.recorder.now c.desk-answer.new.self _ c.desk-answer.ensures.tree c.desk-answer.ensures.exchanges) c.requires

pub returns-in_ok-keep_reply-in-Ok-clause-txn : goal.returns-in_ok-keep_reply-in-Ok-clause-txn
returns-in_ok-keep_reply-in-Ok-clause-txn c =
    subst (IsKept c.desk-answer.new.self) (sym c.keep_reply.ensures.txn) (kept_on c.args.recorder.now c.desk-answer.new.self c.args.kept.now.txn (later_by c.args.recorder.now c.desk-answer.new.self _ c.desk-answer.ensures.tree c.desk-answer.ensures.exchanges) c.requires)

pub returns-in_err-keep_reply-in-Ok-clause-txn : goal.returns-in_err-keep_reply-in-Ok-clause-txn
returns-in_err-keep_reply-in-Ok-clause-txn c =
    subst (IsKept c.desk-answer.new.self) (sym c.keep_reply.ensures.txn) (kept_on c.args.recorder.now c.desk-answer.new.self c.args.kept.now.txn (later_by c.args.recorder.now c.desk-answer.new.self _ c.desk-answer.ensures.tree c.desk-answer.ensures.exchanges) c.requires)
