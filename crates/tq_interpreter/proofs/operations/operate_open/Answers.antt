use Rattle.std.proofs.Common.{refl}
use Rattle.tq_txn.specs.Lines.{read_line, write_line}
use Rattle.tq_interpreter.specs.{TxnAsked.{answer_end, no_servers, read_text, written_text}, Known.in_state}
use Rattle.tq_interpreter.proofs.ShellLines.{said_by}
use Rattle.tq_txn.specs.declared.txn.Txn.TheVariants as states
use Rattle.tq_interpreter.proofs.operations.operate_open.Goals as goal

pub returns-in_ok-say_read-in-Read-clause-answered : goal.returns-in_ok-say_read-in-Read-clause-answered
returns-in_ok-say_read-in-Read-clause-answered c =
    λ kept.
    let before = c.args.text.now.items in
    rw c.in-Read.is
    (said_by (read_line c.args.«open».now c.args.file.now) (answer_end (λ new. in_state kept (states.Open new)) no_servers (read_text c.args.file.now)) c.args.recorder.now c.read_file-answer.new.asker c.read_file-answer.result c.read_file-answer.new.«open»
    before c.say_read.new.text.items (in_state kept (states.Open c.read_file-answer.new.«open»)) c.show_replayed.ensures c.show_replayed-in-Read.ensures c.read_file-answer.ensures.tree c.read_file-answer.ensures.asks c.in_ok-say_read-in-Read.ensures.memory
    c.in_ok-say_read-in-Read.ensures.text refl)

pub returns-in_ok-say_written-in-Write-clause-answered : goal.returns-in_ok-say_written-in-Write-clause-answered
returns-in_ok-say_written-in-Write-clause-answered c =
    λ kept.
    let before = c.args.text.now.items in
    let content = c.in-Write.content in
    rw c.in-Write.is
    (said_by (write_line c.args.«open».now c.args.file.now content) (answer_end (λ new. in_state kept (states.Open new)) no_servers (written_text c.args.file.now)) c.args.recorder.now c.write_file-answer.new.asker c.write_file-answer.result c.write_file-answer.new.«open»
    before c.say_written.new.text.items (in_state kept (states.Open c.write_file-answer.new.«open»)) c.show_replayed.ensures c.show_replayed-in-Write.ensures c.write_file-answer.ensures.tree c.write_file-answer.ensures.asks c.in_ok-say_written-in-Write.ensures.memory
    c.in_ok-say_written-in-Write.ensures.text refl)
