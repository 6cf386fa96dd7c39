use Rattle.std.{proofs.lemmas.Result.err_from_is_err_and, specs.Result.result_ok}
use Rattle.tq_txn.{specs.{Lines.read_line, Script.after}, proofs.Following.{follows_went, follows_went_out}}
use Rattle.tq_txn.proofs.transacting.read.Goals as goal

pub returns-in_err-answered-clause-asks : goal.returns-in_err-answered-clause-asks
returns-in_err-answered-clause-asks g c =
    let p = err_from_is_err_and c.from_residual.result c.from_residual.ensures.1 in
    rw (p.1, c.in-Some.is) (follows_went_out (read_line c.in-Some.txn c.args.file.now) after c.read_file-answer.result c.read_file-answer.new.open (g.A.Asker.told c.args.asker.now) (g.A.Asker.told c.read_file-answer.new.asker) c.in_err-answered.ensures c.read_file-answer.ensures.asks)

pub returns-clause-asks : goal.returns-clause-asks
returns-clause-asks g c =
    rw c.in-Some.is (follows_went (read_line c.in-Some.txn c.args.file.now) after c.read_file-answer.result c.read_file-answer.new.open c.in_ok-answered.answered (g.A.Asker.told c.args.asker.now) (g.A.Asker.told c.read_file-answer.new.asker) (g.A.Asker.told c.after.new.asker) (result_ok c.after.result)
    c.in_ok-answered.ensures c.read_file-answer.ensures.asks c.after.ensures.asks)
