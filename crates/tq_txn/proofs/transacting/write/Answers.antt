use Rattle.std.{proofs.{lemmas.Result.err_from_is_err_and, Common.{ℕ, List, subst}}, specs.Result.result_ok}
use Rattle.tq_txn.specs.{Dialogue.{Follows, ended_by}, Lines.write_line, Script.after}
use Rattle.tq_txn.proofs.Following.{follows_went, follows_went_out}
use Rattle.tq_txn.proofs.transacting.write.Goals as goal

pub returns-in_err-answered-clause-asks : goal.returns-in_err-answered-clause-asks
returns-in_err-answered-clause-asks g c =
    let p = err_from_is_err_and c.from_residual-in_err-answered.result c.from_residual-in_err-answered.ensures.1 in
    let old = g.A.Asker.told c.args.asker.now in
    let new = g.A.Asker.told c.write_file-answer.new.asker in
    let P : List ℕ → Type 0 = λ t. Follows (write_line c.in-Some.txn c.args.file.now t) old new (ended_by c.write_file-answer.result c.write_file-answer.new.open) in
    rw (p.1, c.in-Some.is) (follows_went_out (write_line c.in-Some.txn c.args.file.now c.args.content.now) after c.write_file-answer.result c.write_file-answer.new.open old new c.in_err-answered.ensures
    (subst P c.in_ok-written.ensures.cases c.write_file-answer.ensures.asks))

pub returns-clause-asks : goal.returns-clause-asks
returns-clause-asks g c =
    let old = g.A.Asker.told c.args.asker.now in
    let mid = g.A.Asker.told c.write_file-answer.new.asker in
    let P : List ℕ → Type 0 = λ t. Follows (write_line c.in-Some.txn c.args.file.now t) old mid (ended_by c.write_file-answer.result c.write_file-answer.new.open) in
    rw c.in-Some.is (follows_went (write_line c.in-Some.txn c.args.file.now c.args.content.now) after c.write_file-answer.result c.write_file-answer.new.open c.in_ok-answered.answered old mid (g.A.Asker.told c.after.new.asker) (result_ok c.after.result) c.in_ok-answered.ensures
    (subst P c.in_ok-written.ensures.cases c.write_file-answer.ensures.asks) c.after.ensures.asks)
