use Rattle.std.proofs.Common.{rules}
use Rattle.tq_board.proofs.Gathered.{written-out}
use Rattle.tq_board.proofs.frame.write_journals.Goals as goal

pub returns-clause-written : goal.returns-clause-written
returns-clause-written g c =
    let spilled = rw c.new-out.ensures.same at c.spill_line.ensures.spilled in
    let done = written-out _ _ _ _ _ _ (c.end.ensures.ends.written _ _ _ spilled) in
    search (rules, done)
