use Rattle.json.specs.Print.{escape_byte}
use Rattle.tq_board.proofs.Gathered.{behind}
use Rattle.tq_board.proofs.nodes.VerdictToJson.put.Goals as goal

pub returns-in-Abort-clause-adds : goal.returns-in-Abort-clause-adds
unfolding escape_byte
returns-in-Abort-clause-adds g c = rw c.in-Abort.is c.push.ensures

pub returns-in_ok-put_after-in-Commit-clause-adds : goal.returns-in_ok-put_after-in-Commit-clause-adds
unfolding escape_byte
returns-in_ok-put_after-in-Commit-clause-adds g c = rw c.in-Commit.is (behind c.push-in-Commit.result _ _ c.in_ok-put_after-in-Commit.ensures.adds c.push-in-Commit.ensures)
