use Rattle.json.specs.Print.{escape_byte}
use Rattle.tq_board.proofs.Gathered.{behind}
use Rattle.tq_board.proofs.desks.DeskReplyToJson.put.Goals as goal

pub returns-in_ok-put_after-in-Txn-clause-adds : goal.returns-in_ok-put_after-in-Txn-clause-adds
unfolding escape_byte
returns-in_ok-put_after-in-Txn-clause-adds g c = rw c.in-Txn.is (behind c.push.result _ _ c.in_ok-put_after-in-Txn.ensures.adds c.push.ensures)

pub returns-in_ok-put_after-in-Verdict-clause-adds : goal.returns-in_ok-put_after-in-Verdict-clause-adds
unfolding escape_byte
returns-in_ok-put_after-in-Verdict-clause-adds g c = rw c.in-Verdict.is (behind c.push-in-Verdict.result _ _ c.in_ok-put_after-in-Verdict.ensures.adds c.push-in-Verdict.ensures)

pub returns-in_ok-put_after-in-Committed-clause-adds : goal.returns-in_ok-put_after-in-Committed-clause-adds
unfolding escape_byte
returns-in_ok-put_after-in-Committed-clause-adds g c = rw c.in-Committed.is (behind c.push-in-Committed.result _ _ c.in_ok-put_after-in-Committed.ensures.adds c.push-in-Committed.ensures)
