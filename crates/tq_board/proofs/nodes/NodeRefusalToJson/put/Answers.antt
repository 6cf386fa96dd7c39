use Rattle.json.specs.Print.{escape_byte}
use Rattle.tq_board.proofs.Gathered.{behind}
use Rattle.tq_board.proofs.nodes.NodeRefusalToJson.put.Goals as goal

pub returns-in_ok-put_after-in-Held-2-clause-adds : goal.returns-in_ok-put_after-in-Held-2-clause-adds
unfolding escape_byte
returns-in_ok-put_after-in-Held-2-clause-adds g c = rw c.in-Held.is (behind c.push.result _ _ c.in_ok-put_after-in-Held.ensures.adds (behind c.push.result _ _ c.in_ok-put_after-in-Held-2.ensures.adds c.push.ensures))

pub returns-in_ok-put_after-in-NotLocked-2-clause-adds : goal.returns-in_ok-put_after-in-NotLocked-2-clause-adds
unfolding escape_byte
returns-in_ok-put_after-in-NotLocked-2-clause-adds g c = rw c.in-NotLocked.is (behind c.push-in-NotLocked.result _ _ c.in_ok-put_after-in-NotLocked.ensures.adds (behind c.push-in-NotLocked.result _ _ c.in_ok-put_after-in-NotLocked-2.ensures.adds c.push-in-NotLocked.ensures))
