use Rattle.json.specs.Print.{escape_byte}
use Rattle.tq_board.proofs.Gathered.{behind}
use Rattle.tq_board.proofs.nodes.WorkAskToJson.put.Goals as goal

pub returns-in_ok-put_after-in-Lock-3-clause-adds : goal.returns-in_ok-put_after-in-Lock-3-clause-adds
unfolding escape_byte
returns-in_ok-put_after-in-Lock-3-clause-adds g c = rw c.in-Lock.is (behind c.push.result _ _ c.in_ok-put_after-in-Lock.ensures.adds (behind c.push.result _ _ c.in_ok-put_after-in-Lock-2.ensures.adds (behind c.push.result _ _ c.in_ok-put_after-in-Lock-3.ensures.adds c.push.ensures)))

pub returns-in_ok-put_after-in-Prepare-2-clause-adds : goal.returns-in_ok-put_after-in-Prepare-2-clause-adds
unfolding escape_byte
returns-in_ok-put_after-in-Prepare-2-clause-adds g c = rw c.in-Prepare.is (behind c.push-in-Prepare.result _ _ c.in_ok-put_after-in-Prepare.ensures.adds (behind c.push-in-Prepare.result _ _ c.in_ok-put_after-in-Prepare-2.ensures.adds c.push-in-Prepare.ensures))

pub returns-in_ok-put_after-in-Decide-3-clause-adds : goal.returns-in_ok-put_after-in-Decide-3-clause-adds
unfolding escape_byte
returns-in_ok-put_after-in-Decide-3-clause-adds g c = rw c.in-Decide.is (behind c.push-in-Decide.result _ _ c.in_ok-put_after-in-Decide.ensures.adds (behind c.push-in-Decide.result _ _ c.in_ok-put_after-in-Decide-2.ensures.adds (behind c.push-in-Decide.result _ _ c.in_ok-put_after-in-Decide-3.ensures.adds c.push-in-Decide.ensures)))

pub returns-in_ok-put_after-in-Release-clause-adds : goal.returns-in_ok-put_after-in-Release-clause-adds
unfolding escape_byte
returns-in_ok-put_after-in-Release-clause-adds g c = rw c.in-Release.is (behind c.push-in-Release.result _ _ c.in_ok-put_after-in-Release.ensures.adds c.push-in-Release.ensures)

pub returns-in_ok-put_after-in-Peek-clause-adds : goal.returns-in_ok-put_after-in-Peek-clause-adds
unfolding escape_byte
returns-in_ok-put_after-in-Peek-clause-adds g c = rw c.in-Peek.is (behind c.push-in-Peek.result _ _ c.in_ok-put_after-in-Peek.ensures.adds c.push-in-Peek.ensures)

pub returns-in_ok-put_after-in-Refresh-4-clause-adds : goal.returns-in_ok-put_after-in-Refresh-4-clause-adds
unfolding escape_byte
returns-in_ok-put_after-in-Refresh-4-clause-adds g c = rw c.in-Refresh.is (behind c.push-in-Refresh.result _ _ c.in_ok-put_after-in-Refresh.ensures.adds (behind c.push-in-Refresh.result _ _ c.in_ok-put_after-in-Refresh-2.ensures.adds (behind c.push-in-Refresh.result _ _ c.in_ok-put_after-in-Refresh-3.ensures.adds (behind c.push-in-Refresh.result _ _ c.in_ok-put_after-in-Refresh-4.ensures.adds c.push-in-Refresh.ensures))))
