use Rattle.json.specs.Print.{escape_byte}
use Rattle.tq_board.proofs.Gathered.{behind}
use Rattle.tq_board.proofs.nodes.NodeReplyToJson.put.Goals as goal

pub returns-in_ok-put_after-in-Granted-2-clause-adds : goal.returns-in_ok-put_after-in-Granted-2-clause-adds
unfolding escape_byte
returns-in_ok-put_after-in-Granted-2-clause-adds g c = rw c.in-Granted.is (behind c.push.result _ _ c.in_ok-put_after-in-Granted.ensures.adds (behind c.push.result _ _ c.in_ok-put_after-in-Granted-2.ensures.adds c.push.ensures))

pub returns-in_ok-put_after-in-Yes-2-clause-adds : goal.returns-in_ok-put_after-in-Yes-2-clause-adds
unfolding escape_byte
returns-in_ok-put_after-in-Yes-2-clause-adds g c = rw c.in-Yes.is (behind c.push-in-Yes.result _ _ c.in_ok-put_after-in-Yes.ensures.adds (behind c.push-in-Yes.result _ _ c.in_ok-put_after-in-Yes-2.ensures.adds c.push-in-Yes.ensures))

pub returns-in-Installed-clause-adds : goal.returns-in-Installed-clause-adds
unfolding escape_byte
returns-in-Installed-clause-adds g c = rw c.in-Installed.is c.push-in-Installed.ensures

pub returns-in-Discarded-clause-adds : goal.returns-in-Discarded-clause-adds
unfolding escape_byte
returns-in-Discarded-clause-adds g c = rw c.in-Discarded.is c.push-in-Discarded.ensures

pub returns-in-Released-clause-adds : goal.returns-in-Released-clause-adds
unfolding escape_byte
returns-in-Released-clause-adds g c = rw c.in-Released.is c.push-in-Released.ensures

pub returns-in_ok-put_after-in-Copy-2-clause-adds : goal.returns-in_ok-put_after-in-Copy-2-clause-adds
unfolding escape_byte
returns-in_ok-put_after-in-Copy-2-clause-adds g c = rw c.in-Copy.is (behind c.push-in-Copy.result _ _ c.in_ok-put_after-in-Copy.ensures.adds (behind c.push-in-Copy.result _ _ c.in_ok-put_after-in-Copy-2.ensures.adds c.push-in-Copy.ensures))

pub returns-in-Refreshed-clause-adds : goal.returns-in-Refreshed-clause-adds
unfolding escape_byte
returns-in-Refreshed-clause-adds g c = rw c.in-Refreshed.is c.push-in-Refreshed.ensures

pub returns-in-Crashed-clause-adds : goal.returns-in-Crashed-clause-adds
unfolding escape_byte
returns-in-Crashed-clause-adds g c = rw c.in-Crashed.is c.push-in-Crashed.ensures

pub returns-in-Returned-clause-adds : goal.returns-in-Returned-clause-adds
unfolding escape_byte
returns-in-Returned-clause-adds g c = rw c.in-Returned.is c.push-in-Returned.ensures
