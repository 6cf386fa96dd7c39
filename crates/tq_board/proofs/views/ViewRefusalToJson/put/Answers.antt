use Rattle.json.specs.Print.{escape_byte}
use Rattle.tq_board.proofs.Gathered.{behind}
use Rattle.tq_board.proofs.views.ViewRefusalToJson.put.Goals as goal

pub returns-in_ok-put_after-in-Blocked-2-clause-adds : goal.returns-in_ok-put_after-in-Blocked-2-clause-adds
unfolding escape_byte
returns-in_ok-put_after-in-Blocked-2-clause-adds g c = rw c.in-Blocked.is (behind c.push.result _ _ c.in_ok-put_after-in-Blocked.ensures.adds (behind c.push.result _ _ c.in_ok-put_after-in-Blocked-2.ensures.adds c.push.ensures))
