use Rattle.json.specs.Print.{escape_byte}
use Rattle.tq_board.proofs.Gathered.{behind}
use Rattle.tq_board.proofs.desks.OpToJson.put.Goals as goal

pub returns-clause-adds : goal.returns-clause-adds
unfolding escape_byte
returns-clause-adds g c = behind c.push.result _ _ c.in_ok-put_after.ensures.adds (behind c.push.result _ _ c.in_ok-put_after-2.ensures.adds (behind c.push.result _ _ c.in_ok-put_after-3.ensures.adds (behind c.push.result _ _ c.in_ok-put_after-4.ensures.adds (behind c.push.result _ _ c.in_ok-put_after-5.ensures.adds c.push.ensures))))
