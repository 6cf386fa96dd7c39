use Rattle.json.specs.Print.{escape_byte}
use Rattle.tq_board.proofs.Gathered.{behind}
use Rattle.tq_board.proofs.views.ViewAskToJson.put.Goals as goal

pub returns-in_ok-put_after-in-SetCost-3-clause-adds : goal.returns-in_ok-put_after-in-SetCost-3-clause-adds
unfolding escape_byte
returns-in_ok-put_after-in-SetCost-3-clause-adds g c = rw c.in-SetCost.is (behind c.push.result _ _ c.in_ok-put_after-in-SetCost.ensures.adds (behind c.push.result _ _ c.in_ok-put_after-in-SetCost-2.ensures.adds (behind c.push.result _ _ c.in_ok-put_after-in-SetCost-3.ensures.adds c.push.ensures)))

pub returns-in_ok-put_after-in-Mark-2-clause-adds : goal.returns-in_ok-put_after-in-Mark-2-clause-adds
unfolding escape_byte
returns-in_ok-put_after-in-Mark-2-clause-adds g c = rw c.in-Mark.is (behind c.push-in-Mark.result _ _ c.in_ok-put_after-in-Mark.ensures.adds (behind c.push-in-Mark.result _ _ c.in_ok-put_after-in-Mark-2.ensures.adds c.push-in-Mark.ensures))

pub returns-in_ok-put_after-in-Choose-clause-adds : goal.returns-in_ok-put_after-in-Choose-clause-adds
unfolding escape_byte
returns-in_ok-put_after-in-Choose-clause-adds g c = rw c.in-Choose.is (behind c.push-in-Choose.result _ _ c.in_ok-put_after-in-Choose.ensures.adds c.push-in-Choose.ensures)
