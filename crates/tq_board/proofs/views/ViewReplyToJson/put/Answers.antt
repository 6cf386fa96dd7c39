use Rattle.json.specs.Print.{escape_byte}
use Rattle.tq_board.proofs.Gathered.{behind}
use Rattle.tq_board.proofs.views.ViewReplyToJson.put.Goals as goal

pub returns-in-CostSet-clause-adds : goal.returns-in-CostSet-clause-adds
unfolding escape_byte
returns-in-CostSet-clause-adds g c = rw c.in-CostSet.is c.push.ensures

pub returns-in-Marked-clause-adds : goal.returns-in-Marked-clause-adds
unfolding escape_byte
returns-in-Marked-clause-adds g c = rw c.in-Marked.is c.push-in-Marked.ensures

pub returns-in_ok-put_after-in-Chosen-2-clause-adds : goal.returns-in_ok-put_after-in-Chosen-2-clause-adds
unfolding escape_byte
returns-in_ok-put_after-in-Chosen-2-clause-adds g c = rw c.in-Chosen.is (behind c.push-in-Chosen.result _ _ c.in_ok-put_after-in-Chosen.ensures.adds (behind c.push-in-Chosen.result _ _ c.in_ok-put_after-in-Chosen-2.ensures.adds c.push-in-Chosen.ensures))
