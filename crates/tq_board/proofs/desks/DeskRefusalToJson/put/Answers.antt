use Rattle.json.specs.Print.{escape_byte}
use Rattle.tq_board.proofs.Gathered.{behind}
use Rattle.tq_board.proofs.desks.DeskRefusalToJson.put.Goals as goal

pub returns-in_ok-put_after-in-Decided-2-clause-adds : goal.returns-in_ok-put_after-in-Decided-2-clause-adds
unfolding escape_byte
returns-in_ok-put_after-in-Decided-2-clause-adds g c = rw c.in-Decided.is (behind c.push.result _ _ c.in_ok-put_after-in-Decided.ensures.adds (behind c.push.result _ _ c.in_ok-put_after-in-Decided-2.ensures.adds c.push.ensures))

pub returns-in_ok-put_after-in-BadEvidence-2-clause-adds : goal.returns-in_ok-put_after-in-BadEvidence-2-clause-adds
unfolding escape_byte
returns-in_ok-put_after-in-BadEvidence-2-clause-adds g c = rw c.in-BadEvidence.is (behind c.push-in-BadEvidence.result _ _ c.in_ok-put_after-in-BadEvidence.ensures.adds (behind c.push-in-BadEvidence.result _ _ c.in_ok-put_after-in-BadEvidence-2.ensures.adds c.push-in-BadEvidence.ensures))
