use Rattle.json.specs.Print.{escape_byte}
use Rattle.tq_board.proofs.Gathered.{behind}
use Rattle.tq_board.proofs.nodes.CitedVoteToJson.put.Goals as goal

pub returns-clause-adds : goal.returns-clause-adds
unfolding escape_byte
returns-clause-adds g c = behind c.push.result _ _ c.in_ok-put_after.ensures.adds (behind c.push.result _ _ c.in_ok-put_after-2.ensures.adds c.push.ensures)
