use Rattle.json.specs.Print.{escape_byte}
use Rattle.tq_board.proofs.Gathered.{behind}
use Rattle.tq_board.proofs.to_json.put_code.Goals as goal

pub returns-clause-adds : goal.returns-clause-adds
unfolding escape_byte
returns-clause-adds g c = behind c.push.result _ _ c.in_ok-put_after.ensures.adds c.push.ensures
