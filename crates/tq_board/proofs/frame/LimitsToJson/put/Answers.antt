use Rattle.json.specs.Print.{escape_byte}
use Rattle.tq_board.proofs.Gathered.{behind}
use Rattle.tq_board.proofs.frame.LimitsToJson.put.Goals as goal

pub returns-clause-adds : goal.returns-clause-adds
unfolding escape_byte
returns-clause-adds g c =
    let entries = rw c.entries.ensures.value at c.in_ok-put_after.ensures.adds in
    let files = rw c.files.ensures.value at c.in_ok-put_after-2.ensures.adds in
    let ops = rw c.ops.ensures.value at c.in_ok-put_after-3.ensures.adds in
    behind c.push.result _ _ entries (behind c.push.result _ _ files (behind c.push.result _ _ ops c.push.ensures))
