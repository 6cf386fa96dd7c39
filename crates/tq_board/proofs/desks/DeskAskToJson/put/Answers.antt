use Rattle.json.specs.Print.{escape_byte}
use Rattle.tq_board.proofs.Gathered.{behind}
use Rattle.tq_board.proofs.desks.DeskAskToJson.put.Goals as goal

pub returns-in-Begin-clause-adds : goal.returns-in-Begin-clause-adds
unfolding escape_byte
returns-in-Begin-clause-adds g c = rw c.in-Begin.is c.push.ensures

pub returns-in_ok-put_after-in-Commit-3-clause-adds : goal.returns-in_ok-put_after-in-Commit-3-clause-adds
unfolding escape_byte
returns-in_ok-put_after-in-Commit-3-clause-adds g c = rw c.in-Commit.is (behind c.push-in-Commit.result _ _ c.in_ok-put_after-in-Commit.ensures.adds (behind c.push-in-Commit.result _ _ c.in_ok-put_after-in-Commit-2.ensures.adds (behind c.push-in-Commit.result _ _ c.in_ok-put_after-in-Commit-3.ensures.adds c.push-in-Commit.ensures)))

pub returns-in_ok-put_after-in-Resolve-clause-adds : goal.returns-in_ok-put_after-in-Resolve-clause-adds
unfolding escape_byte
returns-in_ok-put_after-in-Resolve-clause-adds g c = rw c.in-Resolve.is (behind c.push-in-Resolve.result _ _ c.in_ok-put_after-in-Resolve.ensures.adds c.push-in-Resolve.ensures)
