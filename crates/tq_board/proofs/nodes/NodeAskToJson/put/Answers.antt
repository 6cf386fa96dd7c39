use Rattle.json.specs.Print.{escape_byte}
use Rattle.tq_board.proofs.nodes.NodeAskToJson.put.Goals as goal

pub returns-in-Crash-clause-adds : goal.returns-in-Crash-clause-adds
unfolding escape_byte
returns-in-Crash-clause-adds g c = rw c.in-Crash.is c.push.ensures

pub returns-in-Return-clause-adds : goal.returns-in-Return-clause-adds
unfolding escape_byte
returns-in-Return-clause-adds g c = rw c.in-Return.is c.push-in-Return.ensures
