use Rattle.tq_board.proofs.Shapes.{found}
use Rattle.tq_board.proofs.views.MemberToJson.put.Goals as goal

pub returns-clause-kept : goal.returns-clause-kept
returns-clause-kept g c = found c.args.self.now.levels c.servers.result.now c.args.self.now.servers c.servers.ensures.numbers c.servers.ensures.member
