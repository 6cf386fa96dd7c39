use Rattle.std.proofs.Common.{arith}
use Rattle.tq_mirror.proofs.prefixes.Prefixes.server_count.Goals as goal

pub returns-clause-few : goal.returns-clause-few
returns-clause-few c =
    let most = c.index.result.now.small in
    let count = c.index.result.now.ok.0 in
    let room = c.index.result.now.ok.1 in
    let length = c.len.ensures in
    omega (arith, most, count, room, length)
