use Rattle.std.{proofs.Common.{◌≡◌, nat_eq, ap, ◌∙◌}, specs.Cmp.Lexicographic.pointwise}
use Rattle.tq_shape.specs.ServerSet.{servers_of_numbers}
use Rattle.tq_coterie.{specs.Coterie.numbers_of, proofs.Parts.numbers_of-servers_of}
use Rattle.tq_live.proofs.tree.is_of.Goals as goal

pub loop-server-init : goal.loop-server-init
loop-server-init c =
    let servers = c.args.servers.now in
    let walked = c.into_iter-server-iterator.result in
    let are : walked ≡ servers_of_numbers servers.levels servers.numbers = c.into_iter-server-iterator.ensures.into_iter_gives ∙ c.iter-server-items.ensures.servers in
    let numbers : numbers_of walked ≡ servers.numbers = ap numbers_of are ∙ numbers_of-servers_of servers.levels servers.numbers in
    ap (λ some. pointwise nat_eq some (numbers_of walked)) c.servers-left.ensures.numbers ∙ ap (pointwise nat_eq c.args.quorum.now.servers) numbers
