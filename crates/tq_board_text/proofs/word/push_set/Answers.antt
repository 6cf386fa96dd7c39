use Rattle.std.proofs.{Common.{◌≡◌, rules}, lemmas.Bool.iff_false}
use Rattle.tq_shape.specs.ServerSet.{servers_of_numbers}
use Rattle.tq_board_text.proofs.Listing.{set_written}
use Rattle.tq_board_text.proofs.word.push_set.Goals as goal

pub returns : goal.returns
returns c =
    let servers = c.args.servers.now in
    let are : c.into_iter-server-iterator.result ≡ servers_of_numbers servers.levels servers.numbers = cc in
    set_written _ _ _ _ servers.levels servers.numbers c.loop-server.invariant c.in-None.ensures.steps.0 are (iff_false c.is_empty.ensures c.if-is_empty.false)

pub returns-then-is_empty : goal.returns-then-is_empty
returns-then-is_empty c = search rules
