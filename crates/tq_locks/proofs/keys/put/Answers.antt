use Rattle.std.proofs.Common.{ap, ◌∙◌, arith}
use Rattle.tq_locks.{specs.Keys.turned_keys, proofs.Blocks.insert_behind}
use Rattle.tq_locks.proofs.keys.put.Goals as goal

pub returns-then-place-len-clause-put : goal.returns-then-place-len-clause-put
returns-then-place-len-clause-put c =
    let starts = c.args.starts.now.items in
    ap (turned_keys starts) c.put_plain.ensures
    ∙ insert_behind starts c.args.places.now.items c.args.place c.args.key (omega (arith, c.if-place-len.true, c.len.ensures)) c.requires.within
