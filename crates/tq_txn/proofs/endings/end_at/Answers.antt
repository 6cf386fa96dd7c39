use Rattle.std.proofs.Common.{Ok, rules}
use Rattle.tq_txn.proofs.LineLaws.{any_on, end_told}
use Rattle.tq_txn.proofs.endings.end_at.Goals as goal

pub returns-in_err-ask-clause-asks : goal.returns-in_err-ask-clause-asks
returns-in_err-ask-clause-asks g c = search rules

pub tell-told-requires-clause-verdict : goal.tell-told-requires-clause-verdict
tell-told-requires-clause-verdict g c = (c.args.ended.now, c.in_ok-ask.ensures, c.requires.told)

pub returns-in-Err-clause-asks : goal.returns-in-Err-clause-asks
returns-in-Err-clause-asks g c = search rules

pub returns-in-Ok-clause-asks : goal.returns-in-Ok-clause-asks
returns-in-Ok-clause-asks g c =
    let told = g.A.Asker.told c.args.asker.now in
    let mid = g.A.Asker.told c.tell-told.new.self in
    let asked = any_on {E = Unit {0}} c.args.server.number c.in_ok-ask.ask c.tell-told.result (Ok c.in-Ok.reply) told mid c.tell-told.ensures.exchanges c.in-Ok.ensures in
    end_told c.args.ended.now c.args.server.number c.in_ok-ask.ask c.in-Ok.reply c.txn.result c.is_nothing_here.result c.release_at.result told mid (g.A.Asker.told c.release_at.new.asker)
    c.in_ok-ask.ensures c.txn.ensures c.is_nothing_here.ensures asked.0 c.release_at.ensures.asks
