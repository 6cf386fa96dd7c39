use Rattle.std.proofs.Common.{Some, Ok, Err, sym, ◌∙◌}
use Rattle.tq_txn.specs.declared.txn.Txn.TheVariants as states
use Rattle.tq_txn.specs.{Dialogue.ended_by, Lines.stop_line}
use Rattle.tq_txn.proofs.{KnownLaws.{knows_grow, grown_along}, LineLaws.vote_unstopped}
use Rattle.tq_txn.proofs.stops.prepare_stopping.Goals as goal

pub returns-in-Err-stop_at-clause-asks : goal.returns-in-Err-stop_at-clause-asks
returns-in-Err-stop_at-clause-asks g c =
    vote_unstopped c.args.voting.now c.args.server.number c.args.after c.in-Ok.work c.in-Err-stop_at.fault (g.A.Asker.told c.args.asker.now) (g.A.Asker.told c.stop_at.new.asker)
    (sym c.has_vote.ensures ∙ c.if-has_vote.false) c.in-Ok.ensures.succeeds c.in-Ok.ensures.value c.in-Err-stop_at.ensures.asks

pub returns-in-Ok-stop_at-clause-knows : goal.returns-in-Ok-stop_at-clause-knows
returns-in-Ok-stop_at-clause-knows g c =
    let old = g.A.Asker.told c.args.asker.now in
    let new = g.A.Asker.told c.stop_at.new.asker in
    knows_grow old new (grown_along (stop_line c.args.server.number c.in-Ok.work c.args.after) old new (Some (record { answer = Ok tt; after = tt })) c.in-Ok-stop_at.ensures.asks) (states.Voting c.args.voting.now)

pub returns-in-Err-stop_at-clause-knows : goal.returns-in-Err-stop_at-clause-knows
returns-in-Err-stop_at-clause-knows g c =
    let old = g.A.Asker.told c.args.asker.now in
    let new = g.A.Asker.told c.stop_at.new.asker in
    knows_grow old new (grown_along (stop_line c.args.server.number c.in-Ok.work c.args.after) old new (ended_by (Err c.in-Err-stop_at.fault) tt) c.in-Err-stop_at.ensures.asks) (states.Voting c.args.voting.now)
