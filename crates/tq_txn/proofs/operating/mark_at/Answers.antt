use Rattle.std.proofs.Common.{Option, subst, sym}
use Rattle.tq_txn.{specs.{Dialogue.Follows, Script.{mark_line, server_marked}}, proofs.Following.follows_passed}
use Rattle.tq_txn.proofs.operating.mark_at.Goals as goal

pub returns-clause-asks : goal.returns-clause-asks
returns-clause-asks g c =
    let old = g.A.Asker.told c.args.asker.now in
    let new = g.A.Asker.told c.mark_server-answer.new.asker in
    let P : Option (Unit {0}) → Type 0 = λ end. Follows (server_marked c.args.id.number c.args.up) old new end in
    subst P (sym c.pass_over.ensures) (follows_passed (mark_line c.args.id.number c.args.up) c.mark_server-answer.result tt old new c.mark_server-answer.ensures.asks)
