use Rattle.std.proofs.Common.{Option, subst, sym}
use Rattle.tq_txn.specs.{Dialogue.{Follows, view_line}, Script.view_asked}
use Rattle.tq_txn.proofs.{LineLaws.asked_view, Following.follows_passed}
use Rattle.tq_txn.proofs.operating.ask_view.Goals as goal

pub returns-clause-asks : goal.returns-clause-asks
returns-clause-asks g c =
    let old = g.A.Asker.told c.args.asker.now in
    let new = g.A.Asker.told c.view-answer.new.self in
    let P : Option (Unit {0}) → Type 0 = λ end. Follows (view_asked c.args.ask) old new end in
    subst P (sym c.pass_over.ensures)
    (follows_passed (view_line c.args.ask) c.view-answer.result tt old new (asked_view c.args.ask c.view-answer.result old new c.view-answer.ensures.exchanges c.view-answer.ensures.same))
