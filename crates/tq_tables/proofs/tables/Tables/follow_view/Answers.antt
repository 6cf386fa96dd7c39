use Rattle.std.proofs.Common.{ap}
use Rattle.tq_shape.specs.Journal.{entry}
use Rattle.tq_tables.{specs.Reserved.unready, proofs.Noted.view-stays}
use Rattle.tq_tables.proofs.tables.Tables.follow_view.Goals as goal

pub returns-then-changes_nothing-clause-noted : goal.returns-then-changes_nothing-clause-noted
returns-then-changes_nothing-clause-noted c = λ journals reply legal stand.
    view-stays journals (entry c.args.ask.now reply) legal c.args.self.now stand (c.changes_nothing.ensures c.if-changes_nothing.true)

pub returns-clause-noted : goal.returns-clause-noted
returns-clause-noted c = λ journals reply legal stand. c.in_ok-ask_view.ensures.asked journals reply legal (ap unready stand)
